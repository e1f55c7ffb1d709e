-- What every method of the controller promises of what it hands back: it is what its definition says, and the controller that is left can be called again.
use Rattle.std.specs.Prelude.{ℕ, ◌≡◌, Bool, List}
use Rattle.machine.specs.declared.step.Core.{Core}
use Rattle.machine.specs.declared.act.Done.{Done}
use Rattle.machine.specs.Act.{acted}
use Rattle.machine.specs.Device.{device}
use Rattle.machine.specs.Valid as Machine
use Rattle.pipettor.specs.declared.acting.Task.{Task}
use Rattle.pipettor.specs.Byte.{performed_of}
use Rattle.pipettor.specs.declared.Controller.{Controller}
use Rattle.pipettor.specs.Valid.{Valid}

pub record Returns {A : Type 0} (r said : A) (left : Controller) : Type 0 where
  pub is : r ≡ said
  pub again : Valid left

-- the same of a method that asks nothing of its controller
pub record Keeps {A : Type 0} (r said : A) (before left : Controller) : Type 0 where
  pub is : r ≡ said
  pub again : Valid before → Valid left

-- the same of a task, over a text that is lent and whatever the tip is
pub record Performs (t : Task) (added before : List ℕ) (c : Core) (text : List ℕ) (r : Done) : Type 0 where
  pub is : (tip : Bool) → acted text tip r.core r.verdict ≡ (performed_of t added (device before tip c)).next
  pub again : Machine.Valid r.core
