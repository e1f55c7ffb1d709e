-- What a string or a control promises of the core that it leaves: it is what the definition says, whatever the tip is, and it can be called again.
use Rattle.std.specs.Prelude.{ℕ, ◌≡◌, Bool, List}
use Rattle.buffer.specs.declared.order.Action.{Action}
use Rattle.machine.specs.declared.step.Core.{Core}
use Rattle.machine.specs.declared.act.Done.{Done}
use Rattle.machine.specs.Act.{acted, act_of}
use Rattle.machine.specs.Device.{device}
use Rattle.machine.specs.Valid.{Valid}

pub record Acts (a : Action) (added before : List ℕ) (c : Core) (text : List ℕ) (r : Done) : Type 0 where
  pub is : (tip : Bool) → acted text tip r.core r.verdict ≡ (act_of a added (device before tip c)).next
  pub again : Valid r.core
