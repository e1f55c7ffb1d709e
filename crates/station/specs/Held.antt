-- What a station holds.
use Rattle.std.specs.Prelude.{ℕ}
use Rattle.motion.specs.declared.Sense.{Sense}
use Rattle.desk.specs.declared.Desk.{Desk}
use Rattle.pipettor.specs.declared.Controller.{Controller}

-- whose lines are taken, how many bytes the answer buffers have, what the host senses, and the controller
pub record Held : Type 0 where
  pub desk : Desk
  pub lend : ℕ
  pub sense : Sense
  pub controller : Controller
