-- The numbers that a command of 01's table can have, its defaults included.
use Rattle.settings.specs.declared.Quantity.TheVariants as Q
use Rattle.settings.specs.declared.Volume.TheVariants as V
use Rattle.settings.specs.Limits.{range_of, speeds_of, aspects_of, Between}
use Rattle.command.specs.declared.Command.{Command}
use Rattle.command.specs.declared.Command.TheVariants as C

unfoldable pub Allowed : Command → Type 0
Allowed (C.Initialise n) = Between (range_of Q.Home) n
Allowed (C.Move way (V.Increments n)) = Between (range_of Q.Increments) n
Allowed (C.Move way (V.Nanolitres n)) = Between (range_of Q.Nanolitres) n
Allowed (C.Speed pace n) = Between (speeds_of pace) n
Allowed (C.Slopes up down) = Between (range_of Q.Slope) up × Between (range_of Q.Slope) down
Allowed (C.Backlash n) = Between (range_of Q.Backlash) n
Allowed (C.Compensate b down) = Between (range_of Q.Compensation) b
Allowed (C.Delay n) = Between (range_of Q.Delay) n
Allowed (C.Set a n) = Between (aspects_of a) n
Allowed (C.Detect here) = Unit {0}
Allowed (C.Eject bare) = Unit {0}
Allowed C.Open = Unit {0}
Allowed (C.Close n) = Between (range_of Q.Passes) n
