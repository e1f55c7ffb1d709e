-- The bounds that hold of every body that comes from making and earlier calls.
use Rattle.std.specs.Prelude.{◌≤◌}
use Rattle.settings.specs.Limits.{travel_most, Kept}
use Rattle.level.specs.Level.{SearchOk}
use Rattle.motion.specs.declared.Body.{Body}
use Rattle.motion.specs.declared.Travel.{Travel}
use Rattle.motion.specs.declared.Effect.{Effect}
use Rattle.motion.specs.declared.Effect.TheVariants.{Goes, Ends, Fails, Asks, Opens, Closes}
use Rattle.motion.specs.declared.Activity.{Activity}
use Rattle.motion.specs.declared.Activity.TheVariants.{Initialising, Moving, Delaying, Approaching, Searching, Ejecting, Between}

pub record BodyOk (b : Body) : Type 0 where
  pub plunger : b.plunger ≤ 44000
  pub exact : b.exact ≤ travel_most
  pub settings : Kept b.settings

-- ticks stay small since the slowest movement takes 44000 of them
pub record TravelOk (t : Travel) : Type 0 where
  pub from : t.from ≤ 44000
  pub goal : t.goal ≤ 44000
  pub slow : 1000 ≤ t.speed
  pub ticks : t.ticks ≤ 44000

abbrev pub ActivityOk : Activity → Type 0
ActivityOk (Initialising t) = TravelOk t
ActivityOk (Moving t) = TravelOk t
ActivityOk (Delaying k) = Unit {0}
ActivityOk (Approaching t z) = TravelOk t
ActivityOk (Searching s) = SearchOk s
ActivityOk Ejecting = Unit {0}
ActivityOk Between = Unit {0}

abbrev pub EffectOk : Effect → Type 0
EffectOk (Goes b a) = BodyOk b × ActivityOk a
EffectOk (Ends b) = BodyOk b
EffectOk (Fails why b) = BodyOk b
EffectOk Asks = Unit {0}
EffectOk Opens = Unit {0}
EffectOk (Closes n) = Unit {0}
