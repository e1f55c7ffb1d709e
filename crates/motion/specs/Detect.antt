-- 02, W-206, "Liquid level detection": B, the move to p2, and the search, as they move the plunger. A tick of the search itself: level, `Level`.
use Rattle.std.specs.Prelude.{ℕ, ◌*◌, Bool, true, false, ◌&&◌, eqb, if◌then◌else◌, None, Option, Some}
use Rattle.settings.specs.declared.Detection.{Detection}
use Rattle.command.specs.declared.refusal.Refusal.TheVariants as R
use Rattle.level.specs.declared.Search.{Search}
use Rattle.level.specs.declared.Finding.{Finding}
use Rattle.level.specs.declared.Finding.TheVariants.{TooMuch, Found, Missed, On}
use Rattle.level.specs.Level.{pressure_of, begun, sought_of}
use Rattle.motion.specs.declared.Sense.{Sense}
use Rattle.motion.specs.declared.Body.{Body}
use Rattle.motion.specs.declared.Travel.{Travel}
use Rattle.motion.specs.declared.Activity.TheVariants.{Approaching, Searching}
use Rattle.motion.specs.declared.Effect.{Effect}
use Rattle.motion.specs.declared.Effect.TheVariants.{Goes, Ends, Fails}
use Rattle.motion.specs.Events.{start, Turn, quiet, told}
use Rattle.motion.specs.Bodies.{travel, body_at, body_for, at_plunger}

-- "The host hands in a signed pressure reading with each tick"
abbrev pub felt_in : Sense → Option ℕ
felt_in s = pressure_of s.reading

-- p2, in millionths of an increment
abbrev pub place_for : Body → ℕ
place_for b = b.settings.detection.place * 1000000

-- "B0 first moves to p2 at V"; "the move to p2 counts as an A"
unfoldable pub approach_of : ℕ → Body → Effect
approach_of z b =
    let p2 = b.settings.detection.place in
    if eqb b.plunger p2
    then Goes (body_for (place_for b) b) (Searching (begun p2 z))
    else Goes (body_for (place_for b) b) (Approaching (travel b.plunger p2 b.settings.top) z)

-- "On taking B that tick's reading becomes the zero"; "B1 stays"; "5 for a reading outside"
unfoldable pub zeroed_of : Bool → Option ℕ → Body → Turn Effect
zeroed_of here None b = quiet (Fails R.TooMuchPressure b)
zeroed_of true (Some z) b = quiet (Goes b (Searching (begun b.plunger z)))
zeroed_of false (Some z) b = told (start (place_for b)) (approach_of z b)

-- "p5 of 1 with p2 of 0"
unfoldable pub no_way_down : Detection → Bool
no_way_down d = eqb d.mode 1 && eqb d.place 0

-- "in the run, in this order, 7 uninitialised, 3 for p5 of 1 with p2 of 0, 5 for a reading outside -32767 to 32767"
unfoldable pub detect_of : Bool → Sense → Body → Turn Effect
detect_of here s b =
    if b.initialised
    then (
    if no_way_down b.settings.detection
    then quiet (Fails R.NoWayDown b)
    else zeroed_of here (felt_in s) b)
    else quiet (Fails R.NotInitialised b)

-- "the end of a search (by 5 or 6 too), or a 5 that halts that move, as a start at the plunger"
abbrev pub settled_at : Body → Body
settled_at b = body_for (at_plunger b) b

abbrev pub ends_here : (Body → Effect) → Body → Turn Effect
ends_here how b = told (start (at_plunger b)) (how (settled_at b))

-- a tick of the move to p2, the plunger moved: "5 for a reading outside .. in any tick from the one that takes B"; where it arrives the search begins with the next tick
unfoldable pub approached_of : Option ℕ → Travel → ℕ → Body → Turn Effect
approached_of None t z b = ends_here (Fails R.TooMuchPressure) b
approached_of (Some r) t z b =
    quiet
    (if eqb b.plunger t.goal
    then Goes b (Searching (begun b.plunger z))
    else Goes b (Approaching t z))

-- a tick of the search, the plunger moved: too much pressure is 5, "found" ends B as any command ends, and no way left is 6
unfoldable pub found_as : Finding → Body → Turn Effect
found_as TooMuch b = ends_here (Fails R.TooMuchPressure) b
found_as Found b = ends_here Ends b
found_as Missed b = ends_here (Fails R.NoLiquid) b
found_as (On s) b = quiet (Goes b (Searching s))

unfoldable pub searched_of : Option ℕ → Search → Body → Turn Effect
searched_of p s b = let t = sought_of b.settings.detection s p in found_as t.finding (body_at t.plunger b)
