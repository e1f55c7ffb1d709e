-- The buffer's state in the host's memory: eleven tags, and the numbers that go with them; those that don't are 0.
use Rattle.std.specs.Prelude.{ℕ, Bool, ◌&&◌, eqb, if◌then◌else◌}
use Rattle.level.specs.declared.Search.{Search}
use Rattle.motion.specs.declared.Travel.{Travel}
use Rattle.motion.specs.declared.Activity.{Activity}
use Rattle.motion.specs.declared.Activity.TheVariants.{Initialising, Moving, Delaying, Approaching, Searching, Ejecting, Between}
use Rattle.buffer.specs.declared.course.State.{State}
use Rattle.buffer.specs.declared.course.State.TheVariants.{Empty, Stored, Running, Stopped, Done}
use Rattle.image.specs.declared.progress.Progress.{Progress}

abbrev pub waiting : ℕ → ℕ → Progress
waiting tag k = record { tag = tag; from = 0; goal = 0; speed = 0; ticks = k; zero = 0; count = 0 }

abbrev pub travelling : ℕ → Travel → ℕ → Progress
travelling tag t z = record { tag = tag; from = t.from; goal = t.goal; speed = t.speed; ticks = t.ticks; zero = z; count = 0 }

abbrev pub seeking : Search → Progress
seeking s = record { tag = 9; from = s.from; goal = 0; speed = 0; ticks = s.ticks; zero = s.zero; count = s.count }

abbrev pub progress_in : Activity → Progress
progress_in Between = waiting 4 0
progress_in (Delaying k) = waiting 5 k
progress_in (Initialising t) = travelling 6 t 0
progress_in (Moving t) = travelling 7 t 0
progress_in (Approaching t z) = travelling 8 t z
progress_in (Searching s) = seeking s
progress_in Ejecting = waiting 10 0

abbrev pub progress_of : State → Progress
progress_of Empty = waiting 0 0
progress_of Stored = waiting 1 0
progress_of Stopped = waiting 2 0
progress_of Done = waiting 3 0
progress_of (Running a) = progress_in a

-- and back: by the tag
abbrev pub travel_by : Progress → Travel
travel_by p = record { from = p.from; goal = p.goal; speed = p.speed; ticks = p.ticks }

abbrev pub search_by : Progress → Search
search_by p = record { from = p.from; zero = p.zero; ticks = p.ticks; count = p.count }

unfoldable pub state_at : ℕ → Progress → Travel → Search → State
state_at tag p t s =
    if eqb tag 1 then Stored
    else if eqb tag 2 then Stopped
    else if eqb tag 3 then Done
    else if eqb tag 4 then Running Between
    else if eqb tag 5 then Running (Delaying p.ticks)
    else if eqb tag 6 then Running (Initialising t)
    else if eqb tag 7 then Running (Moving t)
    else if eqb tag 8 then Running (Approaching t p.zero)
    else if eqb tag 9 then Running (Searching s)
    else if eqb tag 10 then Running Ejecting
    else Empty

abbrev pub state_by : Progress → State
state_by p = state_at p.tag p (travel_by p) (search_by p)

unfoldable pub same_progress : Progress → Progress → Bool
same_progress a b =
    eqb a.tag b.tag &&
    (eqb a.from b.from &&
    (eqb a.goal b.goal &&
    (eqb a.speed b.speed && (eqb a.ticks b.ticks && (eqb a.zero b.zero && eqb a.count b.count)))))
