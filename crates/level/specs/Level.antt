-- 02, W-206, "Liquid level detection" (004, 6.1): what a reading is, and a tick of the search.
use Rattle.std.specs.Prelude.{ℕ, ◌+◌, ◌-◌, ◌*◌, min, ◌≤◌, Bool, ltb, leb, eqb, ℤ, pos, negsuc, if◌then◌else◌, None, Option, Some}
use Rattle.settings.specs.declared.Detection.{Detection}
use Rattle.settings.specs.declared.Quantity.TheVariants.{Increments}
use Rattle.settings.specs.Limits.{range_of}
use Rattle.settings.specs.Units.{gone_of}
use Rattle.level.specs.declared.Search.{Search}
use Rattle.level.specs.declared.Sought.{Sought}
use Rattle.level.specs.declared.Finding.{Finding}
use Rattle.level.specs.declared.Finding.TheVariants.{TooMuch, Found, Missed, On}

-- "a signed pressure reading", "outside -32767 to 32767" or not; inside it is counted from -32767 on, 0 to 65534, and two readings are as far apart as their counts
unfoldable pub pressure_of : ℤ → Option ℕ
pressure_of (pos n) = if leb n 32767 then Some (32767 + n) else None
pressure_of (negsuc n) = if leb n 32766 then Some (32766 - n) else None  -- negsuc n is -1 - n

unfoldable pub apart : ℕ → ℕ → ℕ
apart a b = if ltb a b then b - a else a - b

-- a search that begins, and a tick later
abbrev pub begun : ℕ → ℕ → Search
begun from z = record { from = from; zero = z; ticks = 0; count = 0 }

abbrev pub later_of : Search → Search
later_of s = record { from = s.from; zero = s.zero; ticks = s.ticks + 1; count = s.count }

abbrev pub counted_of : ℕ → Search → Search
counted_of n s = record { from = s.from; zero = s.zero; ticks = s.ticks; count = n }

-- the travel left, where "the plunger aspirates (p5 is 0) or dispenses (1)"
unfoldable pub left_of : Detection → ℕ → ℕ
left_of d from = if eqb d.mode 1 then from else (range_of Increments).most - from

-- how far a search may go: "p4 increments or the end of travel"
unfoldable pub limit_of : Detection → ℕ → ℕ
limit_of d from = min d.most (left_of d from)

-- how far it has gone, "at p3", and where the plunger is then
unfoldable pub gone_in : Detection → Search → ℕ
gone_in d s = gone_of s.ticks d.speed (limit_of d s.from)

unfoldable pub plunger_in : Detection → Search → ℕ
plunger_in d s = if eqb d.mode 1 then s.from - gone_in d s else s.from + gone_in d s

-- a reading "further than p0 from the zero"
unfoldable pub far : Detection → ℕ → ℕ → Bool
far d z r = ltb d.threshold (apart r z)

-- "The search counts successive readings further than p0 from the zero; any other sets the count to 0."
unfoldable pub count_with : Detection → Search → ℕ → ℕ
count_with d s r = if far d s.zero r then s.count + 1 else 0

-- "Ten times the count reaching p1 ends the search as found"; "6 when p4 increments or the end of travel are reached in a tick without a find"
unfoldable pub counted_as : Detection → Search → ℕ → Finding
counted_as d s n =
    if leb d.duration (10 * n) then Found
    else if eqb (gone_in d s) (limit_of d s.from) then Missed
    else On (counted_of n s)

-- "5 for a reading outside"
unfoldable pub finding_of : Detection → Search → Option ℕ → Finding
finding_of d s None = TooMuch
finding_of d s (Some r) = counted_as d s (count_with d s r)

-- a tick: "the plunger moves before the reading is judged"
unfoldable pub sought_of : Detection → Search → Option ℕ → Sought
sought_of d s p = record { plunger = plunger_in d (later_of s); finding = finding_of d (later_of s) p }

-- what holds of every search that goes on; the slowest takes 44000 ticks
pub record SearchOk (s : Search) : Type 0 where
  pub from : s.from ≤ 44000
  pub ticks : s.ticks ≤ 44000
  pub count : s.count ≤ s.ticks
