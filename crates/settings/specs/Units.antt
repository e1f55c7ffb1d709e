-- 01, "Ticks, volume and motion" and "Reports": the arithmetic of speeds, delays, volumes and distances.
use Rattle.std.specs.Prelude.{ℕ, ◌+◌, ◌-◌, ◌*◌, ◌/◌, min, ◌≤◌, Bool, ltb, if◌then◌else◌}
use Rattle.settings.specs.declared.Volume.{Volume}
use Rattle.settings.specs.declared.Volume.TheVariants.{Increments, Nanolitres}

-- a / b to the nearest whole number, half upwards
unfoldable pub nearest : ℕ → ℕ → ℕ
nearest a b = (2 * a + b) / (2 * b)

-- "n nL/s is 2n/5 tenths, rounded to nearest; b plays no part in speeds"
unfoldable pub tenths_of : ℕ → ℕ
tenths_of n = nearest (2 * n) 5

-- "5/2 nL/s per tenth, half up"
unfoldable pub flow_of : ℕ → ℕ
flow_of tenths = nearest (5 * tenths) 2

-- "M below 10 is 0; else the nearest 10 ms, 5 upwards", and a tick is 10 ms
unfoldable pub ticks_of : ℕ → ℕ
ticks_of ms = if ltb ms 10 then 0 else nearest ms 10

-- "Let C be 40000 plus or minus b": millionths of an increment for a nL
unfoldable pub rate_of : ℕ → Bool → ℕ
rate_of b down = if down then 40000 - b else 40000 + b

-- "A volume of n nL is n × C; one increment is 1,000,000"
unfoldable pub millionths_of : Volume → ℕ → ℕ
millionths_of (Increments n) C = n * 1000000
millionths_of (Nanolitres n) C = n * C

-- "The goal is (exact + 500,000) / 1,000,000 rounded down"
unfoldable pub goal_of : ℕ → ℕ
goal_of exact = (exact + 500000) / 1000000

-- a whole place within half an increment of an exact position
pub record Near (place exact : ℕ) : Type 0 where
  pub above : place * 1000000 ≤ exact + 500000
  pub below : exact ≤ place * 1000000 + 500000

-- "plunger × 1,000,000 / C nL, nearest, half up"
unfoldable pub nanolitres_of : ℕ → ℕ → ℕ
nanolitres_of plunger C = nearest (plunger * 1000000) C

-- "after k ticks at s tenths of an increment a second, the distance gone is k × s / 1000 rounded down, never more than the distance"
unfoldable pub gone_of : ℕ → ℕ → ℕ → ℕ
gone_of k s distance = min (k * s / 1000) distance

-- how many ticks a distance takes: the least k with k × s / 1000 at least the distance (a theorem of proofs/Motion)
unfoldable pub ticks_for : ℕ → ℕ → ℕ
ticks_for s distance = (distance * 1000 + (s - 1)) / s
