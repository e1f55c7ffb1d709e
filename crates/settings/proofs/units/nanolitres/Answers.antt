use native.Mathlib.Nat.{div-zero}
use Rattle.std.proofs.Common.{◌≡◌, ℕ, rules, sym}
use Rattle.settings.specs.Units.{nearest, nanolitres_of}
use Rattle.settings.proofs.units.nanolitres.Goals as goal

none : (a C : ℕ) → C ≡ 0 → 0 ≡ nearest a C
unfolding nearest
none a C h = rw h (sym (div-zero _))

pub returns-then-rate-eq0 : goal.returns-then-rate-eq0
unfolding nanolitres_of
returns-then-rate-eq0 c = search (rules, none)
