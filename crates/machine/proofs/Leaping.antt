-- Laws of a run's loop: each turn passes over ticks in which nothing ends, and makes the next one.
use mathlib.Core.Path.{◌≡◌, refl, sym, ap, ◌∙◌}
use mathlib.Core.Bool.{Bool, true, false}
use mathlib.Core.List.{List}
use Prim.Native.Nat.{ℕ, zero, suc, ◌+◌, ◌-◌, ◌≤◌, ◌<◌}
use native.Mathlib.Omega.{arith}
use mir.Syntax.{w32}
use mir.Val.{Fits}
use Rattle.motion.specs.declared.Sense.{Sense}
use Rattle.machine.specs.declared.step.Core.{Core}
use Rattle.machine.specs.declared.step.Stepped.{Stepped}
use Rattle.machine.specs.declared.step.Ticked.{Ticked}
use Rattle.machine.specs.Step.{Around, around, fine, next_of}
use Rattle.machine.specs.Run.{ready_of, ticks_of, used_of, run_of}
use Rattle.machine.specs.Skip.{leapt_of}
use Rattle.machine.specs.Valid.{Valid, Ready}
use Rattle.machine.proofs.Keeps.{step_keeps}
use Rattle.machine.proofs.Runs.{used_none, used_more}
use Rattle.machine.proofs.Skipping.{Leaps, leaps}

pub ticks_keep : (n : ℕ) (w : Around) (s : Stepped) → Valid s.core → Valid (ticks_of n w s).core
unfolding ticks_of next_of
ticks_keep zero w s ok = ok
ticks_keep (suc n) w s ok = ticks_keep n w (next_of w s) (step_keeps s.core ok w)

ticks_sum : (m n : ℕ) (w : Around) (s : Stepped) → ticks_of (m + n) w s ≡ ticks_of n w (ticks_of m w s)
unfolding ticks_of
ticks_sum zero n w s = let e : 0 + n ≡ n = omega arith in rw e
ticks_sum (suc m) n w s = let e : suc m + n ≡ suc (m + n) = omega arith in rw e (ticks_sum m n w (next_of w s))

-- ticks in which it isn't ready count
used_leap : (k n : ℕ) (w : Around) (s : Stepped) → k ≤ n → ((j : ℕ) → j < k → ready_of (ticks_of j w s).core ≡ false) → used_of n w s ≡ k + used_of (n - k) w (ticks_of k w s)
unfolding ticks_of
used_leap zero n w s h busy = let z : n - 0 ≡ n = omega arith in rw z (omega arith)
used_leap (suc k) n w s h busy =
    let less : n - suc k ≡ n - 1 - k = omega arith in
    let one = used_more n w s (omega arith) (busy 0 (omega arith)) in
    let more = used_leap k (n - 1) w (next_of w s) (omega arith) (λ j l. busy (suc j) (omega arith)) in
    rw less (omega (arith, one, more))

-- so many ticks are used, and what is left of the run makes up the whole
pub record Running (start : Stepped) (text : List ℕ) (x : Sense) (n : ℕ) (s : Stepped) (used : ℕ) : Type 0 where
  pub ready : Ready s.core text
  pub within : used ≤ n
  pub here : s ≡ ticks_of used (around text x) start
  pub count : used_of n (around text x) start ≡ used + used_of (n - used) (around text x) s

pub begins : (c : Core) (text : List ℕ) (x : Sense) (n : ℕ) (s : Stepped) → Ready c text → s ≡ fine c → Running (fine c) text x n s 0
unfolding ticks_of
begins c text x n s r e = let z : n - 0 ≡ n = omega arith in rw e (record { ready = r; within = omega arith; here = refl; count = rw z (omega arith) })

module _ (first : Core) (text : List ℕ) (x : Sense) (n : ℕ) (s : Stepped) (used : ℕ) (r : Running (fine first) text x n s used) where
  stops : used_of (n - used) (around text x) s ≡ 0 → record { stepped = s; used = used } ≡ run_of n (around text x) first
  unfolding run_of
  stops z = let e : used_of n (around text x) (fine first) ≡ used = omega (arith, r.count) in rw (e, r.here)

  pub is_ready : (b : Bool) → b ≡ ready_of s.core → b ≡ true → record { stepped = s; used = used } ≡ run_of n (around text x) first
  is_ready b p e = stops (used_none (n - used) (around text x) s (sym p ∙ e))

  pub is_over : n ≤ used → record { stepped = s; used = used } ≡ run_of n (around text x) first
  unfolding used_of
  is_over h = let z : n - used ≡ 0 = omega arith in stops (rw z)

module _ (start : Stepped) (text : List ℕ) (x : Sense) (n : ℕ) (s : Stepped) (used : ℕ) (r : Running start text x n s used) where
  module _ (b : Bool) (d : Ticked) (h : used < n) (p : b ≡ ready_of s.core) (e : b ≡ false) (q : d ≡ leapt_of (n - used - 1) (around text x) s) where
    leap : Leaps (around text x) s (n - used - 1) d
    leap = rw q (leaps (around text x) s (n - used - 1) r.ready.valid (sym p ∙ e))

    pub fits : Fits w32 n → Fits w32 (used + d.used)
    fits f = omega (arith, leap.within)

    pub falls : n - (used + d.used) < n - used
    falls = omega (arith, leap.some)

    pub goes_on : Running start text x n d.stepped (used + d.used)
    goes_on =
        let less : n - (used + d.used) ≡ n - used - d.used = omega arith in
        let count = used_leap d.used (n - used) (around text x) s (omega (arith, leap.within)) leap.busy in
        record {
          ready = record { valid = rw leap.here (ticks_keep d.used (around text x) s r.ready.valid); long = r.ready.long };
          within = omega (arith, leap.within);
          here = leap.here ∙ ap (λ (y : Stepped). ticks_of d.used (around text x) y) r.here ∙ sym (ticks_sum used d.used (around text x) start);
          count = rw (less, leap.here) (omega (arith, r.count, count));
        }
