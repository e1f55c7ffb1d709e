-- Laws of `specs/Run`, and that a run's count is the least number of ticks after which it is ready, up to the allowance.
use mathlib.Core.Path.{◌≡◌, refl, sym, ap, ◌∙◌}
use mathlib.Core.Bool.{Bool, true, false, ◌||◌, false≢true}
use Prim.Native.Nat.{ℕ, zero, suc, ◌+◌, ◌-◌, ◌≤◌, ◌<◌}
use native.Mathlib.Numerals.{sub-one}
use native.Mathlib.Omega.{arith}
use Rattle.std.specs.Prelude.{if◌then◌else◌, Err, Ok}
use Rattle.command.specs.Verdict.{Verdict}
use Rattle.basics.proofs.Choice.{by}
use Rattle.command.specs.Numbers.{first_of}
use Rattle.buffer.specs.declared.course.State.{State}
use Rattle.machine.specs.declared.step.Core.{Core}
use Rattle.machine.specs.declared.step.News.{News}
use Rattle.machine.specs.declared.step.Stepped.{Stepped}
use Rattle.machine.specs.Step.{Around, news, no_news, both_of, fine, stepped, active_of, step_of, next_of}
use Rattle.machine.specs.Run.{ready_in, ready_of, ticks_of, used_of}

-- a tick more, at the end
pub ticks_more : (n : ℕ) (w : Around) (s : Stepped) → ticks_of (suc n) w s ≡ next_of w (ticks_of n w s)
unfolding ticks_of
ticks_more zero w s = refl
ticks_more (suc n) w s = ticks_more n w (next_of w s)

pub used_none : (n : ℕ) (w : Around) (s : Stepped) → ready_of s.core ≡ true → used_of n w s ≡ 0
unfolding used_of
used_none zero w s r = refl
used_none (suc n) w s r = rw r

pub used_more : (n : ℕ) (w : Around) (s : Stepped) → 0 < n → ready_of s.core ≡ false → used_of n w s ≡ 1 + used_of (n - 1) w (next_of w s)
unfolding used_of
used_more zero w s h r = absurd (omega arith)
used_more (suc n) w s h r = rw (r, sub-one (suc n)) (omega arith)

-- "in a ready state nothing advances"
still : (x : State) (w : Around) (c : Core) → ready_in x ≡ true → (active_of x w c).next ≡ fine c
unfolding active_of
still (State.Running a) w c r = absurd (false≢true r)
still State.Empty w c r = refl
still State.Stored w c r = refl
still State.Stopped w c r = refl
still State.Done w c r = refl

first_fine : (v : Verdict) → first_of v (Ok tt) ≡ v
first_fine (Ok tt) = refl
first_fine (Err why) = refl

or_nothing : (x : Bool) → (x || false) ≡ x
or_nothing true = refl
or_nothing false = refl

no_more_news : (n : News) → both_of n no_news ≡ n
no_more_news n = ap (λ (v : Verdict). news v (n.eject || false)) (first_fine n.failed) ∙ ap (news n.failed) (or_nothing n.eject)

-- a tick in which nothing fails
pub next_fine : (w : Around) (s : Stepped) (d : Core) → (step_of w s.core).next ≡ fine d → next_of w s ≡ stepped d s.news
unfolding next_of
next_fine w s d e = ap (λ (t : Stepped). stepped t.core (both_of s.news t.news)) e ∙ ap (stepped d) (no_more_news s.news)

pub ready_stays : (w : Around) (s : Stepped) → ready_of s.core ≡ true → next_of w s ≡ s
unfolding step_of
ready_stays w s r = next_fine w s s.core (still s.core.course.state w s.core r)

pub ready_ticks : (n : ℕ) (w : Around) (s : Stepped) → ready_of s.core ≡ true → ticks_of n w s ≡ s
unfolding ticks_of
ready_ticks zero w s r = refl
ready_ticks (suc n) w s r = rw (ready_stays w s r) (ready_ticks n w s r)

-- so the ticks until ready and all the ticks allowed come to the same
pub used_ticks : (n : ℕ) (w : Around) (s : Stepped) → ticks_of (used_of n w s) w s ≡ ticks_of n w s
unfolding used_of ticks_of
used_ticks zero w s = refl
used_ticks (suc n) w s = go (ready_of s.core) refl (used_ticks n w (next_of w s))
  where
    more : ℕ
    more = used_of n w (next_of w s)

    go : (b : Bool) → ready_of s.core ≡ b → ticks_of more w (next_of w s) ≡ ticks_of n w (next_of w s)
        → ticks_of (if b then zero else suc more) w s ≡ ticks_of n w (next_of w s)
    go true r h = sym (rw (ready_stays w s r) (ready_ticks n w s r))
    go false r h = h

-- the count of a run: at most the allowance; before so many ticks it is not ready, and after fewer than allowed it is
pub count_within : (n : ℕ) (w : Around) (s : Stepped) → used_of n w s ≤ n
unfolding used_of
count_within zero w s = omega arith
count_within (suc n) w s =
    let h = count_within n w (next_of w s) in
    by (λ (k : ℕ). k ≤ suc n) (ready_of s.core) (λ e. omega arith) (λ e. omega arith)

pub not_ready_before : (n k : ℕ) (w : Around) (s : Stepped) → k < used_of n w s → ready_of (ticks_of k w s).core ≡ false
unfolding used_of ticks_of
not_ready_before zero k w s h = absurd (omega arith)
not_ready_before (suc n) k w s h = go (ready_of s.core) refl k (λ j. not_ready_before n j w (next_of w s)) h
  where
    more : ℕ
    more = used_of n w (next_of w s)

    go : (b : Bool) → ready_of s.core ≡ b → (k : ℕ) → ((j : ℕ) → j < more → ready_of (ticks_of j w (next_of w s)).core ≡ false)
        → k < (if b then zero else suc more) → ready_of (ticks_of k w s).core ≡ false
    go true r k f h = absurd (omega arith)
    go false r zero f h = r
    go false r (suc k) f h = f k (omega arith)

pub ready_after : (n : ℕ) (w : Around) (s : Stepped) → used_of n w s < n → ready_of (ticks_of (used_of n w s) w s).core ≡ true
unfolding used_of ticks_of
ready_after zero w s h = absurd (omega arith)
ready_after (suc n) w s h = go (ready_of s.core) refl (ready_after n w (next_of w s)) h
  where
    more : ℕ
    more = used_of n w (next_of w s)

    go : (b : Bool) → ready_of s.core ≡ b → (more < n → ready_of (ticks_of more w (next_of w s)).core ≡ true)
        → (if b then zero else suc more) < suc n → ready_of (ticks_of (if b then zero else suc more) w s).core ≡ true
    go true r f h = r
    go false r f h = f (omega arith)
