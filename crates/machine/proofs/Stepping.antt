-- Laws of `specs/Step`, one for each return of the code.
use mathlib.Core.Path.{◌≡◌, sym, ap, ◌∙◌}
use mathlib.Core.Bool.{Bool, true, false}
use mathlib.Core.List.{List}
use Prim.Native.Nat.{ℕ}
use lib.ListN.{take}
use Rattle.std.specs.Prelude.{Err, None, Ok, Result, Some}
use Rattle.command.specs.Verdict.{Verdict}
use Rattle.command.specs.Found.{Found}
use Rattle.command.specs.declared.Command.{Command}
use Rattle.command.specs.declared.refusal.Misread.{Misread}
use Rattle.command.specs.declared.refusal.Refusal.{Refusal}
use Rattle.command.specs.declared.refusal.Refusal.TheVariants as R
use Rattle.command.specs.Numbers.{first_of}
use Rattle.command.specs.Command.{command_at}
use Rattle.motion.specs.declared.Sense.{Sense}
use Rattle.motion.specs.declared.Body.{Body}
use Rattle.motion.specs.declared.Activity.{Activity}
use Rattle.motion.specs.declared.Activity.TheVariants.{Ejecting}
use Rattle.motion.specs.declared.Effect.{Effect}
use Rattle.motion.specs.declared.Effect.TheVariants.{Goes, Ends, Fails, Asks, Opens, Closes}
use Rattle.motion.specs.Motion.{effect_of, onward_of, between}
use Rattle.buffer.specs.declared.course.State.{State}
use Rattle.buffer.specs.declared.course.State.TheVariants.{Running}
use Rattle.buffer.specs.declared.course.Course.{Course}
use Rattle.buffer.specs.Course.{reached, gone_on, failed_of, opened_of, closed_of}
use Rattle.machine.specs.declared.step.Core.{Core}
use Rattle.machine.specs.declared.step.News.{News}
use Rattle.machine.specs.declared.step.Stepped.{Stepped}
use Rattle.machine.specs.Step.{Around, around, core, news, both_of, stepped, fine, asking, fails, went_of, applied_of, taken_of, carried_on, running_of, active_of, step_of, next_of}
use Rattle.machine.specs.Run.{ready_in}
use Rattle.machine.specs.Valid.{Ready, Ticking}

pub ready_case : (s j : State) (b : Bool) → s ≡ j → b ≡ ready_in j → b ≡ ready_in s
ready_case s j b p e = rw p e

module _ (a b : News) (v : Verdict) (e : v ≡ first_of a.failed b.failed) where
  pub asked_before : a.eject ≡ true → news v a.eject ≡ both_of a b
  asked_before h = rw (e, h)

  pub asked_now : a.eject ≡ false → news v b.eject ≡ both_of a b
  asked_now h = rw (e, h)

pub failing : (why : Refusal) (b : Body) (c on : Course) → on ≡ failed_of why c → stepped (core b on) (news (Err why) false) ≡ fails why b c
failing why b c on e = rw e

module _ (g : Result Course Refusal) (b : Body) (c : Course) where
  pub went_on : (on : Course) (r : Stepped) → g ≡ Ok on → r ≡ fine (core b on) → r ≡ went_of g b c
  went_on on r e q = rw e q

  pub went_off : (why : Refusal) (r : Stepped) → g ≡ Err why → r ≡ fails why b c → r ≡ went_of g b c
  went_off why r e q = rw e q

-- what a command does, or a tick of what is in progress
module _ (e : Effect) (next : ℕ) (c : Core) where
  pub goes : (b : Body) (a : Activity) (on : Course) (r : Stepped) → e ≡ Goes b a → on ≡ gone_on a next c.course → r ≡ fine (core b on) → r ≡ applied_of e next c
  unfolding applied_of
  goes b a on r p q h = rw (p, ← q) h

  pub ends : (b : Body) (on : Course) (r : Stepped) → e ≡ Ends b → on ≡ reached next c.course.loops c.course → r ≡ fine (core b on) → r ≡ applied_of e next c
  unfolding applied_of
  ends b on r p q h = rw (p, ← q) h

  pub fails_so : (why : Refusal) (b : Body) (r : Stepped) → e ≡ Fails why b → r ≡ fails why b c.course → r ≡ applied_of e next c
  unfolding applied_of
  fails_so why b r p q = rw p q

  pub asks : (on : Course) (r : Stepped) → e ≡ Asks → on ≡ gone_on Ejecting next c.course → r ≡ asking (core c.body on) → r ≡ applied_of e next c
  unfolding applied_of
  asks on r p q h = rw (p, ← q) h

  module _ (g : Result Course Refusal) (r : Stepped) (w : r ≡ went_of g c.body c.course) where
    pub opens : e ≡ Opens → g ≡ opened_of next c.course → r ≡ applied_of e next c
    unfolding applied_of
    opens p q = rw (p, ← q) w

    pub closes : (n : ℕ) → e ≡ Closes n → g ≡ closed_of n next c.course → r ≡ applied_of e next c
    unfolding applied_of
    closes n p q = rw (p, ← q) w

-- what is found
module _ (x : Sense) (f : Found) (c : Core) where
  pub takes : (k : Command) (next : ℕ) (e : Effect) (r : Stepped) → f ≡ Ok (Some (k, next)) → e ≡ (effect_of x k c.body).next → r ≡ applied_of e next c → r ≡ (taken_of x f c).next
  unfolding taken_of
  takes k next e r p q h = rw (p, ← q) h

  pub refuses : (m : Misread) (r : Stepped) → f ≡ Err m → r ≡ fails (R.Misread m) c.body c.course → r ≡ (taken_of x f c).next
  unfolding taken_of
  refuses m r p h = rw p h

  pub at_end : (on : Course) (r : Stepped) → f ≡ Ok None → on ≡ reached c.course.at c.course.loops c.course → r ≡ fine (core c.body on) → r ≡ (taken_of x f c).next
  unfolding taken_of
  at_end on r p h q = rw (p, ← h) q

pub carries : (x : Sense) (a : Activity) (c : Core) (e : Effect) (r : Stepped) → e ≡ (onward_of x a c.body).next → r ≡ applied_of e c.course.at c → r ≡ (carried_on x a c).next
unfolding carried_on
carries x a c e r p q = rw (← p) q

pub reads_next : (x : Sense) (c : Core) (r : Stepped) (text : List ℕ) (f : Found) → f ≡ command_at (take c.course.len text) c.course.at → r ≡ (taken_of x f c).next → r ≡ (taken_of x (command_at (take c.course.len text) c.course.at) c).next
reads_next x c r text f p e = rw (← p) e

-- a tick of a run: between two commands, or of what is in progress
module _ (a : Activity) (text : List ℕ) (x : Sense) (c : Core) (r : Stepped) (b : Bool) (e : b ≡ between a) where
  pub takes_next : b ≡ true → r ≡ (taken_of x (command_at (take c.course.len text) c.course.at) c).next → r ≡ (running_of a (around text x) c).next
  unfolding running_of
  takes_next h q = rw (← e, h) q

  pub goes_on : b ≡ false → r ≡ (carried_on x a c).next → r ≡ (running_of a (around text x) c).next
  unfolding running_of
  goes_on h q = rw (← e, h) q

pub step_case : (j : State) (w : Around) (c : Core) (r : Stepped) → c.course.state ≡ j → r ≡ (active_of j w c).next → r ≡ (step_of w c).next
unfolding step_of
step_case j w c r p e = e ∙ ap (λ (s : State). (active_of s w c).next) (sym p)

pub next_made : (w : Around) (s t : Stepped) (n : News) → t ≡ (step_of w s.core).next → n ≡ both_of s.news t.news → stepped t.core n ≡ next_of w s
unfolding next_of
next_made w s t n p q = rw (q, p)

pub ticking : (c : Core) (a : Activity) (text : List ℕ) → Ready c text → c.course.state ≡ Running a → Ticking c a text
ticking c a text r e =
    let l = r.valid.course.len in
    record { body = r.valid.body; activity = rw e at r.valid.course.state; inside = rw r.long l }

pub ruleset applying = (goes, ends, fails_so, asks, opens, closes)

pub ruleset taking = (takes, refuses, at_end)
