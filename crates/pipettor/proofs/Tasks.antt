-- Laws of `specs/Byte`, one for each return of the code: what data ask, what the buffer does and what is answered.
use mathlib.Core.Path.{◌≡◌, refl, sym, ap, ◌∙◌}
use mathlib.Core.Bool.{Bool, true, false}
use mathlib.Core.List.{List}
use Prim.Native.Nat.{ℕ}
use lib.Dec.{ltb}
use lib.ListN.{length}
use Rattle.std.specs.Prelude.{if◌then◌else◌, Err, None, Ok, Option, Some}
use Rattle.pipettor.specs.Said.{Said, s1}
use Rattle.command.specs.Verdict.{Verdict}
use Rattle.command.specs.declared.refusal.Refusal.{Refusal}
use Rattle.command.specs.declared.refusal.Refusal.TheVariants as R
use Rattle.command.specs.Numbers.{refusal_number, refusal_column, verdict_number}
use Rattle.text.specs.declared.Question.{Question}
use Rattle.text.specs.declared.Control.{Control}
use Rattle.text.specs.declared.Data.{Data}
use Rattle.text.specs.declared.Data.TheVariants as D
use Rattle.line.specs.declared.Report.{Report}
use Rattle.line.specs.declared.Report.TheVariants.{Nothing}
use Rattle.line.specs.declared.Framing.{Framing}
use Rattle.line.specs.Answer.{status_of, answer_of, Answered}
use Rattle.machine.specs.declared.step.Core.{Core}
use Rattle.buffer.specs.declared.order.Action.{Action}
use Rattle.machine.specs.declared.act.Done.{Done}
use Rattle.command.proofs.Numbers.{every_number_is_1_to_15}
use Rattle.machine.specs.Act.{core_error}
use Rattle.machine.specs.Acts.{Acts}
use Rattle.machine.specs.Valid.{Valid}
use Rattle.machine.proofs.KeepsActs.{error_ok}
use Rattle.pipettor.specs.declared.address.Address.{Address}
use Rattle.pipettor.specs.declared.acting.Task.{Task}
use Rattle.pipettor.specs.declared.acting.Task.TheVariants as T
use Rattle.reports.specs.Reports.{tell_of}
use Rattle.pipettor.specs.Address.{letter_of}
use Rattle.pipettor.specs.Returns.{Performs}
use Rattle.pipettor.specs.Byte.{action_of, string_action, task_of, performed_of, told_code, outcome_of, said_of, written_of, Spoken}

-- by the case at hand
pub told_case : (t j : Option Report) (error : ℕ) (r : Option (Report × ℕ)) → t ≡ j → r ≡ told_code j error → r ≡ told_code t error
told_case t j error r p e = rw p e

module _ (d j : Data) (p : d ≡ j) where
  pub task_data : (r : Task) → r ≡ task_of (Some j) → r ≡ task_of (Some d)
  task_data r e = rw p e

  pub outcome_data : (a : Address) (v : Verdict) (tip : Bool) (c : Core) (r : Option (Report × ℕ)) → r ≡ outcome_of (Some j) a v tip c → r ≡ outcome_of (Some d) a v tip c
  outcome_data a v tip c r e = rw p e

module _ (g j : Option Data) (p : g ≡ j) where
  pub task_got : (r : Task) → r ≡ task_of j → r ≡ task_of g
  task_got r e = rw p e

  pub outcome_got : (a : Address) (v : Verdict) (tip : Bool) (c : Core) (r : Option (Report × ℕ)) → r ≡ outcome_of j a v tip c → r ≡ outcome_of g a v tip c
  outcome_got a v tip c r e = rw p e

-- what data ask
pub task_control : (d : Data) (c : Control) (a : Action) → d ≡ D.Control c → a ≡ action_of c → T.Act a ≡ task_of (Some d)
unfolding task_of
task_control d c a p q = rw (p, q)

pub task_text : (d : Data) (n : ℕ) (run : Bool) (a : Action) → d ≡ D.Text n run → a ≡ string_action run → T.Act a ≡ task_of (Some d)
unfolding task_of
task_text d n run a p q = rw (p, q)

-- what is done
module _ (t : Task) (added text : List ℕ) (c : Core) where
  pub leaves : Valid c → t ≡ T.Leave → Performs t added text c text (record { core = c; verdict = Ok tt })
  unfolding performed_of
  leaves v p = record { is = λ tip. rw p; again = v }

  pub notes : (why : Refusal) (code column : ℕ) (r : Core) → Valid c → t ≡ T.Refuse why → code ≡ refusal_number why → column ≡ refusal_column why → r ≡ core_error code column c → Performs t added text c text (record { core = r; verdict = Err why })
  unfolding performed_of
  notes why code column r v p q l e = record { is = λ tip. rw (p, e, q, l); again = rw e (error_ok code column c (rw q (every_number_is_1_to_15 why).1) v) }

  pub performs : (a : Action) (after : List ℕ) (r : Done) → t ≡ T.Act a → Acts a added text c after r → Performs t added text c after r
  unfolding performed_of
  performs a after r p e = record { is = λ tip. rw p (e.is tip); again = e.again }

-- what is answered: a refused report with its number, other data with theirs
pub tells_no : (t : Option Report) (code error : ℕ) → t ≡ None → code ≡ refusal_number R.Report → Some (Nothing, code) ≡ told_code t error
tells_no t code error p q = rw (p, q)

pub outcome_number :
    (d j : Data) (a : Address) (v : Verdict) (tip : Bool) (c : Core) (code : ℕ) → d ≡ j → code ≡ verdict_number v → Some (Nothing, verdict_number v) ≡ outcome_of (Some j) a v tip c →
    Some (Nothing, code) ≡ outcome_of (Some d) a v tip c
outcome_number d j a v tip c code p q e = rw (p, q) e

pub outcome_wrong_report : (d : Data) (a : Address) (v : Verdict) (tip : Bool) (c : Core) (code : ℕ) → d ≡ D.WrongReport → code ≡ refusal_number R.Report → Some (Nothing, code) ≡ outcome_of (Some d) a v tip c
unfolding outcome_of
outcome_wrong_report d a v tip c code p q = rw (p, q)

-- a report's answer
pub outcome_report :
    (d : Data) (q : Question) (a : Address) (ours : ℕ) (v : Verdict) (tip : Bool) (c : Core) (t : Option Report) (r : Option (Report × ℕ)) →
    d ≡ D.Report q → ours ≡ letter_of a → t ≡ tell_of q ours tip c.body c.course →
    r ≡ told_code t c.course.error → r ≡ outcome_of (Some d) a v tip c
unfolding outcome_of
outcome_report d q a ours v tip c t r p l k e = rw (p, ← l, ← k) e

-- what is said
pub spoken_case : (f : Framing) (o j : Option (Report × ℕ)) (ready : Bool) (before : List ℕ) (r : Said) (after : List ℕ) → o ≡ j → Spoken f j ready before r after → Spoken f o ready before r after
spoken_case f o j ready before r after p e = rw p e

pub mute : (f : Framing) (ready : Bool) (buf : List ℕ) → Spoken f None ready buf (Ok None) buf
unfolding said_of written_of
mute f ready buf = let t = ltb (length buf) 32 in record { said = either t (Ok None); left = either t buf }
  where
    either : {A : Type 0} (t : Bool) (a : A) → a ≡ (if t then a else a)
    either true a = refl
    either false a = refl

-- what the line says, in our words
abbrev passed_on : Option ℕ → Said
passed_on (Some n) = Ok (Some n)
passed_on None = Err s1

either_way : (t : Bool) (n : ℕ) → passed_on (if t then None else Some n) ≡ (if t then Err s1 else Ok (Some n))
either_way true n = refl
either_way false n = refl

module _ (f : Framing) (report : Report) (code status : ℕ) (ready : Bool) (before after : List ℕ) (s : Option ℕ) (q : status ≡ status_of ready code) (a : Answered f status report before s after) where
  spoken : (r : Said) → passed_on s ≡ r → Spoken f (Some (report, code)) ready before r after
  unfolding said_of written_of
  spoken r e =
      let long = length (answer_of f status report) in
      record { said = rw (← q) (sym e ∙ ap passed_on a.said ∙ either_way (ltb (length before) 32) long); left = rw (← q) a.left }

  pub says : (n : ℕ) → s ≡ Some n → Spoken f (Some (report, code)) ready before (Ok (Some n)) after
  says n e = spoken (Ok (Some n)) (ap passed_on e)

  pub says_short : s ≡ None → Spoken f (Some (report, code)) ready before (Err s1) after
  says_short e = spoken (Err s1) (ap passed_on e)
