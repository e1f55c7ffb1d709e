-- Theorem: the reader keeps to the grammar. A text reads exactly where it is commands, and its first wrong place is exactly where the grammar says.
use mathlib.Core.Path.{◌≡◌, refl, sym, ap, ◌∙◌}
use mathlib.Core.Bool.{Bool, true, false, ◌||◌}
use mathlib.Core.List.{List, [], ◌∷◌, ◌++◌, append_assoc}
use Prim.Native.Nat.{ℕ, zero, suc, ◌+◌, ◌≤◌}
use native.Mathlib.Omega.{arith}
use lib.Dec.{eqb}
use lib.ListN.{length, length-append}
use Rattle.std.specs.Prelude.{if◌then◌else◌, Err, None, Ok, Option, Result, Some}
use Rattle.settings.specs.declared.Aspect.{Aspect}
use Rattle.command.specs.declared.Malformed.{Malformed}
use Rattle.command.specs.declared.Malformed.TheVariants.{NoLetter, WrongOperand}
use Rattle.basics.specs.Bytes.{every}
use Rattle.basics.specs.Exactly.{Exactly}
use Rattle.basics.proofs.Choice.{by}
use Rattle.basics.proofs.Digits.{and_both}
use Rattle.operand.specs.declared.Class.TheVariants as Class
use Rattle.operand.specs.Text.{has, run, rest, operand_text}
use Rattle.operand.proofs.Runs.{run_rest, run_every, rest_begins, run_all, run_joined}
use Rattle.command.specs.declared.Command.{Command}
use Rattle.command.specs.declared.Letter.{Letter}
use Rattle.command.specs.declared.Letter.TheVariants as L
use Rattle.operand.specs.declared.Pair.{Pair}
use Rattle.operand.specs.Number.{pair_of}
use Rattle.command.specs.declared.refusal.Misread.{Misread}
use Rattle.command.specs.declared.refusal.Misread.TheVariants as M
use Rattle.command.specs.Command.{placed, found_in}
use Rattle.command.specs.Table.{letter_of, made, both, in_unit, volume_of, paced_of, slopes_of, compensation_of, row_of, set_by, aspect_of, command_of}
use Rattle.text.specs.Text.{Step, Reading, reads, wrong, then_read, verdict, read_from, read_of, check_of}
use Rattle.frames.specs.Grammar.{is_among, letters, Ended, Operands, Commands, none, command, Apart, UpTo, Judged}

-- the letters of the table, counted by name and by byte
abbrev named : Letter → Bool
named L.Home = true
named (L.Volume way) = true
named (L.Speed pace) = true
named L.Slopes = true
named L.Backlash = true
named L.Compensation = true
named L.Delay = true
named L.Aspect = true
named L.Detect = true
named L.Eject = true
named L.Open = true
named L.Close = true
named L.Other = false

one_of : (t : Bool) (x others : Letter) (m : Bool) → named x ≡ true → named others ≡ m → named (if t then x else others) ≡ (t || m)
one_of true x others m e h = e
one_of false x others m e h = h

named_are_the_letters : (b : ℕ) → named (letter_of b) ≡ is_among b letters
unfolding letter_of
named_are_the_letters b =
    one_of (eqb b 87) _ _ _ refl
    (one_of (eqb b 65) _ _ _ refl
    (one_of (eqb b 80) _ _ _ refl
    (one_of (eqb b 68) _ _ _ refl
    (one_of (eqb b 86) _ _ _ refl
    (one_of (eqb b 118) _ _ _ refl
    (one_of (eqb b 99) _ _ _ refl
    (one_of (eqb b 76) _ _ _ refl
    (one_of (eqb b 75) _ _ _ refl
    (one_of (eqb b 98) _ _ _ refl
    (one_of (eqb b 77) _ _ _ refl
    (one_of (eqb b 112) _ _ _ refl
    (one_of (eqb b 66) _ _ _ refl
    (one_of (eqb b 69) _ _ _ refl
    (one_of (eqb b 103) _ _ _ refl
    (one_of (eqb b 71) _ _ _ refl refl)))))))))))))))

-- a letter of the table makes a command or refuses its operand text; no other does
abbrev lettered : Result Command Malformed → Bool
lettered (Ok c) = true
lettered (Err (WrongOperand read)) = true
lettered (Err NoLetter) = false

lettered_one : (read : ℕ) (f : ℕ → Command) (x : Option ℕ) → lettered (made read f x) ≡ true
unfolding made
lettered_one read f (Some n) = refl
lettered_one read f None = refl

lettered_two : (read : ℕ) (f : ℕ → ℕ → Command) (x y : Option ℕ) → lettered (both read f x y) ≡ true
unfolding both
lettered_two read f (Some a) (Some b) = refl
lettered_two read f (Some a) None = refl
lettered_two read f None y = refl

lettered_unit : (read : ℕ) (u x y : Option ℕ) (f g : ℕ → Command) → lettered (in_unit read u (made read f x) (made read g y)) ≡ true
unfolding in_unit
lettered_unit read (Some n) x y f g = by (λ r. lettered r ≡ true) (eqb n 0) (λ _. lettered_one read f x) (λ _. lettered_one read g y)
lettered_unit read None x y f g = refl

lettered_row : (row : Option Aspect) (p : Pair) → lettered (set_by row p) ≡ true
unfolding set_by
lettered_row (Some a) p = lettered_one _ _ _
lettered_row None p = refl

lettered_as_named : (l : Letter) (t : List ℕ) → lettered (command_of l t) ≡ named l
unfolding command_of volume_of paced_of slopes_of compensation_of aspect_of
lettered_as_named L.Home t = lettered_one _ _ _
lettered_as_named (L.Volume way) t = lettered_unit _ _ _ _ _ _
lettered_as_named (L.Speed pace) t = lettered_unit _ _ _ _ _ _
lettered_as_named L.Slopes t = lettered_two _ _ _ _
lettered_as_named L.Backlash t = lettered_one _ _ _
lettered_as_named L.Compensation t = lettered_two _ _ _ _
lettered_as_named L.Delay t = lettered_one _ _ _
lettered_as_named L.Aspect t = lettered_row (row_of (pair_of t).first) (pair_of t)
lettered_as_named L.Detect t = lettered_one _ _ _
lettered_as_named L.Eject t = lettered_one _ _ _
lettered_as_named L.Open [] = refl
lettered_as_named L.Open (b ∷ t) = refl
lettered_as_named L.Close t = lettered_one _ _ _
lettered_as_named L.Other t = refl

no_letter : (f : Result Command Malformed) → lettered f ≡ false → f ≡ Err NoLetter
no_letter (Ok c) e = let z : ◌≡◌ {A = ℕ} 0 1 = cc in absurd (omega arith)
no_letter (Err (WrongOperand read)) e = let z : ◌≡◌ {A = ℕ} 0 1 = cc in absurd (omega arith)
no_letter (Err NoLetter) e = refl

module _ (b : ℕ) (t : List ℕ) where
  lettered_as_listed : lettered (command_of (letter_of b) t) ≡ is_among b letters
  lettered_as_listed = lettered_as_named (letter_of b) t ∙ named_are_the_letters b

  foreign_makes_nothing : is_among b letters ≡ false → command_of (letter_of b) t ≡ Err NoLetter
  foreign_makes_nothing h = no_letter (command_of (letter_of b) t) (lettered_as_listed ∙ h)

  nothing_made_is_foreign : command_of (letter_of b) t ≡ Err NoLetter → is_among b letters ≡ false
  nothing_made_is_foreign e = sym lettered_as_listed ∙ ap lettered e

  pub what_makes_is_listed : (c : Command) → command_of (letter_of b) t ≡ Ok c → is_among b letters ≡ true
  what_makes_is_listed c e = sym lettered_as_listed ∙ ap lettered e

-- the longest run behind a letter is its operand text
no_operand : (t : List ℕ) → Ended t → operand_text t ≡ []
unfolding run
no_operand [] h = refl
no_operand (b ∷ t) h = rw h

the_operand : (operand after : List ℕ) → Operands operand after → operand_text (operand ++ after) ≡ operand
the_operand operand after o = run_joined Class.Operand operand after (no_operand after o.longest) ∙ run_all Class.Operand operand o.operands

-- the reader passes over an operand text, and what follows begins with a letter
past_operands : (at : ℕ) (operand after : List ℕ) → every (has Class.Operand) operand ≡ true → read_from true at (operand ++ after) ≡ read_from true (at + length operand) after
unfolding read_from every
past_operands at [] after h = ap (λ n. read_from true n after) (omega arith)
past_operands at (b ∷ t) after h =
    let p = and_both (has Class.Operand b) (every (has Class.Operand) t) h in
    rw p.0 (past_operands (at + 1) t after p.1 ∙ ap (λ n. read_from true n after) (omega arith))

at_a_letter : (at : ℕ) (t : List ℕ) → Ended t → read_from true at t ≡ read_from false at t
unfolding read_from
at_a_letter at [] h = refl
at_a_letter at (b ∷ t) h = rw h

-- a letter with its operand text, and then what follows
module _ (at letter : ℕ) (operand after : List ℕ) (o : Operands operand after) where
  one_read : read_from false at (letter ∷ (operand ++ after)) ≡ then_read at (placed at (length operand) (command_of (letter_of letter) operand)) (read_from false (at + 1 + length operand) after)
  unfolding read_from found_in
  one_read = rw (the_operand operand after o, past_operands (at + 1) operand after o.operands, at_a_letter (at + 1 + length operand) after o.longest)

-- a command in front of what is wrong
skipped : (at letter : ℕ) (operand u : List ℕ) (c : Command) → command_of (letter_of letter) operand ≡ Ok c → (r : Reading) (m : Misread) → r ≡ wrong m → then_read at (placed at (length operand) (command_of (letter_of letter) operand)) r ≡ wrong m
unfolding placed
skipped at letter operand u c is r m e = rw (is, e)

-- what is wrong behind commands is wrong in the text
module _ (u : List ℕ) where
  ended_behind : (t : List ℕ) → Ended t → Ended u → Ended (t ++ u)
  ended_behind [] h e = e
  ended_behind (b ∷ t) h e = h

  apart_later : (t : List ℕ) → Ended u → Apart t u
  apart_later [] e = tt
  apart_later (b ∷ t) e = e

  module _ (first : ℕ → Misread) (is : (k : ℕ) → read_from false k u ≡ wrong (first k)) where
    behind_commands : (before : List ℕ) → Commands before → Apart before u → (at : ℕ) → read_from false at (before ++ u) ≡ wrong (first (at + length before))
    behind_commands before none a at = is at ∙ ap (λ n. wrong (first n)) (omega arith)
    behind_commands before (command letter operand after c o m more) a at =
        let wider : Operands operand (after ++ u) = record { operands = o.operands; longest = ended_behind after o.longest a } in
        let later = behind_commands after more (apart_later after a) (at + 1 + length operand) in
        ap (λ t. read_from false at (letter ∷ t)) (append_assoc operand after u) ∙
        one_read at letter operand (after ++ u) wider ∙
        skipped at letter operand (after ++ u) c m _ _ later ∙
        ap (λ n. wrong (first n)) (rw (length-append operand after) (omega arith))

wrong_where_said : {t : List ℕ} {place : ℕ} {u : List ℕ} (up : UpTo t place u) (first : ℕ → Misread) → ((k : ℕ) → read_from false k u ≡ wrong (first k)) → read_from false 0 t ≡ wrong (first place)
wrong_where_said {t} {place} {u} up first is =
    ap (read_from false 0) up.whole ∙
    behind_commands u first is up.before up.commands up.apart 0 ∙
    ap (λ n. wrong (first n)) (omega (arith, up.here))

-- commands and nothing else
all_read : (t : List ℕ) → Commands t → (at : ℕ) → (steps : List Step) × (read_from false at t ≡ reads steps)
unfolding read_from placed
all_read t none at = ([], refl)
all_read t (command letter operand after c o m more) at =
    let (steps, later) = all_read after more (at + 1 + length operand) in
    (record { at = at; command = c; next = at + 1 + length operand } ∷ steps, one_read at letter operand after o ∙ rw (m, later))

-- a foreign letter, and an operand text that isn't taken, wherever they stand
foreign_read : (letter : ℕ) (after : List ℕ) → is_among letter letters ≡ false → (at : ℕ) → read_from false at (letter ∷ after) ≡ wrong (M.Letter at)
unfolding read_from found_in placed
foreign_read letter after h at = rw (foreign_makes_nothing letter (operand_text after) h)

untaken_read :
    (letter : ℕ) (operand after : List ℕ) (read : ℕ) → Operands operand after → command_of (letter_of letter) operand ≡ Err (WrongOperand read) →
    (at : ℕ) → read_from false at (letter ∷ (operand ++ after)) ≡ wrong (M.Operand (at + 1) read)
unfolding placed
untaken_read letter operand after read o h at = one_read at letter operand after o ∙ rw h

-- what the grammar says, the reader says
sound : (t : List ℕ) (v : Result Unit Misread) → Judged t v → check_of t ≡ v
unfolding check_of read_of
sound t (Ok tt) j = ap verdict (all_read t j 0).1
sound t (Err (M.Letter place)) j = ap verdict (wrong_where_said j.up_to M.Letter (foreign_read j.letter j.after j.foreign))
sound t (Err (M.Operand place read)) j =
    ap verdict
    (wrong_where_said j.up_to (λ n. M.Operand (n + 1) read) (untaken_read j.letter j.operand j.after read j.extent j.untaken) ∙
    ap (λ n. wrong (M.Operand n read)) (sym j.here))

-- every text is commands, or has a first wrong place
ended_front : (t u : List ℕ) → Ended (t ++ u) → Ended t
ended_front [] u h = tt
ended_front (b ∷ t) u h = h

ended_part : (t u : List ℕ) → Ended (t ++ u) → Apart t u → Ended u
ended_part [] u h a = h
ended_part (b ∷ t) u h a = a

-- one command more in front
module _ (letter : ℕ) (operand after : List ℕ) (c : Command) (o : Operands operand after) (m : command_of (letter_of letter) operand ≡ Ok c) where
  abbrev longer : List ℕ
  longer = letter ∷ (operand ++ after)

  up_to_more : (place : ℕ) (u : List ℕ) → UpTo after place u → UpTo longer (place + 1 + length operand) u
  up_to_more place u up =
      let front : Ended (up.before ++ u) = rw up.whole at o.longest in
      record {
        before = letter ∷ (operand ++ up.before);
        whole = ap (λ t. letter ∷ (operand ++ t)) up.whole ∙ ap (◌∷◌ letter) (sym (append_assoc operand up.before u));
        here = rw (length-append operand up.before, up.here) (omega arith);
        commands = command letter operand up.before c (record { operands = o.operands; longest = ended_front up.before u front }) m up.commands;
        apart = ended_part up.before u front up.apart;
      }

  more : (v : Result Unit Misread) → Judged after v → (w : Result Unit Misread) × Judged longer w
  more (Ok tt) j = ((Ok tt), command letter operand after c o m j)
  more (Err (M.Letter place)) j = (
    Err (M.Letter (place + 1 + length operand)),
    record {
      letter = j.letter;
      after = j.after;
      up_to = up_to_more place _ j.up_to;
      foreign = j.foreign;
    },
  )
  more (Err (M.Operand place read)) j = (
    Err (M.Operand (j.at + 1 + length operand + 1) read),
    record {
      letter = j.letter;
      operand = j.operand;
      after = j.after;
      at = j.at + 1 + length operand;
      here = refl;
      up_to = up_to_more j.at _ j.up_to;
      extent = j.extent;
      untaken = j.untaken;
    },
  )

module _ (b : ℕ) (t : List ℕ) where
  abbrev its : List ℕ
  its = operand_text t

  abbrev others : List ℕ
  others = rest Class.Operand t

  rest_ended : (u : List ℕ) → others ≡ u → Ended u
  rest_ended [] e = tt
  rest_ended (d ∷ u) e = rest_begins Class.Operand t d u e

  its_operands : Operands its others
  its_operands = record { operands = run_every Class.Operand t; longest = rest_ended others refl }

  first_of : (f : Result Command Malformed) → command_of (letter_of b) its ≡ f → ((v : Result Unit Misread) × Judged others v) → (v : Result Unit Misread) × Judged (b ∷ (its ++ others)) v
  first_of (Ok c) e later = more b its others c its_operands e later.0 later.1
  first_of (Err NoLetter) e later = (
    Err (M.Letter 0),
    record {
      letter = b;
      after = its ++ others;
      up_to = record { before = []; whole = refl; here = refl; commands = none; apart = tt };
      foreign = nothing_made_is_foreign b its e;
    },
  )
  first_of (Err (WrongOperand read)) e later = (
    Err (M.Operand 1 read),
    record {
      letter = b;
      operand = its;
      after = others;
      at = 0;
      here = refl;
      up_to = record { before = []; whole = refl; here = refl; commands = none; apart = tt };
      extent = its_operands;
      untaken = e;
    },
  )

-- n bounds the characters
judged : (n : ℕ) → (t : List ℕ) → length t ≤ n → (v : Result Unit Misread) × Judged t v
judged zero = λ t h. none_left t h
  where
    none_left : (t : List ℕ) → length t ≤ 0 → (v : Result Unit Misread) × Judged t v
    none_left [] h = ((Ok tt), none)
    none_left (b ∷ t) h = absurd (omega arith)
judged (suc n) = λ t h. some_left t h (judged n)
  where
    some_left : (t : List ℕ) → length t ≤ suc n → ((u : List ℕ) → length u ≤ n → (v : Result Unit Misread) × Judged u v) → (v : Result Unit Misread) × Judged t v
    some_left [] h fewer = ((Ok tt), none)
    some_left (b ∷ t) h fewer =
        let split = run_rest Class.Operand t in
        rw split at (first_of b t (command_of (letter_of b) (operand_text t)) refl (fewer (rest Class.Operand t) (omega (arith, simp length-append at (ap length split)))))

pub the_reader_keeps_to_the_grammar : (t : List ℕ) (v : Result Unit Misread) → Exactly (check_of t ≡ v) (Judged t v)
the_reader_keeps_to_the_grammar t v =
    record {
      only = λ e. let (w, j) = judged (length t) t (omega arith) in rw (sym (sound t w j) ∙ e) at j;
      always = sound t v;
    }
