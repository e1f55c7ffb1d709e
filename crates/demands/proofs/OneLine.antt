-- Every line gets exactly one line back: what a line prints holds no LF, and ends with one.
use mathlib.Core.Path.{◌≡◌, refl, sym, ap, ◌∙◌}
use mathlib.Core.Bool.{Bool, true, false, ◌&&◌}
use mathlib.Core.List.{List, [], ◌∷◌, ◌++◌, append_assoc}
use Prim.Native.Nat.{ℕ, zero, suc, ◌+◌, ◌-◌, ◌/◌, ◌%◌, ◌^◌, ◌≤◌, ◌<◌}
use native.Mathlib.Omega.{arith}
use borrow.Author.Tests.{ne_eqb, le-leb, ltb-false}
use lib.Dec.{eqb, leb, ltb}
use lib.ListN.{length, take, drop, length-append}
use lib.Seq.{take_at}
use Rattle.std.specs.Prelude.{Err, None, Ok, Option, Result, Some}
use Rattle.text.specs.declared.Data.{Data}
use Rattle.pipettor.specs.declared.address.S2.{S2}
use Rattle.pipettor.specs.Said.{Said}
use Rattle.machine.specs.declared.S3.{S3}
use Rattle.command.specs.Verdict.{Verdict}
use Rattle.basics.specs.Bytes.{chars, point, digit, every}
use Rattle.basics.specs.Lay.{over}
use Rattle.basics.proofs.Choice.{by}
use Rattle.basics.proofs.Digits.{and_both, every_append, digit_range}
use Rattle.basics.proofs.Over.{length_over}
use Rattle.decimal.specs.Digits.{digits_of, long_of, last_digits, fixed_of}
use Rattle.decimal.proofs.PlaceValue.{digits_are_digits, last_are_digits, trimmed_are_digits}
use Rattle.line.specs.declared.Framing.{Framing}
use Rattle.line.specs.declared.Framing.TheVariants as F
use Rattle.line.specs.declared.Report.{Report}
use Rattle.line.specs.declared.Report.TheVariants.{Nothing, Character, Whole, Tenths, Thousandths}
use Rattle.line.specs.Wire.{framing_of}
use Rattle.line.specs.Answer.{lf, status_of, report_of, start_of, tail_of, answer_of}
use Rattle.desk.specs.Desk.{tail_size, printed_of}
use Rattle.desk.specs.Hex.{digit_for, spaced, hex_of}
use Rattle.text.specs.declared.Question.{Question}
use Rattle.text.specs.declared.Question.TheVariants as Q
use Rattle.text.specs.declared.Data.TheVariants as D
use Rattle.settings.specs.declared.Detection.{Detection}
use Rattle.settings.specs.declared.Settings.{Settings}
use Rattle.motion.specs.declared.Body.{Body}
use Rattle.motion.specs.Events.{Turn}
use Rattle.buffer.specs.declared.course.State.{State}
use Rattle.buffer.specs.declared.course.Course.{Course}
use Rattle.machine.specs.declared.step.Core.{Core}
use Rattle.reports.specs.Reports.{setting_of, aspect_in, value_of, query_of, tell_of}
use Rattle.pipettor.specs.declared.address.Address.{Address}
use Rattle.pipettor.specs.declared.address.Address.TheVariants.{One, Two, Three, Four, Five, Six, Seven, Eight, Nine}
use Rattle.pipettor.specs.declared.Controller.{Controller}
use Rattle.pipettor.specs.Address.{letter_of, address_of}
use Rattle.pipettor.specs.Byte.{told_code, told_of, outcome_of, said_of, written_of, After, dealt_of, heard_of, byte_of}
use Rattle.pipettor.specs.Listening.{listened_of}
use Rattle.desk.specs.declared.Quantity.{Quantity}
use Rattle.desk.specs.declared.Quantity.TheVariants.{Ticks, Run, Lend, New, Oem, Tip, Press, Minus}
use Rattle.desk.specs.declared.Asked.{Asked}
use Rattle.desk.specs.declared.Asked.TheVariants as A
use Rattle.desk.specs.Desk.{asked_of}
use Rattle.desk.specs.Hex.{bytes_in}
use Rattle.line.proofs.Answers.{answer_fits}
use Rattle.station.specs.declared.Station.{Station}
use Rattle.station.specs.Serve as Serve
use Rattle.station.specs.Serve.{Served, ended_of, gone_on, sent_by, sent_of, framed_by, placed_of, used_up, made_by, sensed_of, numbered_of, silent, said_to, raw_byte, raw_from, raw_of, did_of, served_of}
use Rattle.printing.specs.Print.{ended, shown_of, last_of, place_of, used_of, bar_of, added_of, close_of, no_lf, OneLine}

-- a byte of at least 11 is no LF
plain : (b : ℕ) → 10 < b → no_lf b ≡ true
plain b h = rw (ne_eqb b 10 (λ e. omega arith))

digits_plain : (ds : List ℕ) → every digit ds ≡ true → every no_lf ds ≡ true
unfolding every
digits_plain [] e = refl
digits_plain (d ∷ ds) e =
    let both = and_both (digit d) (every digit ds) e in
    rw (plain d (omega (arith, digit_range d both.0))) (digits_plain ds both.1)

fixed_plain : (d n : ℕ) → every no_lf (fixed_of d n) ≡ true
unfolding fixed_of every
fixed_plain zero n = digits_plain (digits_of n) (digits_are_digits n)
fixed_plain (suc d) n =
    every_append no_lf (digits_of (n / 10 ^ suc d)) (point ∷ last_digits (suc d) n) (digits_plain (digits_of (n / 10 ^ suc d)) (digits_are_digits (n / 10 ^ suc d)))
    (digits_plain (last_digits (suc d) n) (last_are_digits (suc d) n))

long_plain : (n : ℕ) → every no_lf (long_of n) ≡ true
unfolding long_of
long_plain n = digits_plain (long_of n) (trimmed_are_digits 20 n)

-- what is told
abbrev Plain : Report → Type 0
Plain Nothing = Unit {0}
Plain (Character c) = 10 < c
Plain (Whole n) = Unit {0}
Plain (Tenths n) = Unit {0}
Plain (Thousandths n) = Unit {0}

report_plain : (r : Report) → Plain r → every no_lf (report_of r) ≡ true
unfolding report_of every
report_plain Nothing h = refl
report_plain (Character c) h = rw (plain c h)
report_plain (Whole n) h = fixed_plain 0 n
report_plain (Tenths n) h = fixed_plain 1 n
report_plain (Thousandths n) h = fixed_plain 3 n

abbrev PlainTold : Option Report → Type 0
PlainTold (Some r) = Plain r
PlainTold None = Unit {0}

setting_plain : (n : ℕ) (s : Settings) → PlainTold (setting_of n s)
unfolding setting_of
setting_plain n s =
    by PlainTold (eqb n 4) (λ _. tt) (λ _.
    by PlainTold (eqb n 6) (λ _. tt) (λ _.
    by PlainTold (eqb n 7) (λ _. tt) (λ _.
    by PlainTold (eqb n 8) (λ _. tt) (λ _.
    by PlainTold (eqb n 9) (λ _. tt) (λ _.
    by PlainTold (eqb n 10) (λ _. tt) (λ _.
    by PlainTold (eqb n 16) (λ _. tt) (λ _.
    by PlainTold (eqb n 17) (λ _. tt) (λ _.
    by PlainTold (eqb n 18) (λ _. tt) (λ _.
    by PlainTold (eqb n 19) (λ _. tt) (λ _.
    by PlainTold (eqb n 20) (λ _. tt) (λ _. tt)))))))))))

aspect_plain : (n : ℕ) (d : Detection) → PlainTold (aspect_in n d)
unfolding aspect_in
aspect_plain n d =
    by PlainTold (eqb n 32) (λ _. tt) (λ _.
    by PlainTold (eqb n 33) (λ _. tt) (λ _.
    by PlainTold (eqb n 34) (λ _. tt) (λ _.
    by PlainTold (eqb n 35) (λ _. tt) (λ _.
    by PlainTold (eqb n 36) (λ _. tt) (λ _.
    by PlainTold (eqb n 37) (λ _. tt) (λ _.
    by PlainTold (eqb n 38) (λ _. tt) (λ _. tt)))))))

value_plain : (n : ℕ) (tip : Bool) (b : Body) (s : State) → PlainTold (value_of n tip b s)
unfolding value_of
value_plain n tip b s =
    by PlainTold (eqb n 0) (λ _. tt) (λ _.
    by PlainTold (eqb n 1) (λ _. tt) (λ _.
    by PlainTold (eqb n 3) (λ _. tt) (λ _.
    by PlainTold (leb 4 n && leb n 20) (λ _. setting_plain n b.settings) (λ _.
    by PlainTold (eqb n 29) (λ _. tt) (λ _.
    by PlainTold (eqb n 31) (λ _. tt) (λ _.
    by PlainTold (leb 32 n && leb n 38) (λ _. aspect_plain n b.settings.detection) (λ _.
    by PlainTold (eqb n 67) (λ _. tt) (λ _. tt))))))))

tell_plain : (q : Question) (ours : ℕ) (tip : Bool) (b : Body) (c : Course) → 10 < ours → PlainTold (tell_of q ours tip b c)
unfolding tell_of query_of
tell_plain (Q.Query n) ours tip b c h =
    by PlainTold (eqb n 0) (λ _. tt) (λ _.
    by PlainTold (eqb n 1) (λ _. omega arith) (λ _.
    by PlainTold (eqb n 2) (λ _. tt) (λ _. tt)))
tell_plain (Q.Value n) ours tip b c h = value_plain n tip b c.state
tell_plain Q.Address ours tip b c h = h

letter_plain : (a : Address) → 10 < letter_of a
letter_plain One = omega arith
letter_plain Two = omega arith
letter_plain Three = omega arith
letter_plain Four = omega arith
letter_plain Five = omega arith
letter_plain Six = omega arith
letter_plain Seven = omega arith
letter_plain Eight = omega arith
letter_plain Nine = omega arith

abbrev PlainOutcome : Option (Report × ℕ) → Type 0
PlainOutcome None = Unit {0}
PlainOutcome (Some (r, code)) = Plain r

told_plain : (t : Option Report) (error : ℕ) → PlainTold t → PlainOutcome (told_code t error)
told_plain (Some r) error h = h
told_plain None error h = tt

outcome_plain : (g : Option Data) (a : Address) (v : Verdict) (tip : Bool) (c : Core) → PlainOutcome (outcome_of g a v tip c)
unfolding outcome_of
outcome_plain None a v tip c = tt
outcome_plain (Some (D.Report q)) a v tip c =
    told_plain (told_of q a tip c) c.course.error (tell_plain q (letter_of a) tip c.body c.course (letter_plain a))
outcome_plain (Some D.WrongReport) a v tip c = tt
outcome_plain (Some (D.Control k)) a v tip c = tt
outcome_plain (Some (D.Text n run)) a v tip c = tt
outcome_plain (Some (D.Wrong m)) a v tip c = tt
outcome_plain (Some D.TooLong) a v tip c = tt

-- what is shown of an answer: its status byte and its data
tail_size_lem : (f : Framing) (before : List ℕ) → length (tail_of f before) ≡ tail_size f
unfolding tail_of tail_size
tail_size_lem F.Dt before = refl
tail_size_lem F.Oem before = refl

module _ (f : Framing) where
  heart : (status : ℕ) (report : Report) (buf : List ℕ) → 32 ≤ length buf → printed_of f (length (answer_of f status report)) (over (answer_of f status report) 0 buf) ≡ status ∷ report_of report
  unfolding printed_of over answer_of
  heart status report buf h =
      let answer = answer_of f status report in
      let tail : List ℕ = tail_of f (start_of f ∷ 48 ∷ status ∷ report_of report) in
      let rest = drop (0 + length answer) buf in
      let sum = length-append (report_of report) tail in
      let size : length answer ≡ length (report_of report) + tail_size f + 3 = omega (arith, sum, tail_size_lem f (start_of f ∷ 48 ∷ status ∷ report_of report)) in
      let fits = answer_fits f status report in
      let all : length (over answer 0 buf) ≡ length buf = length_over answer 0 buf (omega arith) in
      rw (le-leb (length answer) (length (over answer 0 buf)) (omega arith), append_assoc (report_of report) tail rest)
      (take_at (status ∷ report_of report) (tail ++ rest) (length answer - (2 + tail_size f)) (omega arith))

one_line : (body : List ℕ) → every no_lf body ≡ true → OneLine (ended body)
one_line body h = record { body = body; is = refl; inside = h }

module _ (f : Framing) where
  answer_shown : (ready : Bool) (code : ℕ) (report : Report) (buf : List ℕ) → Plain report → 32 ≤ length buf → (let answer = answer_of f (status_of ready code) report in OneLine (shown_of f (Ok (Some (length answer))) (over answer 0 buf)))
  unfolding shown_of every status_of
  answer_shown ready code report buf p h =
      rw (heart f (status_of ready code) report buf h) (one_line (status_of ready code ∷ report_of report) (rw (plain (status_of ready code) (omega arith)) (report_plain report p)))

  outcome_shown : (o : Option (Report × ℕ)) (ready : Bool) (buf : List ℕ) → PlainOutcome o → 32 ≤ length buf → OneLine (shown_of f (said_of f o ready) (written_of f o ready buf))
  unfolding shown_of said_of written_of every
  outcome_shown None ready buf p h = one_line (chars "-") refl
  outcome_shown (Some (report, code)) ready buf p h = answer_shown ready code report buf p h

byte_shown : (k : Controller) (b : ℕ) (buf : List ℕ) → (let a = (byte_of k b buf).next in OneLine (shown_of (framing_of k.line) a.reply.said a.buffer))
unfolding byte_of heard_of dealt_of shown_of every
byte_shown k b buf =
    by (λ (t : Turn After). OneLine (shown_of (framing_of k.line) t.next.reply.said t.next.buffer)) (ltb (length buf) 32)
    (λ e. one_line (chars "S1") refl)
    (λ e. outcome_shown (framing_of k.line) _ _ buf (outcome_plain _ k.address _ k.device.tip k.device.core) (ltb-false (length buf) 32 e))

-- bytes in hex
hex_plain : (n : ℕ) → 10 < digit_for n
unfolding digit_for
hex_plain n = by (λ (x : ℕ). 10 < x) (ltb n 10) (λ e. omega arith) (λ e. omega arith)

spaced_plain : (bytes : List ℕ) → every no_lf (spaced bytes) ≡ true
unfolding spaced every
spaced_plain [] = refl
spaced_plain (b ∷ bytes) = rw (plain (digit_for (b / 16)) (hex_plain (b / 16)), plain (digit_for (b % 16)) (hex_plain (b % 16))) (spaced_plain bytes)

hexes_plain : (bytes : List ℕ) → every no_lf (hex_of bytes) ≡ true
unfolding hex_of every
hexes_plain [] = refl
hexes_plain (b ∷ bytes) = rw (plain (digit_for (b / 16)) (hex_plain (b / 16)), plain (digit_for (b % 16)) (hex_plain (b % 16))) (spaced_plain bytes)

bar_plain : (first : Bool) → every no_lf (bar_of first) ≡ true
unfolding every
bar_plain true = refl
bar_plain false = refl

added_plain : (first : Bool) (said : Said) (answer : List ℕ) → every no_lf (added_of first said answer) ≡ true
unfolding added_of every
added_plain first (Ok None) answer = refl
added_plain first (Ok (Some n)) answer =
    by (λ (t : List ℕ). every no_lf t ≡ true) (leb n (length answer)) (λ e. every_append no_lf (bar_of first) (hex_of (take n answer)) (bar_plain first) (hexes_plain (take n answer))) (λ e. refl)
added_plain first (Err _) answer = every_append no_lf (bar_of first) (chars "S1") (bar_plain first) refl

raw_plain : (bytes : List ℕ) (t : Served) → every no_lf t.text ≡ true → every no_lf (raw_from bytes t).text ≡ true
unfolding raw_from said_to
raw_plain [] t h = h
raw_plain (b ∷ bytes) t h = raw_plain bytes (raw_byte b t) (every_append no_lf t.text (said_to b (silent t.text) t.station).text h (added_plain (silent t.text) _ _))

closes : (text : List ℕ) (first : Bool) → every no_lf text ≡ true → OneLine (text ++ close_of first)
unfolding every
closes text true h = record { body = text ++ chars "-"; is = sym (append_assoc text (chars "-") (lf ∷ [])); inside = every_append no_lf text (chars "-") h refl }
closes text false h = record { body = text; is = refl; inside = h }

-- where the plunger is
digits_space : (n : ℕ) → every no_lf (digits_of n ++ chars " ") ≡ true
unfolding every
digits_space n = every_append no_lf (digits_of n) (chars " ") (digits_plain (digits_of n) (digits_are_digits n)) refl

place_plain : (p x : ℕ) → every no_lf ((digits_of p ++ chars " ") ++ long_of x) ≡ true
place_plain p x = every_append no_lf (digits_of p ++ chars " ") (long_of x) (digits_space p) (long_plain x)

-- behind a text without LF
behind : (front text : List ℕ) → every no_lf front ≡ true → OneLine text → OneLine (front ++ text)
behind front text h one =
    record { body = front ++ one.body; is = ap (◌++◌ front) one.is ∙ sym (append_assoc front one.body (lf ∷ [])); inside = every_append no_lf front one.body h one.inside }

last : (asked : Bool) → OneLine (last_of asked)
unfolding every
last true = one_line (chars " eject") refl
last false = one_line [] refl

placed : (p x : ℕ) (asked : Bool) → OneLine (place_of p x asked)
unfolding place_of
placed p x asked = behind ((digits_of p ++ chars " ") ++ long_of x) (last_of asked) (place_plain p x) (last asked)

used : (u : Result ℕ S3) (p x : ℕ) (asked : Bool) → OneLine (used_of u p x asked)
unfolding used_of every
used (Ok n) p x asked = behind (digits_of n ++ chars " ") (place_of p x asked) (digits_space n) (placed p x asked)
used (Err _) p x asked = one_line (chars "S3") refl

-- each line
gone_on_lem : (rest : List ℕ) (last : ℕ) (s : Station) → OneLine (gone_on rest last s).text
unfolding gone_on ended_of Serve.heard_of Serve.told_of
gone_on_lem rest last s = byte_shown (listened_of s.controller rest).controller last (Serve.blank s.lend)

sent : (said : Said) (rest : List ℕ) (last : ℕ) (s : Station) → OneLine (sent_by said rest last s).text
unfolding sent_by every
sent (Ok None) rest last s = gone_on_lem rest last s
sent (Ok (Some n)) rest last s = gone_on_lem rest last s
sent (Err _) rest last s = one_line (chars "S1") refl

framed : (f : Framing) (text : List ℕ) (s : Station) → OneLine (framed_by f text s).text
unfolding framed_by sent_of every
framed F.Dt text s = sent _ text _ _
framed F.Oem [] s = one_line (chars "?") refl
framed F.Oem (a ∷ ds) s = sent _ _ _ _

made : (f : Framing) (g : Result Address S2) (s : Station) → OneLine (made_by f g s).text
unfolding made_by every
made f (Ok a) s = one_line (chars "ok") refl
made f (Err _) s = one_line (chars "S2") refl

numbered : (q : Quantity) (n : ℕ) (s : Station) → OneLine (numbered_of q n s).text
unfolding numbered_of placed_of used_up sensed_of every
numbered Ticks n s = placed _ _ _
numbered Run n s = used _ _ _ _
numbered Lend n s = one_line (chars "ok") refl
numbered New n s = made F.Dt (address_of n) s
numbered Oem n s = made F.Oem (address_of n) s
numbered Tip n s = one_line (chars "ok") refl
numbered Press n s = one_line (chars "ok") refl
numbered Minus n s = one_line (chars "ok") refl

did : (a : Asked) (line : List ℕ) (s : Station) → OneLine (did_of a line s).text
unfolding did_of placed_of raw_of every
did A.Send line s = framed _ (drop 2 line) s
did (A.Number q n) line s = numbered q n s
did A.Stop line s = placed _ _ _
did A.Raw line s = let t = raw_from (bytes_in (drop 2 line)) (Serve.served s []) in closes t.text (silent t.text) (raw_plain (bytes_in (drop 2 line)) (Serve.served s []) refl)
did A.Wrong line s = one_line (chars "?") refl

pub every_line_gets_one_line_back : (line : List ℕ) (s : Station) → OneLine (served_of line s).text
unfolding served_of
every_line_gets_one_line_back line s = did (asked_of s.desk line) line s
