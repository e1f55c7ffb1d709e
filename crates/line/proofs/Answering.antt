-- Laws of answers, one for each return of the code.
use mathlib.Core.Path.{◌≡◌, sym, ap, ◌∙◌}
use mathlib.Core.List.{List, [], ◌∷◌, ◌++◌}
use Prim.Native.Nat.{ℕ, ◌+◌, ◌≤◌}
use native.Mathlib.Omega.{arith}
use lib.Bits.{bit_xor}
use lib.ListN.{length, take, drop, length-append}
use lib.Seq.{take_at}
use mir.Syntax.{w64}
use mir.Val.{Fits}
use Rattle.std.specs.Prelude.{None, Option, Some}
use Rattle.basics.specs.Bytes.{zero_digit}
use Rattle.basics.specs.Lay.{Laid, over}
use Rattle.basics.proofs.Lists.{front_counted}
use Rattle.basics.proofs.Over.{length_over}
use Rattle.basics.proofs.Laying.{Lay, laid, over_over}
use Rattle.basics.proofs.Rules.{tests}
use Rattle.line.specs.declared.Framing.{Framing}
use Rattle.line.specs.declared.Framing.TheVariants.{Dt, Oem}
use Rattle.line.specs.declared.Report.{Report}
use Rattle.line.specs.Bytes.{sum_from, sum_of}
use Rattle.line.specs.Dt.{cr}
use Rattle.line.specs.Oem.{etx}
use Rattle.line.specs.Answer.{lf, start_of, tail_of, report_of, answer_of, Closed, Answered}
use Rattle.line.proofs.Lines.{sum_append}
use Rattle.line.proofs.Answers.{report_short, tail_short}

-- what ends an answer
counted : (at : ℕ) (buf : List ℕ) → at + 3 ≤ length buf → at ≡ length (take at buf)
counted at buf room = front_counted at buf (omega arith)

module _ (f : Framing) (at : ℕ) (buf after : List ℕ) (r : Option ℕ) (room : at + 3 ≤ length buf) where
  pub closes_dt : f ≡ Dt → Laid (etx ∷ cr ∷ lf ∷ []) at buf r after → Closed f at buf (at + 3) after
  unfolding tail_of
  closes_dt p l = rw p (record { end = omega arith; bytes = (laid l (omega arith)).bytes })

  pub closes_oem : (s : ℕ) → f ≡ Oem → s ≡ sum_of (take at buf) → Laid (etx ∷ bit_xor s etx ∷ []) at buf r after → Closed f at buf (at + 2) after
  unfolding tail_of sum_from
  closes_oem s p e l =
      let sum : sum_of (take at buf ++ (etx ∷ [])) ≡ bit_xor s etx = sum_append 0 (take at buf) (etx ∷ []) ∙ rw e in
      rw p (record { end = omega arith; bytes = (laid l (omega arith)).bytes ∙ ap (λ (x : ℕ). over (etx ∷ x ∷ []) at buf) (sym sum) })

module _
    (f : Framing) (status start : ℕ) (report : Report) (before one two : List ℕ) (r s : Option ℕ)
    (d : Laid (report_of report) 3 one s two) (h : Laid (start ∷ zero_digit ∷ status ∷ []) 0 before r one) (b : start ≡ start_of f) (room : 32 ≤ length before)
  where
    abbrev head : List ℕ
    head = start_of f ∷ zero_digit ∷ status ∷ []

    begun : one ≡ over head 0 before
    begun = (laid (rw b at h) (omega arith)).bytes

    long : length one ≡ length before
    long = ap length begun ∙ length_over head 0 before (omega arith)

    middle : Lay (report_of report) 3 one s two
    middle = laid d (omega (arith, long, report_short report))

    pub never : s ≡ None → Answered f status report before None two
    never e = let n = middle.count in let z : ◌≡◌ {A = ℕ} 0 1 = cc in absurd (omega arith)

    module _ (size : ℕ) (e : s ≡ Some size) where
      size_is : size ≡ length (report_of report)
      size_is = let n = middle.count in cc

      pub sum_fits : Fits w64 (3 + size)
      sum_fits = omega (arith, size_is, report_short report)

      abbrev said : List ℕ
      said = start_of f ∷ zero_digit ∷ status ∷ report_of report

      so_far : two ≡ over said 0 before
      so_far = middle.bytes ∙ rw begun (over_over head (report_of report) 0 before (omega arith))

      at_is : 3 + size ≡ 0 + length said
      at_is = omega (arith, size_is)

      pub room_left : 3 + size + 3 ≤ length two
      room_left = let n : length two ≡ length before = ap length so_far ∙ length_over said 0 before (omega (arith, report_short report)) in omega (arith, size_is, report_short report)

      front : take (3 + size) two ≡ said
      unfolding over
      front = rw so_far (take_at said (drop (0 + length said) before) (3 + size) (omega (arith, size_is)))

      pub whole : (end : ℕ) (three : List ℕ) → Closed f (3 + size) two end three → Answered f status report before (Some end) three
      unfolding answer_of
      whole end three c =
          let few = tail_short f said in
          let bytes : three ≡ over (said ++ tail_of f said) 0 before
          = c.bytes ∙ rw (front, at_is, so_far) (over_over said (tail_of f said) 0 before (omega arith)) in
          let count : end ≡ length (said ++ tail_of f said) = c.end ∙ rw front (omega (arith, size_is, length-append said (tail_of f said))) in
          record { said = simp tests (ap Some count); left = simp tests bytes }
