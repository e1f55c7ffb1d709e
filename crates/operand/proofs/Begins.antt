-- Theorems, W-202: what is read of an operand text is the longest beginning that a well-formed text of its form has too, of one number and of two.
use mathlib.Core.Path.{◌≡◌, refl, sym, ap, subst, ◌∙◌}
use mathlib.Core.Bool.{Bool, true, false, ◌&&◌}
use mathlib.Core.List.{List, [], ◌∷◌, ◌++◌, append_assoc, append-nil}
use Prim.Native.Nat.{ℕ, zero, suc, ◌+◌, ◌≤◌, ◌<◌}
use native.Mathlib.Omega.{arith}
use borrow.Author.Tests.{leb-true}
use lib.Dec.{leb, eqb}
use lib.ListN.{length, take, length-append}
use Rattle.std.specs.Prelude.{if◌then◌else◌}
use Rattle.basics.specs.Bytes.{zero_digit, digit, point, every}
use Rattle.basics.proofs.Digits.{and_both, and_of, every_append}
use Rattle.basics.proofs.Rules.{tests}
use Rattle.operand.specs.declared.Class.TheVariants.{Digit, NoComma}
use Rattle.operand.specs.declared.Number.{Number}
use Rattle.operand.specs.declared.Number.TheVariants.{Wrong}
use Rattle.operand.specs.Text.{has, run, rest}
use Rattle.operand.specs.Begins.{few, follows, begins, read_in}
use Rattle.operand.specs.Number.{digits, decimals_of, followed_of, number_of, right, well_formed, behind_comma, parted, begins_two, read_in_two, pair_of, well_formed_two}
use Rattle.operand.proofs.Runs.{run_rest, run_digits, run_every, run_through, run_seam, rest_seam, bare_head, bare, rest_bare}
use Rattle.operand.proofs.Longest.{Starts, what_is_read_can_be_completed, one_character_more_cannot, a_well_formed_text_is_read_whole}
use Rattle.operand.proofs.Spelling.{number_some}

-- a well-formed text, by its digits and what follows them
abbrev ends : List ℕ → Bool
ends [] = true
ends (b ∷ t) = eqb b point && digits 1 3 t

pub and_true : (x : Bool) → (x && true) ≡ x
and_true true = refl
and_true false = refl

right_chosen : (x : Bool) (n : Number) (read : ℕ) → right (if x then n else Wrong read) ≡ (x && right n)
unfolding right
right_chosen true n read = refl
right_chosen false n read = refl

right_followed : (read whole : ℕ) (t : List ℕ) → right (followed_of read whole t) ≡ ends t
unfolding followed_of decimals_of right
right_followed read whole [] = refl
right_followed read whole (b ∷ t) =
    right_chosen (eqb b point) _ read ∙ ap (λ x. eqb b point && x) (right_chosen (digits 1 3 t) _ read ∙ and_true (digits 1 3 t))

well_formed_is : (t : List ℕ) → (length t ≡ 0 → ⊥) → well_formed t ≡ (digits 1 6 (run Digit t) && ends (rest Digit t))
unfolding well_formed
well_formed_is t h =
    rw (number_some t h) (right_chosen (digits 1 6 (run Digit t)) _ (read_in t) ∙ ap (λ x. digits 1 6 (run Digit t) && x) (right_followed (read_in t) _ (rest Digit t)))

-- digits, so many
record Digits (least most : ℕ) (t : List ℕ) : Type 0 where
  all : every digit t ≡ true
  least_of_lem : least ≤ length t
  most_of_lem : length t ≤ most

digits_are : (least most : ℕ) (t : List ℕ) → digits least most t ≡ true → Digits least most t
unfolding digits
digits_are least most t e =
    let p = and_both (every digit t) (leb least (length t) && leb (length t) most) e in
    let q = and_both (leb least (length t)) (leb (length t) most) p.1 in
    record { all = p.0; least_of_lem = leb-true _ _ q.0; most_of_lem = leb-true _ _ q.1 }

are_digits : (least most : ℕ) (t : List ℕ) → Digits least most t → digits least most t ≡ true
unfolding digits
are_digits least most t d = let a = d.least_of_lem in let b = d.most_of_lem in simp (d.all, tests)

pub every_front : (p : ℕ → Bool) (t u : List ℕ) → every p (t ++ u) ≡ true → every p t ≡ true
unfolding every
every_front p [] u e = refl
every_front p (b ∷ t) u e = let h = and_both (p b) (every p (t ++ u)) e in and_of (p b) (every p t) h.0 (every_front p t u h.1)

module _ (most : ℕ) (t : List ℕ) where
  pub few_is : every digit t ≡ true → length t ≤ most → few most t ≡ true
  unfolding few
  few_is d h = simp (d, tests)

  few_front : (more : List ℕ) → every digit (t ++ more) ≡ true → length (t ++ more) ≤ most → few most t ≡ true
  few_front more d h = few_is (every_front digit t more d) (omega (arith, length-append t more))

-- how a text may begin, from the seam of its digits and what follows them
module _ (ds u : List ℕ) (d : every digit ds ≡ true) (e : run Digit u ≡ []) where
  pub begins_seam : begins (ds ++ u) ≡ (leb (length ds) 6 && follows (length ds) u)
  unfolding begins
  begins_seam = rw (run_seam Digit ds u d e, rest_seam Digit ds u d e)

  well_formed_seam : (length (ds ++ u) ≡ 0 → ⊥) → well_formed (ds ++ u) ≡ (digits 1 6 ds && ends u)
  well_formed_seam h = rw (well_formed_is (ds ++ u) h, run_seam Digit ds u d e, rest_seam Digit ds u d e)

-- what may follow a beginning, at the seam: the digits' count is few enough, and a point has few enough digits behind it
module _ (ds : List ℕ) (d : every digit ds ≡ true) where
  only_digits : (more : List ℕ) → well_formed (ds ++ more) ≡ true → length ds ≤ 6
  only_digits more w = go (length ds) refl
    where
      go : (n : ℕ) → length ds ≡ n → length ds ≤ 6
      go zero z = omega arith
      go (suc n) z =
          let some : length (ds ++ more) ≡ 0 → ⊥ = λ q. omega (arith, length-append ds more) in
          let t = digits_are 1 6 (run Digit (ds ++ more)) (and_both _ _ (sym (well_formed_is (ds ++ more) some) ∙ w)).0 in
          omega (arith, t.most_of_lem, ap length (run_through Digit ds more d), length-append ds (run Digit more))

  only_seam : (u more : List ℕ) → run Digit u ≡ [] → well_formed (ds ++ (u ++ more)) ≡ true → begins (ds ++ u) ≡ true
  unfolding follows
  only_seam [] more e w = let h = only_digits more w in rw (begins_seam ds [] d e) (simp tests)
  only_seam (b ∷ v) more e w =
      let z = bare_head Digit b v e in
      let some : length (ds ++ b ∷ (v ++ more)) ≡ 0 → ⊥ = λ q. omega (arith, length-append ds (b ∷ (v ++ more))) in
      let p = and_both _ _ (sym (well_formed_seam ds (b ∷ (v ++ more)) d (bare Digit b (v ++ more) z) some) ∙ w) in
      let q = and_both (eqb b point) (digits 1 3 (v ++ more)) p.1 in
      let t = digits_are 1 6 ds p.0 in
      let f = digits_are 1 3 (v ++ more) q.1 in
      let l = t.least_of_lem in
      let m = t.most_of_lem in
      rw (begins_seam ds (b ∷ v) d e) (simp (q.0, few_front 3 v more f.all f.most_of_lem, tests))

one_only : (t more : List ℕ) → well_formed (t ++ more) ≡ true → begins t ≡ true
one_only t more w =
    ap begins (sym (run_rest Digit t)) ∙
    only_seam (run Digit t) (run_digits t) (rest Digit t) more (rest_bare Digit t)
    (ap well_formed (sym (append_assoc (run Digit t) (rest Digit t) more) ∙ ap (λ u. u ++ more) (run_rest Digit t)) ∙ w)

-- a beginning is completed by a digit behind its point, or by nothing
record Completed (t : List ℕ) : Type 0 where
  more : List ℕ
  plain : every (has NoComma) more ≡ true
  well : well_formed (t ++ more) ≡ true

nothing_more : (t : List ℕ) → well_formed t ≡ true → Completed t
unfolding every
nothing_more t w = record { more = []; plain = refl; well = ap well_formed (append-nil t) ∙ w }

-- the digits behind a point, completed
record Enough (t : List ℕ) : Type 0 where
  more : List ℕ
  plain : every (has NoComma) more ≡ true
  enough : digits 1 3 (t ++ more) ≡ true

enough_digits : (t : List ℕ) → every digit t ≡ true → length t ≤ 3 → Enough t
unfolding every digit
enough_digits [] d h = record { more = zero_digit ∷ []; plain = refl; enough = are_digits 1 3 _ (record { all = refl; least_of_lem = omega arith; most_of_lem = omega arith }) }
enough_digits (b ∷ t) d h =
    record { more = []; plain = refl; enough = ap (digits 1 3) (append-nil (b ∷ t)) ∙ are_digits 1 3 (b ∷ t) (record { all = d; least_of_lem = omega arith; most_of_lem = h }) }

completed_seam : (ds u : List ℕ) → every digit ds ≡ true → run Digit u ≡ [] → begins (ds ++ u) ≡ true → Completed (ds ++ u)
unfolding follows few every well_formed right number_of
completed_seam [] [] d e h = nothing_more [] refl
completed_seam (c ∷ ds) [] d e h =
    let p = and_both _ _ (sym (begins_seam (c ∷ ds) [] d e) ∙ h) in
    let t = are_digits 1 6 (c ∷ ds) (record { all = d; least_of_lem = omega arith; most_of_lem = leb-true _ _ p.0 }) in
    nothing_more ((c ∷ ds) ++ []) (rw (well_formed_seam (c ∷ ds) [] d e (λ z. omega (arith, z)), t))
completed_seam ds (b ∷ v) d e h =
    let p = and_both (leb (length ds) 6) _ (sym (begins_seam ds (b ∷ v) d e) ∙ h) in
    let q = and_both (leb 1 (length ds)) _ p.1 in
    let r = and_both (eqb b point) _ q.1 in
    let f = and_both (every digit v) (leb (length v) 3) r.1 in
    let t = are_digits 1 6 ds (record { all = d; least_of_lem = leb-true _ _ q.0; most_of_lem = leb-true _ _ p.0 }) in
    let c = enough_digits v f.0 (leb-true _ _ f.1) in
    let some : length (ds ++ b ∷ (v ++ c.more)) ≡ 0 → ⊥ = λ z. omega (arith, length-append ds (b ∷ (v ++ c.more))) in
    let seam = well_formed_seam ds (b ∷ (v ++ c.more)) d (bare Digit b (v ++ c.more) (bare_head Digit b v e)) some in
    record { more = c.more; plain = c.plain; well = ap well_formed (append_assoc ds (b ∷ v) c.more) ∙ seam ∙ and_of _ _ t (and_of _ _ r.0 c.enough) }

one_completed : (t : List ℕ) → begins t ≡ true → Completed t
one_completed t h =
    subst Completed (run_rest Digit t)
    (completed_seam (run Digit t) (rest Digit t) (run_digits t) (rest_bare Digit t) (ap begins (run_rest Digit t) ∙ h))

pub one_number_starts : Starts begins well_formed
unfolding well_formed right number_of
one_number_starts = record { nothing = refl; completed = λ t h. let c = one_completed t h in (c.more, c.well); only = one_only }

-- two numbers, at the seam of the first and what follows it
module _ (f u : List ℕ) (d : every (has NoComma) f ≡ true) (e : run NoComma u ≡ []) where
  pub begins_two_seam : begins_two (f ++ u) ≡ parted f u
  unfolding begins_two
  begins_two_seam = rw (run_seam NoComma f u d e, rest_seam NoComma f u d e)

  well_formed_two_seam : well_formed_two (f ++ u) ≡ (well_formed f && right (behind_comma u))
  unfolding well_formed_two well_formed pair_of
  well_formed_two_seam = rw (run_seam NoComma f u d e, rest_seam NoComma f u d e)

first_well_formed : (t : List ℕ) → well_formed_two t ≡ true → well_formed (run NoComma t) ≡ true
unfolding well_formed_two well_formed pair_of
first_well_formed t w = (and_both (right (number_of (run NoComma t))) _ w).0

two_only_seam : (f u more : List ℕ) → every (has NoComma) f ≡ true → run NoComma u ≡ [] → well_formed_two (f ++ (u ++ more)) ≡ true → parted f u ≡ true
unfolding parted behind_comma well_formed
two_only_seam f [] more d e w = one_only f (run NoComma more) (ap well_formed (sym (run_through NoComma f more d)) ∙ first_well_formed (f ++ more) w)
two_only_seam f (b ∷ v) more d e w =
    let z = bare_head NoComma b v e in
    let p = and_both _ _ (sym (well_formed_two_seam f (b ∷ (v ++ more)) d (bare NoComma b (v ++ more) z)) ∙ w) in
    and_of (well_formed f) (begins v) p.0 (one_only v more p.1)

two_only : (t more : List ℕ) → well_formed_two (t ++ more) ≡ true → begins_two t ≡ true
unfolding begins_two
two_only t more w =
    two_only_seam (run NoComma t) (rest NoComma t) more (run_every NoComma t) (rest_bare NoComma t)
    (ap well_formed_two (sym (append_assoc (run NoComma t) (rest NoComma t) more) ∙ ap (λ u. u ++ more) (run_rest NoComma t)) ∙ w)

two_completed_seam :
    (f u : List ℕ) → every (has NoComma) f ≡ true → run NoComma u ≡ [] → parted f u ≡ true →
    (more : List ℕ) × (well_formed_two ((f ++ u) ++ more) ≡ true)
unfolding parted behind_comma well_formed run right
two_completed_seam f [] d e h =
    let c = one_completed f h in
    let whole = every_append (has NoComma) f c.more d c.plain in
    (c.more, ap well_formed_two (ap (λ t. t ++ c.more) (append-nil f) ∙ sym (append-nil (f ++ c.more))) ∙ well_formed_two_seam (f ++ c.more) [] whole refl ∙ rw c.well)
two_completed_seam f (b ∷ v) d e h =
    let p = and_both (well_formed f) (begins v) h in
    let c = one_completed v p.1 in
    let z = bare_head NoComma b v e in
    (c.more, ap well_formed_two (append_assoc f (b ∷ v) c.more) ∙ well_formed_two_seam f (b ∷ (v ++ c.more)) d (bare NoComma b (v ++ c.more) z) ∙ and_of (well_formed f) _ p.0 c.well)

two_completed : (t : List ℕ) → begins_two t ≡ true → (more : List ℕ) × (well_formed_two (t ++ more) ≡ true)
unfolding begins_two
two_completed t h =
    let c = two_completed_seam (run NoComma t) (rest NoComma t) (run_every NoComma t) (rest_bare NoComma t) h in
    (c.0, ap (λ u. well_formed_two (u ++ c.0)) (sym (run_rest NoComma t)) ∙ c.1)

pub two_numbers_start : Starts begins_two well_formed_two
unfolding well_formed_two pair_of right number_of behind_comma run rest
two_numbers_start = record { nothing = refl; completed = two_completed; only = two_only }

-- what is read of a text can be completed, with one character more it cannot, and a well-formed text is read whole: for one number
module _ (t : List ℕ) where
  pub what_is_read_of_a_number_can_be_completed : (more : List ℕ) × (well_formed (take (read_in t) t ++ more) ≡ true)
  unfolding read_in
  what_is_read_of_a_number_can_be_completed = what_is_read_can_be_completed begins well_formed one_number_starts t

  pub one_character_more_begins_no_number : read_in t < length t → (more : List ℕ) → well_formed (take (read_in t + 1) t ++ more) ≡ true → ⊥
  unfolding read_in
  one_character_more_begins_no_number = one_character_more_cannot begins well_formed one_number_starts t

  pub a_number_is_read_whole : well_formed t ≡ true → read_in t ≡ length t
  unfolding read_in
  a_number_is_read_whole = a_well_formed_text_is_read_whole begins well_formed one_number_starts t

  -- and for two
  pub what_is_read_of_two_numbers_can_be_completed : (more : List ℕ) × (well_formed_two (take (read_in_two t) t ++ more) ≡ true)
  unfolding read_in_two
  what_is_read_of_two_numbers_can_be_completed = what_is_read_can_be_completed begins_two well_formed_two two_numbers_start t

  pub one_character_more_begins_no_two_numbers : read_in_two t < length t → (more : List ℕ) → well_formed_two (take (read_in_two t + 1) t ++ more) ≡ true → ⊥
  unfolding read_in_two
  one_character_more_begins_no_two_numbers = one_character_more_cannot begins_two well_formed_two two_numbers_start t

  pub two_numbers_are_read_whole : well_formed_two t ≡ true → read_in_two t ≡ length t
  unfolding read_in_two
  two_numbers_are_read_whole = a_well_formed_text_is_read_whole begins_two well_formed_two two_numbers_start t
