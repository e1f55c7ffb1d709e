-- Laws of how far a text is read, as the reader's walk meets them.
use mathlib.Core.Path.{◌≡◌, refl, sym, ap, subst, ◌∙◌}
use mathlib.Core.Bool.{Bool, true, false, ◌&&◌}
use mathlib.Core.List.{List, [], ◌∷◌, ◌++◌, append-nil}
use Prim.Native.Nat.{ℕ, suc, ◌+◌, ◌≤◌, ◌<◌}
use native.Mathlib.Nat.{le_antisymm}
use native.Mathlib.Omega.{arith}
use borrow.Author.Tests.{leb-true, ltb-true, ltb-false}
use lib.Dec.{leb, eqb, ltb}
use lib.ListN.{length, take, drop, length-append, take-append-drop}
use lib.Seq.{length-take-le, take-append-le, take-append-add}
use Rattle.std.specs.Prelude.{if◌then◌else◌}
use Rattle.basics.specs.Bytes.{digit, point, every, value_of}
use Rattle.basics.proofs.Choice.{by}
use Rattle.basics.proofs.Digits.{and_both, and_of}
use Rattle.basics.proofs.Rules.{tests}
use Rattle.operand.specs.declared.Class.{Class}
use Rattle.operand.specs.declared.Class.TheVariants.{Digit, NoComma}
use Rattle.operand.specs.declared.Number.{Number}
use Rattle.operand.specs.declared.Number.TheVariants.{Wrong}
use Rattle.operand.specs.Text.{has, run, rest}
use Rattle.operand.specs.Begins.{longest, few, follows, begins, read_in}
use Rattle.operand.specs.Number.{digits, decimals_of, followed_of, number_of, right, well_formed, read_of, parted, begins_two, read_in_two, well_formed_two}
use Rattle.operand.specs.Steps.{comma_read}
use Rattle.operand.proofs.Runs.{run_rest, run_digits, run_every, run_seam, run_short, not_every, bare_take, rest_bare}
use Rattle.operand.proofs.Longest.{longest_short, longest_is, longest_past, counted_longest, longest_behind, longest_none, starts_closed}
use Rattle.operand.proofs.Begins.{and_true, every_front, few_is, begins_seam, begins_two_seam, one_number_starts, two_numbers_start, a_number_is_read_whole}

-- beginnings of a text up to its run's end, and beyond it
module _ (class : Class) (t : List ℕ) where
  take_within : (k : ℕ) → k ≤ length (run class t) → take k t ≡ take k (run class t)
  take_within k h = ap (take k) (sym (run_rest class t)) ∙ take-append-le k (run class t) (rest class t) h

  take_beyond : (j : ℕ) → take (length (run class t) + j) t ≡ run class t ++ take j (rest class t)
  take_beyond j = ap (take (length (run class t) + j)) (sym (run_rest class t)) ∙ take-append-add (run class t) (rest class t) j

  pub rest_length : length (run class t) + length (rest class t) ≡ length t
  rest_length = sym (length-append (run class t) (rest class t)) ∙ ap length (run_rest class t)

every_take : (p : ℕ → Bool) (k : ℕ) (t : List ℕ) → every p t ≡ true → every p (take k t) ≡ true
every_take p k t e = every_front p (take k t) (drop k t) (ap (every p) (take-append-drop k t) ∙ e)

digits_within : (t : List ℕ) (k : ℕ) → k ≤ length (run Digit t) → every digit (take k t) ≡ true
digits_within t k h = ap (every digit) (take_within Digit t k h) ∙ every_take digit k (run Digit t) (run_digits t)

few_closed : (most : ℕ) (u v : List ℕ) → few most (u ++ v) ≡ true → few most u ≡ true
unfolding few
few_closed most u v e =
    let p = and_both (every digit (u ++ v)) (leb (length (u ++ v)) most) e in
    few_is most u (every_front digit u v p.0) (omega (arith, leb-true (length (u ++ v)) most p.1, length-append u v))

too_many : (x : Bool) (n most : ℕ) → most < n → (x && leb n most) ≡ false
too_many true n most h = simp tests
too_many false n most h = refl

-- behind a point: the digits, but at most three
module _ (n : ℕ) (t : List ℕ) (e : n ≡ length (run Digit t)) where
  pub decimals_many : 3 < n → 3 ≡ longest (few 3) (length t) t
  unfolding few
  decimals_many h =
      let s = run_short Digit t in
      let four : length (take 4 t) ≡ 4 = length-take-le 4 t (omega arith) in
      counted_longest (few 3) t (few_closed 3) 3 (omega arith)
      (few_is 3 (take 3 t) (digits_within t 3 (omega arith)) (omega (arith, length-take-le 3 t (omega arith))))
      (λ l. too_many (every digit (take 4 t)) (length (take 4 t)) 3 (omega arith))

  pub decimals_few : n ≤ 3 → n ≡ longest (few 3) (length t) t
  unfolding few
  decimals_few h =
      let s = run_short Digit t in
      counted_longest (few 3) t (few_closed 3) n (omega arith)
      (few_is 3 (take n t) (digits_within t n (omega arith)) (omega (arith, length-take-le n t (omega arith))))
      (λ l. let none = not_every Digit (take (n + 1) t) (λ q. omega (arith, q, long l, beyond)) in rw none)
    where
      beyond : length (run Digit (take (n + 1) t)) ≡ n
      beyond =
          ap (λ m. length (run Digit (take (m + 1) t))) e ∙ ap (λ u. length (run Digit u)) (take_beyond Digit t 1) ∙
          ap length (run_seam Digit (run Digit t) (take 1 (rest Digit t)) (run_digits t) (bare_take Digit (rest Digit t) 1 (rest_bare Digit t))) ∙ sym e

      long : n < length t → length (take (n + 1) t) ≡ n + 1
      long l = length-take-le (n + 1) t (omega arith)

-- behind the digits of a whole part
module _ (n b : ℕ) (t : List ℕ) where
  pub another_is_not_read : (b ≡ point → ⊥) → (m : ℕ) → longest (follows n) m (b ∷ t) ≡ 0
  unfolding follows
  another_is_not_read h m = longest_none (follows n) b t (λ u. none u (leb 1 n)) m
    where
      none : (u : List ℕ) (x : Bool) → (x && (eqb b point && few 3 u)) ≡ false
      none u true = simp tests
      none u false = refl

  pub a_point_is_read : b ≡ point → 1 ≤ n → (m : ℕ) → longest (follows n) (suc m) (b ∷ t) ≡ suc (longest (few 3) m t)
  unfolding follows few every
  a_point_is_read e h m = longest_behind (follows n) b t (few 3) (λ u. simp tests) refl m

further : (n j : ℕ) → n + j + 1 ≡ n + (j + 1)
further n j = omega arith

-- a number: its digits, but at most six, and what may stand behind them
module _ (t : List ℕ) where
  closed : (u v : List ℕ) → begins (u ++ v) ≡ true → begins u ≡ true
  closed = starts_closed begins well_formed one_number_starts

  at_the_seam : (j : ℕ) → length (run Digit t) ≤ 6 → begins (take (length (run Digit t) + j) t) ≡ follows (length (run Digit t)) (take j (rest Digit t))
  at_the_seam j h =
      ap begins (take_beyond Digit t j) ∙ begins_seam (run Digit t) (take j (rest Digit t)) (run_digits t) (bare_take Digit (rest Digit t) j (rest_bare Digit t)) ∙
      simp tests

  digits_and_more : length (run Digit t) ≤ 6 → length (run Digit t) + longest (follows (length (run Digit t))) (length (rest Digit t)) (rest Digit t) ≡ read_in t
  unfolding read_in follows
  digits_and_more h =
      let n = length (run Digit t) in
      let u = rest Digit t in
      let j = longest (follows n) (length u) u in
      let all = rest_length Digit t in
      counted_longest begins t closed (n + j) (omega (arith, longest_short (follows n) u (length u)))
      (at_the_seam j h ∙ longest_is (follows n) u (length u) refl)
      (λ l. ap (λ m. begins (take m t)) (further n j) ∙ at_the_seam (j + 1) h ∙ longest_past (follows n) u (omega arith))

begins_digits : (ds : List ℕ) → every digit ds ≡ true → begins ds ≡ leb (length ds) 6
unfolding run follows
begins_digits ds d = ap begins (sym (append-nil ds)) ∙ begins_seam ds [] d refl ∙ and_true (leb (length ds) 6)

no_digits : (u : List ℕ) → longest (follows 0) (length u) u ≡ 0
unfolding follows longest
no_digits [] = refl
no_digits (b ∷ u) = longest_none (follows 0) b u (λ v. refl) (length (b ∷ u))

module _ (n : ℕ) (t : List ℕ) (e : n ≡ length (run Digit t)) where
  pub digits_and_more_are_read : n ≤ 6 → n + longest (follows n) (length (rest Digit t)) (rest Digit t) ≡ read_in t
  digits_and_more_are_read h = rw e (digits_and_more t (rw e at h))

  pub no_digit_is_read : n ≡ 0 → 0 ≡ read_in t
  no_digit_is_read z =
      let u = rest Digit t in
      let q = subst (λ m. m + longest (follows m) (length u) u ≡ read_in t) z (digits_and_more_are_read (omega arith)) in
      omega (arith, q, no_digits u)

  pub six_digits_are_read : 6 < n → 6 ≡ read_in t
  unfolding read_in
  six_digits_are_read h =
      let s = run_short Digit t in
      counted_longest begins t (closed t) 6 (omega arith)
      (begins_digits (take 6 t) (digits_within t 6 (omega arith)) ∙ rw (length-take-le 6 t (omega arith)))
      (λ l. begins_digits (take 7 t) (digits_within t 7 (omega arith)) ∙ rw (length-take-le 7 t (omega arith)))

-- a wrong number says how far its text is read, and a right one is read whole
module _ (size read : ℕ) where
  Says : Number → Type 0
  Says n = read_of n size ≡ (if right n then size else read)

  wrong_says : Says (Wrong read)
  unfolding right Says
  wrong_says = refl

  followed_says : (whole : ℕ) (t : List ℕ) → Says (followed_of read whole t)
  unfolding right followed_of decimals_of Says
  followed_says whole [] = refl
  followed_says whole (b ∷ t) = by Says (eqb b point) (λ p. by Says (digits 1 3 t) (λ d. refl) (λ d. refl)) (λ p. refl)

number_says : (t : List ℕ) (size : ℕ) → Says size (read_in t) (number_of t)
unfolding number_of right Says
number_says [] size = refl
number_says (b ∷ t) size =
    let read = read_in (b ∷ t) in
    by (Says size read) (digits 1 6 (run Digit (b ∷ t)))
    (λ d. followed_says size read (value_of (run Digit (b ∷ t))) (rest Digit (b ∷ t)))
    (λ d. wrong_says size read)

pub read_of_number : (t : List ℕ) (size : ℕ) → read_of (number_of t) size ≡ (if well_formed t then size else read_in t)
unfolding well_formed Says
read_of_number t size = number_says t size

pub a_number_is_read : (t : List ℕ) → read_of (number_of t) (length t) ≡ read_in t
a_number_is_read t = read_of_number t (length t) ∙ go (well_formed t) refl
  where
    go : (x : Bool) → well_formed t ≡ x → (if x then length t else read_in t) ≡ read_in t
    go true e = sym (a_number_is_read_whole t e)
    go false e = refl

pub read_short : (t : List ℕ) → read_in t ≤ length t
unfolding read_in
read_short t = longest_short begins t (length t)

-- two numbers
closed_two : (v w : List ℕ) → begins_two (v ++ w) ≡ true → begins_two v ≡ true
closed_two = starts_closed begins_two well_formed_two two_numbers_start

module _ (f u : List ℕ) (d : every (has NoComma) f ≡ true) (e : run NoComma u ≡ []) where
  within_first : (k : ℕ) → k ≤ length f → begins_two (take k (f ++ u)) ≡ begins (take k f)
  unfolding parted run
  within_first k h =
      ap begins_two (take-append-le k f u h ∙ sym (append-nil (take k f))) ∙ begins_two_seam (take k f) [] (every_take (has NoComma) k f d) refl

  beyond_first : (j : ℕ) → begins_two (take (length f + j) (f ++ u)) ≡ parted f (take j u)
  beyond_first j = ap begins_two (take-append-add f u j) ∙ begins_two_seam f (take j u) d (bare_take NoComma u j e)

begins_nothing : begins [] ≡ true
unfolding begins follows run rest
begins_nothing = refl

-- where the first is wrong, what is read of it
wrong_first :
    (f u : List ℕ) → every (has NoComma) f ≡ true → run NoComma u ≡ [] → well_formed f ≡ false →
    read_in f ≡ longest begins_two (length (f ++ u)) (f ++ u)
unfolding read_in parted
wrong_first f u d e w =
    let k = longest begins (length f) f in
    let s = longest_short begins f (length f) in
    counted_longest begins_two (f ++ u) closed_two k (omega (arith, length-append f u))
    (within_first f u d e k s ∙ longest_is begins f (length f) begins_nothing)
    (λ l. go k s refl (ltb k (length f)) refl l)
  where
    no_comma : (u : List ℕ) → 0 < length u → parted f (take 1 u) ≡ false
    no_comma [] h = absurd (omega arith)
    no_comma (b ∷ v) h = rw w

    go :
        (k : ℕ) → k ≤ length f → k ≡ longest begins (length f) f → (x : Bool) → ltb k (length f) ≡ x → k < length (f ++ u) →
        begins_two (take (k + 1) (f ++ u)) ≡ false
    go k s r true q l =
        let h = ltb-true k (length f) q in
        within_first f u d e (k + 1) (omega arith) ∙ ap (λ m. begins (take (m + 1) f)) r ∙ longest_past begins f (omega arith)
    go k s r false q l =
        let same : k ≡ length f = le_antisymm s (ltb-false k (length f) q) in
        ap (λ m. begins_two (take (m + 1) (f ++ u))) same ∙ beyond_first f u d e 1 ∙ no_comma u (omega (arith, length-append f u))

-- else the first, the comma and what is read of the second
right_first :
    (f u : List ℕ) → every (has NoComma) f ≡ true → run NoComma u ≡ [] → well_formed f ≡ true →
    length f + comma_read u ≡ longest begins_two (length (f ++ u)) (f ++ u)
unfolding comma_read read_in parted
right_first f [] d e w =
    let whole : begins f ≡ true = one_number_starts.only f [] (ap well_formed (append-nil f) ∙ w) in
    let all = length-append f [] in
    counted_longest begins_two (f ++ []) closed_two (length f + 0) (omega arith) (beyond_first f [] d e 0 ∙ whole) (λ l. absurd (omega arith))
right_first f (b ∷ v) d e w =
    let k = longest begins (length v) v in
    let s = longest_short begins v (length v) in
    let all = length-append f (b ∷ v) in
    counted_longest begins_two (f ++ b ∷ v) closed_two (length f + (1 + k)) (omega arith)
    (ap (λ m. begins_two (take (length f + m) (f ++ b ∷ v))) (next k) ∙ beyond_first f (b ∷ v) d e (suc k) ∙ and_of _ _ w (longest_is begins v (length v) begins_nothing))
    (λ l.
    ap (λ m. begins_two (take m (f ++ b ∷ v))) (again (length f) k) ∙ beyond_first f (b ∷ v) d e (suc (k + 1)) ∙ rw w (longest_past begins v (omega arith)))
  where
    next : (k : ℕ) → 1 + k ≡ suc k
    next k = omega arith

    again : (n k : ℕ) → n + (1 + k) + 1 ≡ n + suc (k + 1)
    again n k = omega arith

-- two numbers are read as far as the first, or with it, a comma and as far as the second
pub two_numbers_are_read : (t : List ℕ) → read_of (number_of (run NoComma t)) (length (run NoComma t) + comma_read (rest NoComma t)) ≡ read_in_two t
unfolding read_in_two
two_numbers_are_read t =
    read_of_number (run NoComma t) _ ∙ go (run NoComma t) (rest NoComma t) (run_every NoComma t) (rest_bare NoComma t) (well_formed (run NoComma t)) refl ∙
    ap (λ v. longest begins_two (length v) v) (run_rest NoComma t)
  where
    go :
        (f u : List ℕ) → every (has NoComma) f ≡ true → run NoComma u ≡ [] → (x : Bool) → well_formed f ≡ x →
        (if x then length f + comma_read u else read_in f) ≡ longest begins_two (length (f ++ u)) (f ++ u)
    go f u d e true w = right_first f u d e w
    go f u d e false w = wrong_first f u d e w

pub comma_read_short : (t : List ℕ) → comma_read t ≤ length t
unfolding comma_read
comma_read_short [] = omega arith
comma_read_short (b ∷ t) = omega (arith, read_short t)
