-- Laws of runs: one step at an index of the text, and a run and what follows it as parts of the text.
use mathlib.Core.Path.{◌≡◌, refl, sym, ap, ◌∙◌}
use mathlib.Core.Bool.{Bool, true, false}
use mathlib.Core.List.{List, [], ◌∷◌, ◌++◌}
use Prim.Native.Nat.{ℕ, zero, suc, ◌+◌, ◌-◌, ◌≤◌, ◌<◌}
use native.Mathlib.Omega.{arith}
use lib.ListN.{length, take, drop, get_or, drop_of_length-le, length-append}
use lib.Seq.{get_or-take, take-length, take-append_seam, drop-append_seam}
use Rattle.std.specs.Prelude.{if◌then◌else◌, cond}
use Rattle.std.specs.List.{prefix_len}
use Rattle.basics.specs.Bytes.{digit, every}
use Rattle.basics.proofs.Digits.{and_both}
use Rattle.basics.proofs.Lists.{drop_step, tail_all}
use Rattle.operand.specs.declared.Class.{Class}
use Rattle.operand.specs.declared.Class.TheVariants.{Digit}
use Rattle.operand.specs.Text.{has, run, rest}

-- the byte at an index of a text all of one kind
pub every_at : (p : ℕ → Bool) (t : List ℕ) (i : ℕ) → every p t ≡ true → i < length t → p (get_or t i 0) ≡ true
unfolding every
every_at p [] i e h = absurd (omega arith)
every_at p (b ∷ t) zero e h = (and_both (p b) (every p t) e).0
every_at p (b ∷ t) (suc i) e h = every_at p t i (and_both (p b) (every p t) e).1 (omega arith)

module _ (class : Class) (t : List ℕ) (i : ℕ) where
  pub run_more : i < length t → has class (get_or t i 0) ≡ true → run class (drop i t) ≡ get_or t i 0 ∷ run class (drop (i + 1) t)
  unfolding run
  run_more h e = rw (drop_step t i h, run, e)

  pub run_stop : i < length t → has class (get_or t i 0) ≡ false → run class (drop i t) ≡ []
  unfolding run
  run_stop h e = rw (drop_step t i h, run, e)

  pub run_end : length t ≤ i → run class (drop i t) ≡ []
  unfolding run
  run_end h = rw drop_of_length-le

-- a run is as long as bytes of its class are at the front
run_counted : (class : Class) (t : List ℕ) → prefix_len (λ b. has class b) t ≡ length (run class t)
unfolding run
run_counted class [] = refl
run_counted class (b ∷ t) = go (has class b) (run_counted class t)
  where
    go : (x : Bool) → prefix_len (λ c. has class c) t ≡ length (run class t) → cond x (1 + prefix_len (λ c. has class c) t) 0 ≡ length (if x then b ∷ run class t else [])
    go true e = omega arith
    go false e = refl

pub counted_run : (class : Class) (t : List ℕ) (n : ℕ) → n ≡ prefix_len (λ b. has class b) t → n ≡ length (run class t)
counted_run class t n e = e ∙ run_counted class t

-- a text is its run and what follows
pub run_rest : (class : Class) (t : List ℕ) → run class t ++ rest class t ≡ t
unfolding run rest
run_rest class [] = refl
run_rest class (b ∷ t) = go (has class b) (run_rest class t)
  where
    go : (x : Bool) → run class t ++ rest class t ≡ t → (if x then b ∷ run class t else []) ++ (if x then rest class t else b ∷ t) ≡ b ∷ t
    go true e = ap (◌∷◌ b) e
    go false e = refl

-- every byte of a run is of its class, and what follows begins with none
pub run_every : (class : Class) (t : List ℕ) → every (has class) (run class t) ≡ true
unfolding run every
run_every class [] = refl
run_every class (b ∷ t) = go (has class b) refl (run_every class t)
  where
    go : (x : Bool) → has class b ≡ x → every (has class) (run class t) ≡ true → every (has class) (if x then b ∷ run class t else []) ≡ true
    go true e h = rw (e, h)
    go false e h = refl

pub run_digits : (t : List ℕ) → every digit (run Digit t) ≡ true
run_digits t = run_every Digit t

pub rest_begins : (class : Class) (t : List ℕ) (b : ℕ) (u : List ℕ) → rest class t ≡ b ∷ u → has class b ≡ false
unfolding rest
rest_begins class [] b u e = let z : ◌≡◌ {A = ℕ} 0 1 = cc in absurd (omega arith)
rest_begins class (d ∷ t) b u e = go (has class d) refl (rest_begins class t b u) e
  where
    go : (x : Bool) → has class d ≡ x → (rest class t ≡ b ∷ u → has class b ≡ false) → (if x then rest class t else d ∷ t) ≡ b ∷ u → has class b ≡ false
    go true q h e = h e
    go false q h e = let s : d ≡ b = cc in rw (← s) q

module _ (class : Class) (t : List ℕ) where
  pub run_short : length (run class t) ≤ length t
  run_short = omega (arith, simp length-append at (ap length (run_rest class t)))

  pub take_run : take (length (run class t)) t ≡ run class t
  take_run = ap (take (length (run class t))) (sym (run_rest class t)) ∙ take-append_seam (run class t) (rest class t)

  pub drop_run : drop (length (run class t)) t ≡ rest class t
  drop_run = ap (drop (length (run class t))) (sym (run_rest class t)) ∙ drop-append_seam (run class t) (rest class t)

  -- a run as long as its text is the text
  pub run_whole : length (run class t) ≡ length t → run class t ≡ t
  run_whole e = sym take_run ∙ rw e (take-length t)

-- a text all of one class is its own run
pub run_all : (class : Class) (t : List ℕ) → every (has class) t ≡ true → run class t ≡ t
unfolding run every
run_all class [] h = refl
run_all class (b ∷ t) h =
    let p = and_both (has class b) (every (has class) t) h in
    rw (run, p.0, run_all class t p.1)

-- and it is the run of itself with a byte of another class behind it
pub run_stops : (class : Class) (t : List ℕ) (b : ℕ) (u : List ℕ) → every (has class) t ≡ true → has class b ≡ false → run class (t ++ b ∷ u) ≡ t
unfolding run every
run_stops class [] b u h n = rw (run, n)
run_stops class (d ∷ t) b u h n =
    let p = and_both (has class d) (every (has class) t) h in
    rw (run, p.0, run_stops class t b u p.1 n)

-- a run shorter than its text leaves a byte that is not of the class
pub not_every : (class : Class) (t : List ℕ) → (length (run class t) ≡ length t → ⊥) → every (has class) t ≡ false
not_every class t h = go (every (has class) t) refl
  where
    go : (x : Bool) → every (has class) t ≡ x → x ≡ false
    go true e = absurd (h (ap length (run_all class t e)))
    go false e = refl

-- n bytes of a class, from the front
module _ (class : Class) (n : ℕ) (t : List ℕ) (e : n ≡ length (run class t)) where
  pub front : take n t ≡ run class t
  front = rw e (take_run class t)

  pub behind : take (length t - n) (drop n t) ≡ rest class t
  behind = rw (tail_all, e) (drop_run class t)

  pub short : n ≤ length t
  short = rw e (run_short class t)

  pub counted : n ≡ length (take n t)
  counted = rw front e

-- a byte inside a run is of its class, and the byte behind it is not
module _ (class : Class) (t : List ℕ) where
  pub run_at : (i : ℕ) → i < length (run class t) → has class (get_or t i 0) ≡ true
  run_at i h =
      let same : get_or (take (length (run class t)) t) i 0 ≡ get_or t i 0 = get_or-take (length (run class t)) t i 0 h in
      rw same at (rw (← take_run class t) at (every_at (has class) (run class t) i (run_every class t) h))

  pub run_past : length (run class t) < length t → has class (get_or t (length (run class t)) 0) ≡ false
  run_past h =
      let n = length (run class t) in
      rest_begins class t (get_or t n 0) (drop (n + 1) t) (sym (drop_run class t) ∙ drop_step t n h)

-- in front of a text that begins with no byte of the class, a run stays as it is
pub run_joined : (class : Class) (t u : List ℕ) → run class u ≡ [] → run class (t ++ u) ≡ run class t
unfolding run
run_joined class [] u e = e
run_joined class (b ∷ t) u e = go (has class b) (run_joined class t u e)
  where
    go : (x : Bool) → run class (t ++ u) ≡ run class t → (if x then b ∷ run class (t ++ u) else []) ≡ (if x then b ∷ run class t else [])
    go true h = ap (◌∷◌ b) h
    go false h = refl

-- a run and what follows it, from their seam: what follows begins with no byte of the class
module _ (class : Class) (t u : List ℕ) (h : every (has class) t ≡ true) where
  pub run_through : run class (t ++ u) ≡ t ++ run class u
  unfolding run every
  run_through = go t h
    where
      go : (t : List ℕ) → every (has class) t ≡ true → run class (t ++ u) ≡ t ++ run class u
      go [] q = refl
      go (b ∷ t) q =
          let p = and_both (has class b) (every (has class) t) q in
          rw (run, p.0, go t p.1)

  module _ (e : run class u ≡ []) where
    pub run_seam : run class (t ++ u) ≡ t
    run_seam = run_joined class t u e ∙ run_all class t h

    pub rest_seam : rest class (t ++ u) ≡ u
    rest_seam = sym (drop_run class (t ++ u)) ∙ rw run_seam (drop-append_seam t u)

-- a text that begins with no byte of a class: what follows a run, and each beginning of it
pub bare_head : (class : Class) (b : ℕ) (t : List ℕ) → run class (b ∷ t) ≡ [] → has class b ≡ false
unfolding run
bare_head class b t e = go (has class b) e
  where
    go : (x : Bool) → (if x then b ∷ run class t else []) ≡ [] → x ≡ false
    go true q = let z : ◌≡◌ {A = ℕ} 1 0 = cc in absurd (omega arith)
    go false q = refl

pub bare : (class : Class) (b : ℕ) (t : List ℕ) → has class b ≡ false → run class (b ∷ t) ≡ []
unfolding run
bare class b t e = rw (run, e)

pub bare_take : (class : Class) (t : List ℕ) (i : ℕ) → run class t ≡ [] → run class (take i t) ≡ []
unfolding run
bare_take class t zero e = refl
bare_take class [] (suc i) e = refl
bare_take class (b ∷ t) (suc i) e = bare class b (take i t) (bare_head class b t e)

pub rest_bare : (class : Class) (t : List ℕ) → run class (rest class t) ≡ []
unfolding run
rest_bare class t = go (rest class t) (rest_begins class t)
  where
    go : (u : List ℕ) → ((b : ℕ) (v : List ℕ) → u ≡ b ∷ v → has class b ≡ false) → run class u ≡ []
    go [] f = refl
    go (b ∷ v) f = bare class b v (f b v refl)
