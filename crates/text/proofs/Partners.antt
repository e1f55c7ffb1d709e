-- Theorem: in an accepted text each G has one partner, and loops lie apart or one in another.
use mathlib.Core.Path.{◌≡◌, refl, sym, ap, ◌∙◌}
use mathlib.Core.Bool.{Bool, true, false}
use mathlib.Core.Logic.{◌⊎◌, inl, inr, ⊎_elim}
use mathlib.Core.List.Memᴰ
use mathlib.Core.List.{List, [], ◌∷◌, ◌++◌, Memᴰ}
use Prim.Native.Nat.{ℕ, ◌+◌, ◌≤◌, ◌<◌}
use native.Mathlib.Omega.{arith}
use Rattle.std.specs.Prelude.{if◌then◌else◌}
use Rattle.text.specs.Text.{Step}
use Rattle.text.specs.Loops.{Part, opens, closes, plain, part_of, Nest, done, one, loop, spell, Proper, Accepted}

-- a loop by its g and its G, counted among the commands of its text
pub record Loop : Type 0 where
  pub opening : ℕ
  pub closing : ℕ

-- how many commands a tree has
abbrev pub size : Nest → ℕ
size done = 0
size (one s f) = size f + 1
size (loop g inner n end f) = size inner + size f + 2

-- the loops of a tree whose first command has a number
abbrev pub loops_from : ℕ → Nest → List Loop
loops_from at done = []
loops_from at (one s f) = loops_from (at + 1) f
loops_from at (loop g inner n end f) =
    record { opening = at; closing = at + 1 + size inner }
    ∷ (loops_from (at + 1) inner ++ loops_from (at + 2 + size inner) f)

-- the numbers of the g, and of the G, of a text whose first command has a number
abbrev is_open : Part → Bool
is_open opens = true
is_open (closes n) = false
is_open plain = false

abbrev is_close : Part → Bool
is_close opens = false
is_close (closes n) = true
is_close plain = false

abbrev places : (Part → Bool) → ℕ → List Step → List ℕ
places is at [] = []
places is at (s ∷ t) = if is (part_of s.command) then at ∷ places is (at + 1) t else places is (at + 1) t

abbrev pub openings : ℕ → List Step → List ℕ
openings at t = places is_open at t

abbrev pub closings : ℕ → List Step → List ℕ
closings at t = places is_close at t

-- two loops are the same, or lie apart, or one lies in the other
pub data Nested (p q : Loop) : Type 0 where
  same : p ≡ q → Nested p q
  before : p.closing < q.opening → Nested p q
  behind : q.closing < p.opening → Nested p q
  around : p.opening < q.opening → q.closing < p.closing → Nested p q
  within : q.opening < p.opening → p.closing < q.closing → Nested p q

-- a loop lies inside its tree
record Inside (at : ℕ) (f : Nest) (p : Loop) : Type 0 where
  first : at ≤ p.opening
  some : p.opening < p.closing
  last : p.closing < at + size f

-- a loop of a loop's tree is that loop, or one of its body, or one of what follows
cases :
    {A : Type 0} (at : ℕ) (inner f : Nest) (p : Loop) →
    Memᴰ p (record { opening = at; closing = at + 1 + size inner } ∷ (loops_from (at + 1) inner ++ loops_from (at + 2 + size inner) f)) →
    (p ≡ record { opening = at; closing = at + 1 + size inner } → A) → (Memᴰ p (loops_from (at + 1) inner) → A) →
    (Memᴰ p (loops_from (at + 2 + size inner) f) → A) → A
cases at inner f p m here in_Body later =
    ⊎_elim here (λ k. ⊎_elim in_Body later (Memᴰ.append_cases (loops_from (at + 1) inner) k)) (Memᴰ.cases_cons m)

inside : (at : ℕ) (f : Nest) (p : Loop) → Memᴰ p (loops_from at f) → Inside at f p
inside at done p m = absurd (Memᴰ.not-nil m)
inside at (one s f) p m = let r = inside (at + 1) f p m in record { first = omega arith; some = r.some; last = omega arith }
inside at (loop g inner n end f) p m =
    cases at inner f p m
    (λ e. let a = ap (λ l. l.opening) e in let b = ap (λ l. l.closing) e in record { first = omega arith; some = omega arith; last = omega arith })
    (λ k. let r = inside (at + 1) inner p k in record { first = omega arith; some = r.some; last = omega arith })
    (λ k. let r = inside (at + 2 + size inner) f p k in record { first = omega arith; some = r.some; last = omega arith })

nested : (at : ℕ) (f : Nest) (p q : Loop) → Memᴰ p (loops_from at f) → Memᴰ q (loops_from at f) → Nested p q
nested at done p q m k = absurd (Memᴰ.not-nil m)
nested at (one s f) p q m k = nested (at + 1) f p q m k
nested at (loop g inner n end f) p q m k =
    cases at inner f p m
    (λ d.
    let a = ap (λ l. l.opening) d in
    let b = ap (λ l. l.closing) d in
    cases at inner f q k (λ e. same (d ∙ sym e)) (λ e. let r = inside (at + 1) inner q e in around (omega arith) (omega arith)) (λ e. let r = inside (at + 2 + size inner) f q e in before (omega arith)))
    (λ d.
    let s = inside (at + 1) inner p d in
    cases at inner f q k
    (λ e. let a = ap (λ l. l.opening) e in let b = ap (λ l. l.closing) e in within (omega arith) (omega arith))
    (λ e. nested (at + 1) inner p q d e)
    (λ e. let r = inside (at + 2 + size inner) f q e in before (omega arith)))
    (λ d.
    let s = inside (at + 2 + size inner) f p d in
    cases at inner f q k
    (λ e. let a = ap (λ l. l.opening) e in let b = ap (λ l. l.closing) e in behind (omega arith))
    (λ e. let r = inside (at + 1) inner q e in behind (omega arith))
    (λ e. nested (at + 2 + size inner) f p q d e))

-- a loop of some loops closes at a place
record Closes (loops : List Loop) (k : ℕ) : Type 0 where
  partner : Loop
  there : Memᴰ partner loops
  at_it : partner.closing ≡ k

-- a G in a tree and what follows it closes a loop of the tree, or stands behind it
closing_in :
    (at : ℕ) (f : Nest) (more : List Step) (k : ℕ) → Proper f → Memᴰ k (closings at (spell f more)) →
    Closes (loops_from at f) k ⊎ Memᴰ k (closings (at + size f) more)
closing_in at done more k p m = let z : at + 0 ≡ at = omega arith in inr (rw z m)
closing_in at (one s f) more k p m =
    let z : at + (size f + 1) ≡ at + 1 + size f = omega arith in
    rw z (closing_in (at + 1) f more k p.1 (rw p.0 at m))
closing_in at (loop g inner n end f) more k p m =
    let z : at + (size inner + size f + 2) ≡ at + 2 + size inner + size f = omega arith in
    let y : at + 1 + size inner + 1 ≡ at + 2 + size inner = omega arith in
    rw z
    (⊎_elim
    (λ r. inl (record { partner = r.partner; there = Memᴰ.tail (Memᴰ.append_left (loops_from (at + 2 + size inner) f) r.there); at_it = r.at_it }))
    (λ l.
    ⊎_elim (λ e. inl (record { partner = _; there = Memᴰ.head refl; at_it = sym e }))
    (λ h.
    ⊎_elim
    (λ r. inl (record { partner = r.partner; there = Memᴰ.tail (Memᴰ.append_right (loops_from (at + 1) inner) r.there); at_it = r.at_it }))
    (λ b. inr b) (closing_in (at + 2 + size inner) f more k p.3 (rw y at h)))
    (Memᴰ.cases_cons (rw p.1 at l)))
    (closing_in (at + 1) inner (end ∷ spell f more) k p.2 (rw p.0 at m)))

-- a place stays one with a command more in front, and with a tree in front
kept : (x : Bool) (at k : ℕ) (ks : List ℕ) → Memᴰ k ks → Memᴰ k (if x then at ∷ ks else ks)
kept true at k ks m = Memᴰ.tail m
kept false at k ks m = m

kept_behind : (is : Part → Bool) (at : ℕ) (f : Nest) (more : List Step) (k : ℕ) → Memᴰ k (places is (at + size f) more) → Memᴰ k (places is at (spell f more))
kept_behind is at done more k m = let z : at + 0 ≡ at = omega arith in rw z at m
kept_behind is at (one s f) more k m =
    let z : at + (size f + 1) ≡ at + 1 + size f = omega arith in
    kept (is (part_of s.command)) at k (places is (at + 1) (spell f more)) (kept_behind is (at + 1) f more k (rw z at m))
kept_behind is at (loop g inner n end f) more k m =
    let z : at + (size inner + size f + 2) ≡ at + 1 + size inner + 1 + size f = omega arith in
    let u = places is (at + 1 + size inner + 1) (spell f more) in
    kept (is (part_of g.command)) at k (places is (at + 1) (spell inner (end ∷ spell f more)))
    (kept_behind is (at + 1) inner (end ∷ spell f more) k
    (kept (is (part_of end.command)) (at + 1 + size inner) k u (kept_behind is (at + 1 + size inner + 1) f more k (rw z at m))))

-- a loop of a tree opens at a g
opening_in :
    (at : ℕ) (f : Nest) (more : List Step) (p : Loop) → Proper f → Memᴰ p (loops_from at f) →
    Memᴰ p.opening (openings at (spell f more))
opening_in at done more p h m = absurd (Memᴰ.not-nil m)
opening_in at (one s f) more p h m = kept (is_open (part_of s.command)) at p.opening (openings (at + 1) (spell f more)) (opening_in (at + 1) f more p h.1 m)
opening_in at (loop g inner n end f) more p h m =
    let y : at + 1 + size inner + 1 ≡ at + 2 + size inner = omega arith in
    rw h.0
    (cases at inner f p m (λ e. Memᴰ.head (ap (λ l. l.opening) e))
    (λ k. Memᴰ.tail (opening_in (at + 1) inner (end ∷ spell f more) p h.2 k))
    (λ k. Memᴰ.tail (kept_behind is_open (at + 1) inner (end ∷ spell f more) p.opening (kept (is_open (part_of end.command)) (at + 1 + size inner) p.opening (openings (at + 1 + size inner + 1) (spell f more)) (rw y (opening_in (at + 2 + size inner) f more p h.3 k))))))

-- loops that close at one place are one
one_closing : (p q : Loop) → p.opening < p.closing → q.opening < q.closing → p.closing ≡ q.closing → Nested p q → p ≡ q
one_closing p q h k e (same s) = s
one_closing p q h k e (before l) = absurd (omega arith)
one_closing p q h k e (behind l) = absurd (omega arith)
one_closing p q h k e (around l r) = absurd (omega arith)
one_closing p q h k e (within l r) = absurd (omega arith)

-- the one loop that a G closes
pub record Partner (loops : List Loop) (k : ℕ) : Type 0 where
  pub loop_of_lem : Loop
  pub there : Memᴰ loop_of_lem loops
  pub closes_here : loop_of_lem.closing ≡ k
  pub only : (other : Loop) → Memᴰ other loops → other.closing ≡ k → other ≡ loop_of_lem

module _ (t : List Step) (a : Accepted t) where
  abbrev pub loops_of : List Loop
  loops_of = loops_from 0 a.nest

  pub loops_nest : (p q : Loop) → Memᴰ p loops_of → Memᴰ q loops_of → Nested p q
  loops_nest = nested 0 a.nest

  pub each_G_has_one_partner : (k : ℕ) → Memᴰ k (closings 0 t) → Partner loops_of k
  each_G_has_one_partner k m =
      let c = ⊎_elim (λ (r : Closes loops_of k). r) (λ b. absurd (Memᴰ.not-nil b)) (closing_in 0 a.nest [] k a.proper (rw a.spelt m)) in
      record {
        loop_of_lem = c.partner;
        there = c.there;
        closes_here = c.at_it;
        only =
            λ other o e.
            one_closing other c.partner (inside 0 a.nest other o).some (inside 0 a.nest c.partner c.there).some (e ∙ sym c.at_it)
            (loops_nest other c.partner o c.there);
      }

  pub a_loop_opens_at_a_g : (p : Loop) → Memᴰ p loops_of → Memᴰ p.opening (openings 0 t)
  a_loop_opens_at_a_g p m = rw a.spelt at (opening_in 0 a.nest [] p a.proper m)
