-- Laws of raw bytes: what is heard and said so far, and what is left of the line, make the whole.
use mathlib.Core.Path.{◌≡◌, refl, sym, ap, ◌∙◌}
use mathlib.Core.Bool.{Bool, true, false}
use mathlib.Core.List.{List, [], ◌∷◌, ◌++◌}
use Prim.Native.Nat.{ℕ, suc, ◌+◌, ◌-◌, ◌*◌, ◌≤◌, ◌<◌}
use Rattle.std.specs.Prelude.{min, leb}
use borrow.Author.Tests.{leb-true, leb-false}
use Rattle.std.proofs.Common.{drop_of_length-le}
use Rattle.basics.proofs.Lists.{tail_all}
use native.Mathlib.Omega.{arith}
use borrow.Author.Tests.{eqb-true, eqb-false, eq-eqb, ne_eqb}
use lib.Dec.{eqb}
use lib.ListN.{length, get_or, take, drop, length-drop}
use Rattle.desk.specs.Hex.{byte_of, bytes_in}
use Rattle.station.specs.declared.Station.{Station}
use Rattle.station.specs.declared.Replied.{Replied}
use Rattle.printing.specs.Print.{close_of, Prints}
use Rattle.station.specs.Serve.{Served, served, said_to, silent, raw_from, raw_of, Replies}
use Rattle.printing.proofs.Output.{both, nothing}

-- the first byte of a text, and what follows it and a space
bytes_step : (u : List ℕ) → 2 ≤ length u → bytes_in u ≡ byte_of (get_or u 0 0) (get_or u 1 0) ∷ bytes_in (drop 3 u)
unfolding bytes_in
bytes_step [] h = absurd (omega arith)
bytes_step (a ∷ []) h = absurd (omega arith)
bytes_step (a ∷ b ∷ []) h = refl
bytes_step (a ∷ b ∷ s ∷ u) h = refl

bytes_over : (u : List ℕ) → length u < 2 → bytes_in u ≡ []
unfolding bytes_in
bytes_over [] h = refl
bytes_over (a ∷ []) h = refl
bytes_over (a ∷ b ∷ u) h = absurd (omega arith)

three : (u : List ℕ) (m : ℕ) → m ≡ min (length u) 3 → take (length u - m) (drop m u) ≡ drop 3 u
three u m e = tail_all m u ∙ go (leb 3 (length u)) refl
  where
    go : (x : Bool) → leb 3 (length u) ≡ x → drop m u ≡ drop 3 u
    go true q = let h = leb-true 3 (length u) q in let n : m ≡ 3 = omega arith in rw n
    go false q = let h = leb-false 3 (length u) q in drop_of_length-le u {i = m} (omega arith) ∙ sym (drop_of_length-le u {i = 3} (omega arith))

-- of a line t, so many bytes were heard, the last of them perhaps without a space behind it
pub record Hearing (t : List ℕ) (first : Station) (start : ℕ) (before : List ℕ) (s : Station) (at : ℕ) (rest out : List ℕ) : Type 0 where
  pub heard : ℕ
  pub within : 3 * heard ≤ length t + 1
  pub left : 0 < length rest → 3 * heard + length rest ≤ length t
  pub text : List ℕ
  pub prints : Prints (195 * heard) text start before at out
  pub same : raw_from (bytes_in rest) (served s text) ≡ raw_from (bytes_in t) (served first [])

module _ (t : List ℕ) (first : Station) (start : ℕ) (before : List ℕ) where
  pub listens : Hearing t first start before first start t before
  listens = record { heard = 0; within = omega arith; left = λ h. omega arith; text = []; prints = nothing 0 start before; same = refl }

  module _ (s : Station) (at : ℕ) (rest out : List ℕ) (r : Hearing t first start before s at rest out) where
    -- so much was said that there is room for more
    pub close_room : start + 80 * (length t + 3) ≤ length before → at + 2 ≤ length out
    close_room h = let p = r.prints in let e = p.ends in let c = p.short in let l = p.long in let w = r.within in omega arith

    none_said : eqb start at ≡ silent r.text
    none_said = go (eqb (length r.text) 0) refl
      where
        go : (x : Bool) → eqb (length r.text) 0 ≡ x → eqb start at ≡ x
        go true e = let n = eqb-true (length r.text) 0 e in let p = r.prints.ends in eq-eqb start at (omega arith)
        go false e = let n = eqb-false (length r.text) 0 e in let p = r.prints.ends in ne_eqb start at (λ q. n (omega arith))

    module _ (h : 2 ≤ length rest) where
      pub byte_room : start + 80 * (length t + 3) ≤ length before → at + 195 ≤ length out
      byte_room k = let p = r.prints in let e = p.ends in let c = p.short in let l = p.long in let w = r.left (omega arith) in omega arith

      pub hears :
          (b : ℕ) (quiet : Bool) (k : Replied) (after : List ℕ) → start + 80 * (length t + 3) ≤ length before → b ≡ byte_of (get_or rest 0 0) (get_or rest 1 0) → quiet ≡ eqb start at → Replies 195 (said_to b quiet s) at out k after →
          (m : ℕ) → m ≡ min (length rest) 3 → Hearing t first start before k.station k.end (take (length rest - m) (drop m rest)) after
      unfolding raw_from
      hears b quiet k after fits e q p m g =
          let more = take (length rest - m) (drop m rest) in
          let f : more ≡ drop 3 rest = three rest m g in
          let long : length more ≡ length rest - 3 = ap (λ (u : List ℕ). length u) f ∙ length-drop 3 rest in
          let was = r.left (omega arith) in
          let told : said_to b quiet s ≡ said_to b (silent r.text) s = ap (λ (x : Bool). said_to b x s) (q ∙ none_said) in
          let step : bytes_in rest ≡ b ∷ bytes_in more = bytes_step rest h ∙ rw (f, e) in
          record {
            heard = suc r.heard;
            within = omega arith;
            left = λ k. omega (arith, k, long);
            text = r.text ++ (said_to b quiet s).text;
            prints = both (195 * r.heard) 195 (195 * suc r.heard) r.text (said_to b quiet s).text start at k.end before out after (omega arith) (omega (arith, r.prints.ends, r.prints.short)) r.prints p.prints;
            same = rw (p.is, told) (sym (rw step) ∙ r.same);
          }

    pub all_heard :
        (quiet : Bool) (end : ℕ) (after : List ℕ) → start + 80 * (length t + 3) ≤ length before → length rest < 2 → quiet ≡ eqb start at → Prints 2 (close_of quiet) at out end after →
        Replies (80 * (length t + 3)) (raw_of (bytes_in t) first) start before (record { station = s; end = end }) after
    unfolding raw_of raw_from
    all_heard quiet end after fits h q p =
        let w = r.within in
        let e : served s r.text ≡ raw_from (bytes_in t) (served first []) = rw (bytes_over rest h) at r.same in
        let whole = both (195 * r.heard) 2 (80 * (length t + 3)) r.text (close_of quiet) start at end before out after (omega arith) (omega (arith, r.prints.ends, r.prints.short)) r.prints p in
        record {
          is = ap (λ (x : Served). x.station) e;
          prints = rw (← e) (rw (q ∙ none_said) at whole);
        }
