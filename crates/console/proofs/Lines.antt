-- Laws of `specs/Eaten`: a line in its array, a line's end, and a chunk line by line.
use mathlib.Core.Path.{◌≡◌, refl, sym, ap, subst, ◌∙◌}
use mathlib.Core.Bool.{Bool, true, false}
use mathlib.Core.List.{List, [], ◌∷◌, ◌++◌, append-nil, append_assoc}
use Prim.Native.Nat.{ℕ, suc, ◌+◌, ◌-◌, ◌*◌, ◌≤◌, ◌<◌}
use native.Mathlib.Omega.{arith}
use borrow.Author.Tests.{leb-true, leb-false, ltb-false, lt-ltb}
use lib.Dec.{leb, ltb, eqb}
use lib.ListN.{length, take, drop, length-append, length-take, length-drop, drop_of_length-le}
use lib.Seq.{take_all, take-append-le, drop-drop, length-take-le}
use Rattle.std.specs.Prelude.{if◌then◌else◌}
use Rattle.basics.proofs.Choice.{by}
use Rattle.basics.proofs.Rules.{by_order}
use Rattle.desk.specs.Desk.{line_of, LineEnd}
use Rattle.desk.proofs.Lines.{long}
use Rattle.desk.specs.declared.Asked.TheVariants.{Wrong}
use Rattle.station.specs.declared.Station.{Station}
use Rattle.station.specs.Serve.{Served, did_of, served_of}
use Rattle.console.specs.declared.Memory.{Memory}
use Rattle.console.specs.Eaten.{Program, program, longer, ended_line, eaten_of, begun, memory, Sound, Stands, Eats, Finishes}

-- more bytes behind what is kept
pub kept_more : (kept more : List ℕ) → begun (begun kept ++ more) ≡ begun (kept ++ more)
kept_more kept more = go (leb (length kept) 401) refl
  where
    go : (x : Bool) → leb (length kept) 401 ≡ x → begun (begun kept ++ more) ≡ begun (kept ++ more)
    go true e = ap (λ (t : List ℕ). begun (t ++ more)) (take_all 401 kept (leb-true (length kept) 401 e))
    go false e =
        let over_401 = leb-false (length kept) 401 e in
        let all = length-take-le 401 kept (omega arith) in
        take-append-le 401 (begun kept) more (omega arith) ∙ take_all 401 (begun kept) (omega arith) ∙ sym (take-append-le 401 kept more (omega arith))

-- what is kept of a line does and prints what the line itself does: one over 400 is wrong either way
over_long : (t : List ℕ) (s : Station) → 400 < length t → served_of t s ≡ did_of Wrong [] s
unfolding served_of did_of
over_long t s h = rw (sym (long s.desk t h))

alike : (s : Station) (kept : List ℕ) → served_of (begun kept) s ≡ served_of kept s
alike s kept = go (leb (length kept) 400) refl
  where
    go : (x : Bool) → leb (length kept) 400 ≡ x → served_of (begun kept) s ≡ served_of kept s
    go true e = let up_to_400 = leb-true (length kept) 400 e in ap (λ (t : List ℕ). served_of t s) (take_all 401 kept (omega arith))
    go false e =
        let over_400 = leb-false (length kept) 400 e in
        let all = length-take-le 401 kept (omega arith) in
        over_long (begun kept) s (omega arith) ∙ sym (over_long kept s over_400)

module _ (s : Station) (line out : List ℕ) (ended : Bool) (a : Sound (memory s line out)) where
  pub line_served :
      (given : List ℕ) (k : Station) (after : List ℕ) → given ≡ line → ended ≡ true → k ≡ (served_of given s).station → after ≡ out ++ (served_of given s).text →
      length (served_of given s).text ≤ 80 * (length given + 1) → Finishes ended (memory s line out) (memory k [] after)
  line_served given k after g e given_is given_printed given_short =
      let text = (served_of line s).text in
      let is = rw g at given_is in
      let printed = rw g at given_printed in
      let short = rw g at given_short in
      record {
        room = rw printed (let sum = length-append out text in let f : length (out ++ text) + 80 * 0 ≤ length out + 80 * (length line + 1) = omega arith in f);
        eats = record {
          sound = omega arith;
          stands = λ p w. rw e (
              let same : served_of line s ≡ served_of p.kept p.station = ap (λ (t : List ℕ). served_of t s) w.keeps ∙ alike s p.kept ∙ ap (served_of p.kept) w.station in
              record {
                station = is ∙ ap (λ (x : Served). x.station) same;
                keeps = refl;
                printed = printed ∙ ap (λ (t : List ℕ). t ++ text) w.printed ∙ ap (λ (x : Served). p.printed ++ x.text) same;
              });
        };
      }

  pub line_goes_on : ended ≡ false → Finishes ended (memory s line out) (memory s line out)
  line_goes_on e = record { room = omega arith; eats = record { sound = a; stands = λ p q. rw e q } }

-- a text is its first line, and then the next lines or nothing
pub take_line : (t : List ℕ) → take (length (line_of t)) t ≡ line_of t
unfolding line_of
take_line [] = refl
take_line (b ∷ t) = by (λ (l : List ℕ). take (length l) (b ∷ t) ≡ l) (eqb b 10) (λ e. refl) (λ e. ap (◌∷◌ b) (take_line t))

-- what a text does after its first line, of the line, of whether it has ended, and of what follows
abbrev after_line : List ℕ → Bool → List ℕ → Program → Program
after_line line ended more s = if ended then eaten_of more (ended_line true (longer line s)) else longer line s

one_more_drop : (b n : ℕ) (t : List ℕ) → drop (n + 1) t ≡ drop (suc n + 1) (b ∷ t)
one_more_drop b n t = let e : suc n + 1 ≡ suc (n + 1) = omega arith in rw e

line_by_line : (t : List ℕ) (s : Program) → eaten_of t s ≡ after_line (line_of t) (ltb (length (line_of t)) (length t)) (drop (length (line_of t) + 1) t) s
unfolding eaten_of line_of
line_by_line [] s = ap (λ (l : List ℕ). program s.station l s.printed) (sym (append-nil s.kept))
line_by_line (b ∷ t) s = go (eqb b 10) (line_by_line t (longer (b ∷ []) s))
  where
    go : (x : Bool) →
        eaten_of t (longer (b ∷ []) s) ≡ after_line (line_of t) (ltb (length (line_of t)) (length t)) (drop (length (line_of t) + 1) t) (longer (b ∷ []) s) →
        eaten_of t (if x then ended_line true s else longer (b ∷ []) s)
        ≡ (let l = if x then [] else b ∷ line_of t in after_line l (ltb (length l) (length (b ∷ t))) (drop (length l + 1) (b ∷ t)) s)
    go true h =
        ap (λ (l : List ℕ). eaten_of t (ended_line true (program s.station l s.printed))) (sym (append-nil s.kept))
        ∙ ap (λ (x : Bool). after_line [] x t s) (sym (lt-ltb 0 (length (b ∷ t)) (omega arith)))
    go false h =
        h
        ∙ ap (λ (l : List ℕ). if ltb (length (line_of t)) (length t) then eaten_of (drop (length (line_of t) + 1) t) (ended_line true (program s.station l s.printed)) else program s.station l s.printed)
        (append_assoc s.kept (b ∷ []) (line_of t))
        ∙ ap (λ (x : Bool). after_line (b ∷ line_of t) x (drop (length (line_of t) + 1) t) s) (by_order (length (line_of t)) (length t) (length (b ∷ line_of t)) (length (b ∷ t)) (λ k. omega arith) (λ k. omega arith))
        ∙ ap (λ (u : List ℕ). after_line (b ∷ line_of t) (ltb (length (b ∷ line_of t)) (length (b ∷ t))) u s) (one_more_drop b (length (line_of t)) t)

-- on the way through a chunk: the bench program that the memory stands for, and what is left of the chunk
pub record Way (s : Program) (chunk : List ℕ) (from : ℕ) (a : Memory) : Type 0 where
  pub here : Program
  pub stands : Stands here a
  pub same : eaten_of (drop from chunk) here ≡ eaten_of chunk s

pub record Eating (start : Memory) (chunk : List ℕ) (from : ℕ) (a : Memory) : Type 0 where
  pub sound : Sound a
  pub room : length a.out + 80 * length a.line ≤ 80 * (length start.line + from)
  pub way : (s : Program) → Stands s start → Way s chunk from a

module _ (start : Memory) (chunk : List ℕ) where
  pub begins : Sound start → start.out ≡ [] → Eating start chunk 0 start
  begins a e = record { sound = a; room = let n : length start.out ≡ 0 = ap (λ (t : List ℕ). length t) e in omega arith; way = λ s q. record { here = s; stands = q; same = refl } }

  module _ (from : ℕ) (a : Memory) (r : Eating start chunk from a) where
    pub chunk_over : length chunk ≤ from → Eats (eaten_of chunk) start a
    unfolding eaten_of
    chunk_over h = record {
      sound = r.sound;
      stands = λ s q.
          let w = r.way s q in
          subst (λ (x : Program). Stands x a) (rw (drop_of_length-le chunk h) at w.same) w.stands;
    }

    -- a line begins, and has room for what it prints
    pub still_sound : (more line : List ℕ) → line ≡ begun (a.line ++ more) → Sound (memory a.station line a.out)
    still_sound more line g = let few = length-take 401 (a.line ++ more) in rw g (omega arith)

    -- the line at this place of the chunk, and behind its end
    module _ (h : from < length chunk) (end : ℕ) (e : LineEnd chunk from end) where
      abbrev rest : List ℕ
      rest = drop from chunk

      the_line : take (end - from) rest ≡ line_of rest
      the_line = let q = e.place in let n : end - from ≡ length (line_of rest) = omega arith in rw n (take_line rest)

      has_ended : ltb end (length chunk) ≡ ltb (length (line_of rest)) (length rest)
      has_ended =
          let q = e.place in
          let l = length-drop from chunk in
          by_order end (length chunk) (length (line_of rest)) (length rest) (λ k. omega arith) (λ k. omega arith)

      behind : drop (length (line_of rest) + 1) rest ≡ drop (end + 1) chunk
      behind = let q = e.place in let n : from + (length (line_of rest) + 1) ≡ end + 1 = omega arith in drop-drop (length (line_of rest) + 1) from chunk ∙ rw n

      past_line : (here : Program) (x : Bool) → ltb end (length chunk) ≡ x → eaten_of (drop (end + 1) chunk) (ended_line x (longer (line_of rest) here)) ≡ after_line (line_of rest) x (drop (length (line_of rest) + 1) rest) here
      unfolding eaten_of
      past_line here true q = rw behind
      past_line here false q = let over = ltb-false end (length chunk) q in rw (drop_of_length-le chunk {i = end + 1} (omega arith))

      -- no more are kept than come along
      no_more : (line : List ℕ) → line ≡ begun (a.line ++ take (end - from) rest) → length line ≤ length a.line + length (take (end - from) rest)
      no_more line g = rw g (omega (arith, length-take 401 (a.line ++ take (end - from) rest), length-append a.line (take (end - from) rest)))

      pub line_room : (line : List ℕ) → length start.line ≤ 401 → length chunk ≤ 2048 → line ≡ begun (a.line ++ take (end - from) rest) → length a.out + 80 * (length line + 1) ≤ 196608
      line_room line k l g =
          let u : length a.out + 80 * length a.line ≤ 80 * (length start.line + from) = r.room in
          let few = no_more line g in
          let part = length-take (end - from) (drop from chunk) in
          let b = e.behind in
          let i = e.inside in
          omega arith

      pub again : (line : List ℕ) (b : Bool) (k : Memory) →
          line ≡ begun (a.line ++ take (end - from) rest) → b ≡ ltb end (length chunk) → Finishes b (memory a.station line a.out) k → Eating start chunk (end + 1) k
      again line b k g q f = record {
        sound = f.eats.sound;
        room =
            let u : length a.out + 80 * length a.line ≤ 80 * (length start.line + from) = r.room in
            let v : length k.out + 80 * length k.line ≤ length a.out + 80 * (length line + 1) = f.room in
            let few = no_more line g in
            let part = length-take (end - from) (drop from chunk) in
            let y = e.behind in
            let w : length k.out + 80 * length k.line ≤ 80 * (length start.line + (end + 1)) = omega arith in
            w;
        way = λ s h.
            let w = r.way s h in
            let keeps : line ≡ begun (w.here.kept ++ line_of rest) = g ∙ rw (the_line, w.stands.keeps) (kept_more w.here.kept (line_of rest)) in
            let whole : Stands (longer (line_of rest) w.here) (memory a.station line a.out) = record { station = w.stands.station; keeps = keeps; printed = w.stands.printed } in
            record {
              here = ended_line b (longer (line_of rest) w.here);
              stands = f.eats.stands (longer (line_of rest) w.here) whole;
              same = past_line w.here b (sym q) ∙ sym (rw (← has_ended, ← q) at (line_by_line rest w.here)) ∙ w.same;
            };
      }
