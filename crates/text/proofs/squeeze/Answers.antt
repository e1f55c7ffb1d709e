use mathlib.Core.Path.{◌≡◌, refl, sym, ap, ◌∙◌}
use mathlib.Core.Bool.{Bool, true, false}
use mathlib.Core.List.{List, [], ◌∷◌, ◌++◌}
use Prim.Native.Nat.{ℕ, ◌+◌, ◌-◌, ◌≤◌, ◌<◌}
use native.Mathlib.Omega.{arith}
use borrow.Author.Rules.{rules}
use lib.Dec.{eqb}
use lib.ListN.{length, take, drop, get_or, set, length-append, length-set}
use lib.Seq.{take_all, append_snoc, set_at, get_or-append-add, get_or-drop}
use Rattle.std.specs.Prelude.{if◌then◌else◌}
use Rattle.basics.specs.Lay.{over}
use Rattle.basics.proofs.Lists.{drop_step}
use Rattle.text.specs.Data.{spaceless, Squeezed}
use Rattle.text.proofs.Squeezing.{spaceless_more}
use Rattle.basics.proofs.Rules.{tests}
use Rattle.text.proofs.squeeze.Invariants.{Kept}
use Rattle.text.proofs.squeeze.Goals as goal

start : (t : List ℕ) → Kept t t 0 0
unfolding spaceless
start t = record { within = omega arith; behind = omega arith; count = refl; bytes = refl; long = refl }

module _ (before now : List ℕ) (kept i : ℕ) (k : Kept before now kept i) where
  end : length before ≤ i → Squeezed before kept now
  unfolding over
  end h =
      let all : take i before ≡ before = take_all i before h in
      let c : kept ≡ length (spaceless before) = rw all at k.count in
      let z : kept ≡ 0 + length (spaceless before) = omega (arith, c) in
      record { count = c; bytes = rw (k.bytes, all, ← z) }

  module _ (h : i < length now) where
    room : kept < length now
    room = omega (arith, k.behind)

    -- the byte at i has not been written over
    unread : get_or now i 0 ≡ get_or before i 0
    unread =
        let j : i ≡ length (spaceless (take i before)) + (i - kept) = omega (arith, k.count, k.behind) in
        let l : kept + (i - kept) ≡ i = omega (arith, k.behind) in
        ap (λ t. get_or t i 0) k.bytes ∙
        ap (λ n. get_or (spaceless (take i before) ++ drop kept before) n 0) j ∙
        get_or-append-add (spaceless (take i before)) (drop kept before) (i - kept) 0 ∙
        get_or-drop kept before (i - kept) 0 ∙ ap (λ n. get_or before n 0) l

    again :
        (more : ℕ) (after : List ℕ) → more ≡ (if eqb (get_or now i 0) 32 then kept else kept + 1) →
        after ≡ (if eqb (get_or now i 0) 32 then now else set now kept (get_or now i 0)) → Kept before after more (i + 1)
    again more after n a =
        let in₀ : i < length before = omega (arith, k.long) in
        go (eqb (get_or before i 0) 32) refl (rw unread at n) (rw unread at a) (spaceless_more before i in₀)
      where
        go :
            (f : Bool) → eqb (get_or before i 0) 32 ≡ f →
            more ≡ (if f then kept else kept + 1) → after ≡ (if f then now else set now kept (get_or before i 0)) →
            spaceless (take (i + 1) before) ≡ (if f then spaceless (take i before) else spaceless (take i before) ++ get_or before i 0 ∷ []) →
            Kept before after more (i + 1)
        go true q n a s =
            record { within = omega arith; behind = omega (arith, k.behind); count = cc k.count; bytes = cc k.bytes; long = cc k.long }
        go false q n a s =
            let p = spaceless (take i before) in
            let d = drop_step before kept (omega (arith, k.behind, k.long)) in
            let e : set now kept (get_or before i 0) ≡ p ++ get_or before i 0 ∷ drop (kept + 1) before =
            rw (k.bytes, d) (set_at p (get_or before kept 0) (drop (kept + 1) before) (get_or before i 0) kept (sym k.count))
            in
            record {
              within = omega arith;
              behind = omega (arith, k.behind);
              count = rw (n, s) (omega (arith, length-append p (get_or before i 0 ∷ []), k.count));
              bytes = a ∙ e ∙ sym (rw (s, n, append_snoc));
              long = rw (a, length-set) k.long;
            }

    space : get_or now i 0 ≡ 32 → Kept before now kept (i + 1)
    space e = again kept now (simp e) (simp e)

    other : (get_or now i 0 ≡ 32 → ⊥) → Kept before (set now kept (get_or now i 0)) (kept + 1) (i + 1)
    other e = again (kept + 1) (set now kept (get_or now i 0)) (simp tests) (simp tests)

ruleset laws = (rules, start, end, room, space, other)

pub bounds-t-kept : goal.bounds-t-kept
bounds-t-kept c = search laws

pub loop-i-init : goal.loop-i-init
loop-i-init c = search laws

pub loop-i-preserved-then-b-eq32 : goal.loop-i-preserved-then-b-eq32
loop-i-preserved-then-b-eq32 c = search laws

pub loop-i-preserved : goal.loop-i-preserved
loop-i-preserved c = search laws

pub returns : goal.returns
returns c = search laws
