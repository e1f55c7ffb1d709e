-- Laws of the frame: its data without spaces, where they stand, and that a text among them fits.
use mathlib.Core.Path.{◌≡◌, sym, ap, ◌∙◌}
use mathlib.Core.Logic.{◌⊎◌, inl, inr}
use mathlib.Core.List.{List, ◌++◌, append_assoc}
use Prim.Native.Nat.{ℕ, ◌+◌, ◌≤◌, ◌<◌}
use native.Mathlib.Omega.{arith}
use borrow.Author.Tests.{lt-ltb, le-ltb}
use lib.ListN.{length, take, drop, length-append, take-append-drop}
use lib.Seq.{length-take-le, drop-append-le, take-append-le}
use Rattle.std.specs.Prelude.{None, Option, Some}
use Rattle.basics.specs.Lay.{over}
use Rattle.basics.proofs.Rules.{tests}
use Rattle.text.specs.declared.Data.{Data}
use Rattle.text.specs.declared.Data.TheVariants as D
use Rattle.text.specs.Data.{spaceless, data_of, Squeezed}
use Rattle.text.proofs.Squeezing.{spaceless_short}
use Rattle.text.proofs.Spaces.{squeezed_in_front, squeezed_fits}
use Rattle.line.specs.declared.Deed.{Deed}
use Rattle.line.specs.declared.Deed.TheVariants as W
use Rattle.pipettor.specs.Byte.{fetched_of, squeezed_in, got_of, squeezed_of, Fetched, Gotten}

-- bytes laid at the front of a part lie at the front of the whole
over_part : (xs : List ℕ) (n : ℕ) (f : List ℕ) → length xs ≤ n → n ≤ length f → over xs 0 (take n f) ++ drop n f ≡ over xs 0 f
unfolding over
over_part xs n f h l =
    let z : 0 + length xs ≡ length xs = omega arith in
    let k : length xs ≤ length (take n f) = rw (length-take-le n f l) h in
    let whole = sym (ap (drop (length xs)) (take-append-drop n f)) ∙ drop-append-le (length xs) (take n f) (drop n f) k in
    rw (z, whole) (append_assoc xs (drop (length xs) (take n f)) (drop n f))

pub fetches_none : (n : ℕ) (frame : List ℕ) → 320 < n → Fetched n frame (Some D.TooLong) frame
unfolding fetched_of squeezed_in
fetches_none n frame h = record { got = rw (lt-ltb 320 n h); left = rw (lt-ltb 320 n h) }

module _ (n : ℕ) (frame : List ℕ) (short : n ≤ 320) (long : length frame ≡ 320) where
  inside : length (take n frame) ≡ n
  inside = length-take-le n frame (omega arith)

  pub part_count : n ≡ length (take n frame)
  part_count = sym inside

  module _ (k : ℕ) (part : List ℕ) (s : Squeezed (take n frame) k part) where
    pub kept_fits : k ≤ length (part ++ drop n frame)
    kept_fits = let h = squeezed_fits (take n frame) k part s in omega (arith, length-append part (drop n frame))

    pub kept_count : k ≡ length (take k (part ++ drop n frame))
    kept_count = sym (length-take-le k (part ++ drop n frame) kept_fits)

    pub fetches : (d : Data) → d ≡ data_of (take k (part ++ drop n frame)) → Fetched n frame (Some d) (part ++ drop n frame)
    unfolding fetched_of squeezed_in
    fetches d e =
        let front = take-append-le k part (drop n frame) (squeezed_fits (take n frame) k part s) ∙ squeezed_in_front (take n frame) k part s in
        let fits : length (spaceless (take n frame)) ≤ n = omega (arith, spaceless_short (take n frame), inside) in
        record {
          got = rw (le-ltb 320 n short) (ap Some (e ∙ ap data_of front));
          left = rw (le-ltb 320 n short, s.bytes) (over_part (spaceless (take n frame)) n frame fits (omega arith));
        }

-- what is no frame brings nothing
pub gets_none : (ours : ℕ) (d : Deed) (frame : List ℕ) → (d ≡ W.Nothing) ⊎ ((at : ℕ) × (d ≡ W.Keep at)) → Gotten ours d frame None frame
unfolding got_of squeezed_of
gets_none ours d frame (inl p) = record { got = rw p; left = rw p }
gets_none ours d frame (inr (at, p)) = record { got = rw p; left = rw p }

module _ (ours : ℕ) (d : Deed) (a n : ℕ) (frame : List ℕ) (p : d ≡ W.Frame a n) where
  pub gets : (r : Option Data) (after : List ℕ) → a ≡ ours → Fetched n frame r after → Gotten ours d frame r after
  unfolding got_of squeezed_of
  gets r after h f = record { got = simp (p, tests, f.got); left = simp (p, tests, f.left) }

  pub gets_not : (a ≡ ours → ⊥) → Gotten ours d frame None frame
  unfolding got_of squeezed_of
  gets_not h = record { got = simp (p, tests); left = simp (p, tests) }
