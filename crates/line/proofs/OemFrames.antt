-- Theorems on OEM frames that are damaged, or lost because an earlier frame's sum is due.
use mathlib.Core.Path.{◌≡◌, refl, sym, ◌∙◌}
use mathlib.Core.Bool.{Bool, true, false, ◌&&◌}
use mathlib.Core.List.{List, [], ◌∷◌, ◌++◌}
use Prim.Native.Nat.{ℕ}
use borrow.Author.Tests.{ne_eqb}
use lib.Dec.{eqb}
use Rattle.std.specs.Prelude.{if◌then◌else◌}
use Rattle.basics.specs.Bytes.{every}
use Rattle.basics.proofs.Choice.{by}
use Rattle.basics.proofs.Digits.{and_both}
use Rattle.line.specs.declared.Line.{Line}
use Rattle.line.specs.declared.Line.TheVariants.{Oem}
use Rattle.line.specs.declared.Deed.TheVariants.{Nothing}
use Rattle.line.specs.declared.Heard.{Heard}
use Rattle.line.specs.declared.oem.Head.{Head}
use Rattle.line.specs.declared.oem.Oem.{Oem as OemState}
use Rattle.line.specs.declared.oem.Oem.TheVariants as O
use Rattle.line.specs.Bytes.{printable}
use Rattle.line.specs.Heard.{waits}
use Rattle.line.specs.Oem as Oem
use Rattle.line.specs.Oem.{stx, etx}
use Rattle.line.specs.Wire.{hear_of, oem, data_byte, front, last_byte, sum_due, begun}
use Rattle.line.proofs.Receiving.{at}
use Rattle.line.proofs.Framed.{counted, ended, Silent, none_yet, one_more, and_then, oem_holds, no_stx, sum_is}

-- a sum that isn't right
wrong_sum : (h : Head) (n b : ℕ) → (b ≡ h.sum → ⊥) → hear_of (Oem (O.Ended h n)) b ≡ record { line = Oem O.Outside; deed = Nothing }
unfolding hear_of Oem.hear_of Oem.judged_of
wrong_sum h n b e = rw (ne_eqb b h.sum e)

-- a frame's bytes with another last one are silent, and leave the receiver outside a frame
pub another_sum_is_silent :
    (a s : ℕ) (ds : List ℕ) (o : OemState) (f : List ℕ) (b : ℕ) → sum_due (Oem o) ≡ false → printable s ≡ true → printable a ≡ true → every printable ds ≡ true →
    (b ≡ last_byte (oem s) a ds → ⊥) → (m : List ℕ) × Silent (at (Oem o) f) (at (Oem O.Outside) m) (front (oem s) a ds ++ (b ∷ []))
unfolding data_byte
another_sum_is_silent a s ds o f b w g p q wrong =
    let t = oem_holds a ds s o f w g p q in
    (_, and_then _ _ _ (front (oem s) a ds) (b ∷ []) t (one_more _ _ (Oem O.Outside) b [] (wrong_sum (ended a s ds) (counted ds) b (λ e. wrong (e ∙ sym (sum_is a s ds)))) (none_yet _)))

-- outside a frame everything but 02h is ignored
outside_ignores : (b : ℕ) → eqb b stx ≡ false → hear_of (Oem O.Outside) b ≡ record { line = Oem O.Outside; deed = Nothing }
unfolding hear_of Oem.hear_of
outside_ignores b e = rw e

ignored : (f bs : List ℕ) → every printable bs ≡ true → Silent (at (Oem O.Outside) f) (at (Oem O.Outside) f) (bs ++ (etx ∷ []))
unfolding every
ignored f [] e = one_more _ _ (Oem O.Outside) etx [] (outside_ignores etx refl) (none_yet _)
ignored f (b ∷ bs) e =
    let d = and_both (printable b) (every printable bs) e in
    one_more _ _ (Oem O.Outside) b _ (outside_ignores b (no_stx b d.0)) (ignored f bs d.1)

lifted : Heard OemState → Heard Line
lifted x = record { line = Oem x.line; deed = x.deed }

outside_hears : (b : ℕ) → hear_of (Oem O.Outside) b ≡ record { line = begun b; deed = Nothing }
unfolding hear_of Oem.hear_of lifted
outside_hears b = go (eqb b stx)
  where
    go : (t : Bool) → lifted (if t then waits O.Started else waits O.Outside) ≡ record { line = if t then Oem O.Started else Oem O.Outside; deed = Nothing }
    go true = refl
    go false = refl

-- behind the 02h that was taken for a sum, the rest of a frame completes none, and leaves the receiver outside, or begun by the frame's own sum
pub the_rest_is_lost : (a s : ℕ) (ds f : List ℕ) → printable a ≡ true → printable s ≡ true → every printable ds ≡ true →
    Silent (at (Oem O.Outside) f) (at (begun (last_byte (oem s) a ds)) f) (a ∷ s ∷ (ds ++ (etx ∷ [])) ++ (last_byte (oem s) a ds ∷ []))
unfolding every
the_rest_is_lost a s ds f p g q =
    and_then _ (at (Oem O.Outside) f) _ (a ∷ s ∷ (ds ++ (etx ∷ []))) (last_byte (oem s) a ds ∷ []) (ignored f (a ∷ s ∷ ds) (rw (p, g) q))
    (one_more _ _ (begun (last_byte (oem s) a ds)) (last_byte (oem s) a ds) [] (outside_hears (last_byte (oem s) a ds)) (none_yet _))

-- the sum that is due, whatever it is, leaves the receiver outside
pub after_a_sum : (h : Head) (n b : ℕ) → (hear_of (Oem (O.Ended h n)) b).line ≡ Oem O.Outside
unfolding hear_of Oem.hear_of Oem.judged_of lifted
after_a_sum h n b = by (λ (x : Heard OemState). (lifted x).line ≡ Oem O.Outside) (eqb b h.sum && Oem.sequenced h.sequence) (λ e. refl) (λ e. refl)
