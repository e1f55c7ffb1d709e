-- Theorem: listening is hearing the bytes before one that completes a frame one by one, each of which is silent.
use mathlib.Core.Path.{◌≡◌, refl, sym, ap, ◌∙◌}
use mathlib.Core.Bool.{false, false≢true}
use mathlib.Core.List.{List, [], ◌∷◌}
use Prim.Native.Nat.{ℕ, ◌≤◌}
use lib.ListN.{length, take}
use Rattle.basics.proofs.Choice.{by}
use Rattle.line.specs.declared.Line.{Line}
use Rattle.line.specs.declared.Deed.{Deed}
use Rattle.line.specs.declared.Deed.TheVariants as W
use Rattle.line.specs.Wire.{hear_of, is_whole, completes, frames_of, before_frame}
use Rattle.pipettor.specs.declared.Controller.{Controller}
use Rattle.pipettor.specs.Listening.{listened_of}
use Rattle.frames.specs.Frame.{Dialogue}
use Rattle.frames.specs.Listening.{ByteByByte}
use Rattle.frames.proofs.Bytes.{given_others}
use Rattle.frames.proofs.Frames.{noise_does_nothing}

-- a deed that completes none
quiet : (d : Deed) (later : List Deed) → is_whole d ≡ false → completes d later ≡ later
unfolding completes
quiet W.Nothing later h = refl
quiet (W.Keep at) later h = refl
quiet (W.Frame a n) later h = absurd (false≢true (sym h))

no_frame_before : (l : Line) (bytes : List ℕ) → frames_of l (before_frame l bytes) ≡ []
unfolding frames_of before_frame
no_frame_before l [] = refl
no_frame_before l (b ∷ bs) =
    let rest = no_frame_before (hear_of l b).line bs in
    by (λ (xs : List ℕ). frames_of l xs ≡ []) (is_whole (hear_of l b).deed)
    (λ e. refl)
    (λ e. quiet (hear_of l b).deed _ e ∙ rest)

-- they are the first bytes
first_bytes : (l : Line) (bytes : List ℕ) → take (length (before_frame l bytes)) bytes ≡ before_frame l bytes
unfolding before_frame
first_bytes l [] = refl
first_bytes l (b ∷ bs) =
    let rest = first_bytes (hear_of l b).line bs in
    by (λ (xs : List ℕ). take (length xs) (b ∷ bs) ≡ xs) (is_whole (hear_of l b).deed) (λ e. refl) (λ e. ap (◌∷◌ b) rest)

pub listening_is_hearing_byte_by_byte : (k : Controller) (bytes buf : List ℕ) → 32 ≤ length buf → ByteByByte k bytes buf
unfolding listened_of
listening_is_hearing_byte_by_byte k bytes buf long =
    let none = no_frame_before k.line bytes in
    record {
      taken = first_bytes k.line bytes;
      controller = sym (ap (λ (g : Dialogue). g.controller) (given_others k (before_frame k.line bytes) buf long (rw none tt)));
      silent = noise_does_nothing k buf long (before_frame k.line bytes) none;
    }
