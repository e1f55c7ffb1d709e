-- Bytes handed over at once against the same bytes given one after the other.
use Rattle.std.specs.Prelude.{◌≡◌, List, ℕ, take}
use Rattle.pipettor.specs.declared.Controller.{Controller}
use Rattle.line.specs.Wire.{before_frame}
use Rattle.pipettor.specs.Listening.{listened_of}
use Rattle.frames.specs.Frame.{given_of, Unheeded}

-- The bytes taken are the first ones, up to one that completes a frame; the controller is the one they leave when they are given one by one; and each of them is silent.
pub record ByteByByte (k : Controller) (bytes buf : List ℕ) : Type 0 where
  pub taken : take (listened_of k bytes).n bytes ≡ before_frame k.line bytes
  pub controller : (listened_of k bytes).controller ≡ (given_of k (before_frame k.line bytes) buf).controller
  pub silent : Unheeded k (before_frame k.line bytes) buf (given_of k (before_frame k.line bytes) buf)
