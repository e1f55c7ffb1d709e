-- Bytes handed over at once, as far as none of them completes a frame.
use Rattle.std.specs.Prelude.{ℕ, ◌≡◌, List, length}
use Rattle.line.specs.declared.Line.{Line}
use Rattle.line.specs.Wire.{Received, feed, before_frame}
use Rattle.pipettor.specs.declared.Controller.{Controller}
use Rattle.pipettor.specs.declared.Listened.{Listened}
use Rattle.pipettor.specs.declared.Taken.{Taken}

-- a receiver with this line and this frame in hand
abbrev pub at : Line → List ℕ → Received
at l f = record { line = l; frame = f }

-- a receiver that has heard the bytes before the first that completes a frame
pub record UpToFrame (start : Line) (before bytes : List ℕ) (r : Taken) (after : List ℕ) : Type 0 where
  pub receiver : at r.line after ≡ feed (at start before) (before_frame start bytes)
  pub count : r.n ≡ length (before_frame start bytes)

-- the controller whose receiver has heard them; nothing else changes
unfoldable pub listened_of : Controller → List ℕ → Listened
listened_of k bytes =
    let taken = before_frame k.line bytes in
    let r = feed (at k.line k.frame) taken in
    record { controller = record { address = k.address; line = r.line; frame = r.frame; device = k.device }; n = length taken }
