-- A whole frame with the receiver gone: what its data do and what is answered; and bytes given one after the other.
use Rattle.std.specs.Prelude.{ℕ, ◌≡◌, List, [], ◌∷◌, ◌++◌, length, take, replicate, None, Ok, Some}
use Rattle.pipettor.specs.Said.{Said}
use Rattle.text.specs.Data.{spaceless, received_of}
use Rattle.line.specs.declared.Deed.{Deed}
use Rattle.line.specs.declared.Deed.TheVariants as W
use Rattle.line.specs.declared.Framing.{Framing}
use Rattle.line.specs.Wire.{fresh_line, Form, formed, front, framed}
use Rattle.motion.specs.Events.{Event, Turn}
use Rattle.machine.specs.declared.Device.{Device}
use Rattle.pipettor.specs.declared.address.Address.{Address}
use Rattle.pipettor.specs.declared.Controller.{Controller}
use Rattle.pipettor.specs.Address.{letter_of}
use Rattle.pipettor.specs.Byte.{size_of, Exchange, dealt_of, byte_of}

-- the characters that come with data: "without spaces and the final R"
unfoldable pub added_of : List ℕ → List ℕ
added_of ds = take (size_of (Some (received_of ds))) (spaceless ds)

-- a whole frame to us with these data: the framing is seen in the bytes of the answer alone
unfoldable pub exchange_of : Framing → List ℕ → Address → Device → List ℕ → Turn Exchange
exchange_of f ds a d buf = dealt_of f (Some (received_of ds)) (added_of ds) a d buf

-- bytes given one after the other: the controller afterwards, what each byte was answered, the buffer lent, and the history
pub record Dialogue : Type 0 where
  pub controller : Controller
  pub said : List Said
  pub buffer : List ℕ
  pub events : List Event

-- first to last, the same buffer lent for each
unfoldable pub given_of : Controller → List ℕ → List ℕ → Dialogue
given_of k [] buf = record { controller = k; said = []; buffer = buf; events = [] }
given_of k (b ∷ bs) buf =
    let t = byte_of k b buf in
    let later = given_of t.next.reply.controller bs t.next.buffer in
    record { controller = later.controller; said = t.next.reply.said ∷ later.said; buffer = later.buffer; events = t.events ++ later.events }

-- The bytes of a frame to us, sent so: silence before the last, and then what the exchange says. The receiver is outside a frame again.
pub record Exchanged (form : Form) (k : Controller) (ds : List ℕ) (g : Dialogue) (e : Turn Exchange) : Type 0 where
  pub said : g.said ≡ replicate (length (front form (letter_of k.address) ds)) (Ok None) ++ (e.next.said ∷ [])
  pub buffer : g.buffer ≡ e.next.buffer
  pub device : g.controller.device ≡ e.next.device
  pub events : g.events ≡ e.events
  pub address : g.controller.address ≡ k.address
  pub line : g.controller.line ≡ fresh_line (formed form)
  pub frame : length g.controller.frame ≡ length k.frame

abbrev pub ToUs : Form → Controller → List ℕ → List ℕ → Type 0
ToUs form k ds buf = Exchanged form k ds (given_of k (framed form (letter_of k.address) ds) buf) (exchange_of (formed form) ds k.address k.device buf)

-- Bytes that are answered with silence and leave the device, the buffer and the history alone.
pub record Unheeded (k : Controller) (bs buf : List ℕ) (g : Dialogue) : Type 0 where
  pub said : g.said ≡ replicate (length bs) (Ok None)
  pub buffer : g.buffer ≡ buf
  pub device : g.controller.device ≡ k.device
  pub events : g.events ≡ []
  pub address : g.controller.address ≡ k.address
  pub frame : length g.controller.frame ≡ length k.frame

-- a deed that completes no frame to us
abbrev pub Other : ℕ → Deed → Type 0
Other ours W.Nothing = Unit {0}
Other ours (W.Keep at) = Unit {0}
Other ours (W.Frame a n) = a ≡ ours → ⊥

abbrev pub Others : ℕ → List Deed → Type 0
Others ours [] = Unit {0}
Others ours (d ∷ ds) = Other ours d × Others ours ds
