-- What a line does to a station and what it prints: 01, "The bench program", and the training rig.
use Rattle.std.specs.Prelude.{ℕ, ◌+◌, ◌≤◌, ◌<◌, ◌≡◌, Bool, false, List, [], ◌∷◌, ◌++◌, eqb, length, drop, replicate, ℤ, pos, neg_ℤ, Err, None, Ok, Result, Some}
use Rattle.pipettor.specs.declared.address.S2.{S2}
use Rattle.pipettor.specs.declared.address.Address.{Address}
use Rattle.pipettor.specs.Said.{Said}
use Rattle.machine.specs.declared.S3.{S3}
use Rattle.basics.specs.Bytes.{chars}
use Rattle.basics.specs.Lay.{over}
use Rattle.line.specs.declared.Framing.{Framing}
use Rattle.line.specs.declared.Framing.TheVariants as F
use Rattle.line.specs.Dt.{slash, cr}
use Rattle.line.specs.Oem.{stx, etx}
use Rattle.line.specs.Wire.{oem, front, last_byte}
use Rattle.motion.specs.declared.Sense.{Sense}
use Rattle.motion.specs.Bodies.{sensing, nothing_sensed}
use Rattle.desk.specs.declared.Desk.{Desk}
use Rattle.desk.specs.declared.Desk.TheVariants.{Bench, Rig}
use Rattle.desk.specs.declared.Quantity.{Quantity}
use Rattle.desk.specs.declared.Quantity.TheVariants.{Ticks, Run, Lend, New, Oem, Tip, Press, Minus}
use Rattle.desk.specs.declared.Asked.{Asked}
use Rattle.desk.specs.declared.Asked.TheVariants.{Send, Number, Stop, Raw, Wrong}
use Rattle.desk.specs.Desk.{asked_of}
use Rattle.desk.specs.Hex.{bytes_in}
use Rattle.pipettor.specs.declared.address.Address.TheVariants.{One}
use Rattle.pipettor.specs.declared.Controller.{Controller}
use Rattle.pipettor.specs.Address.{address_of}
use Rattle.pipettor.specs.Byte.{After, byte_of}
use Rattle.pipettor.specs.Controller.{made_of, advanced_of, run_of, stopped_of, framing_is}
use Rattle.pipettor.specs.Listening.{listened_of}
use Rattle.pipettor.specs.Valid.{Valid}
use Rattle.station.specs.declared.Station.{Station}
use Rattle.station.specs.declared.Told.{Told}
use Rattle.station.specs.declared.Replied.{Replied}
use Rattle.printing.specs.Print.{ended, shown_of, place_of, used_of, added_of, close_of, Prints}

abbrev pub station : Desk → ℕ → Sense → Controller → Station
station desk lend sense k = record { desk = desk; lend = lend; sense = sense; controller = k }

-- "Address 1"; answer buffers of 32 bytes, no tip and a reading of 0 at first
abbrev pub at_start : Desk → Station
at_start desk = station desk 32 nothing_sensed (made_of F.Dt One).next

abbrev pub on : Controller → Station → Station
on k s = station s.desk s.lend s.sense k

-- what a line leaves and prints
pub record Served : Type 0 where
  pub station : Station
  pub text : List ℕ

abbrev pub served : Station → List ℕ → Served
served s text = record { station = s; text = text }

-- a byte, with a buffer lent for the answer
unfoldable pub told_of : ℕ → List ℕ → Station → After
told_of b buf s = (byte_of s.controller b buf).next

-- the station's buffers
abbrev pub blank : ℕ → List ℕ
blank n = replicate n 0

unfoldable pub heard_of : ℕ → Station → After
heard_of b s = told_of b (blank s.lend) s

abbrev pub after : After → Station → Station
after a s = on a.reply.controller s

-- what is printed of an answer, in the framing of the controller
abbrev pub shown_by : After → Station → Served
shown_by a s = served (after a s) (shown_of (framing_is s.controller) a.reply.said a.buffer)

-- a frame: its first byte, what follows, and its last byte, before which no frame ends
unfoldable pub ended_of : ℕ → Station → Served
ended_of last s = shown_by (heard_of last s) s

unfoldable pub gone_on : List ℕ → ℕ → Station → Served
gone_on rest last s = ended_of last (on (listened_of s.controller rest).controller s)

-- the first byte tells that a buffer is too short
unfoldable pub sent_by : Said → List ℕ → ℕ → Station → Served
sent_by (Ok None) rest last s = gone_on rest last s
sent_by (Ok (Some n)) rest last s = gone_on rest last s
sent_by (Err _) rest last s = served s (ended (chars "S1"))

unfoldable pub sent_of : ℕ → List ℕ → ℕ → Station → Served
sent_of first rest last s = let a = heard_of first s in sent_by a.reply.said rest last (after a s)

-- an OEM frame, but for its sum: "02h, the text's first character as address, 30h, the rest as data, 03h and the right sum"
abbrev pub wrapped : List ℕ → List ℕ
wrapped [] = []
wrapped (a ∷ ds) = front (oem 48) a ds

-- as functions on a lent array promise it: there is an address, and room
pub record Wrappable (text wire : List ℕ) : Type 0 where
  pub addressed : 0 < length text
  pub room : length text + 3 ≤ length wire

pub record Wraps (text before : List ℕ) (r : ℕ) (after : List ℕ) : Type 0 where
  pub count : r ≡ length (wrapped text)
  pub left : after ≡ over (wrapped text) 0 before

-- "sends `/`, the text, CR"; in OEM framing as above, and "`> ` alone is `?`"
unfoldable pub framed_by : Framing → List ℕ → Station → Served
framed_by F.Dt text s = sent_of slash text cr s
framed_by F.Oem [] s = served s (ended (chars "?"))
framed_by F.Oem (a ∷ ds) s = sent_of stx (a ∷ 48 ∷ (ds ++ (etx ∷ []))) (last_byte (oem 48) a ds) s

abbrev pub framed_of : List ℕ → Station → Served
framed_of text s = framed_by (framing_is s.controller) text s

-- where the plunger stands, and the exact position
unfoldable pub placed_of : Controller → Bool → Station → Served
placed_of k asked s = let b = k.device.core.body in served (on k s) (place_of b.plunger b.exact asked)

-- 02, W-203: the rig shows that a tick asked; "The bench program .. prints as before."
abbrev pub shows_ask : Desk → Bool → Bool
shows_ask Bench asked = false
shows_ask Rig asked = asked

-- "n ticks, ready or not"
abbrev pub waited_of : ℕ → Station → Served
waited_of n s = let t = advanced_of n s.sense s.controller in placed_of t.controller (shows_ask s.desk t.news.eject) s

-- "a run of up to n ticks"
unfoldable pub used_up : Result ℕ S3 → Controller → Bool → Station → Served
used_up used k asked s = let b = k.device.core.body in served (on k s) (used_of used b.plunger b.exact asked)

abbrev pub ran_of : ℕ → Station → Served
ran_of n s = let r = run_of n s.sense s.controller in used_up r.used r.ticked.controller (shows_ask s.desk r.ticked.news.eject) s

-- "the host's stop"
abbrev pub halted_of : Station → Served
halted_of s = placed_of (stopped_of s.controller).next false s

-- "answer buffers have n bytes from now on"
abbrev pub lent_of : ℕ → Station → Served
lent_of n s = served (station s.desk n s.sense s.controller) (ended (chars "ok"))

-- what the host senses from now on: "the tip from now on"; "the reading from now on"
unfoldable pub sensed_of : Sense → Station → Served
sensed_of x s = served (station s.desk s.lend x s.controller) (ended (chars "ok"))

abbrev pub tipped_of : Bool → Station → Served
tipped_of tip s = sensed_of (sensing tip s.sense.reading) s

abbrev pub pressed_of : ℤ → Station → Served
pressed_of reading s = sensed_of (sensing s.sense.tip reading) s

-- "a fresh controller of that address ..; n not in 1 to 9 leaves the old one"; "`oem n`: as `new n` with OEM framing"
unfoldable pub made_by : Framing → Result Address S2 → Station → Served
made_by f (Ok a) s = served (on (made_of f a).next s) (ended (chars "ok"))
made_by f (Err _) s = served s (ended (chars "S2"))

unfoldable pub numbered_of : Quantity → ℕ → Station → Served
numbered_of Ticks n s = waited_of n s
numbered_of Run n s = ran_of n s
numbered_of Lend n s = lent_of n s
numbered_of New n s = made_by F.Dt (address_of n) s
numbered_of Oem n s = made_by F.Oem (address_of n) s
numbered_of Tip n s = tipped_of (eqb n 1) s
numbered_of Press n s = pressed_of (pos n) s
numbered_of Minus n s = pressed_of (neg_ℤ (pos n)) s

-- "raw bytes", one after the other, and what each adds to what was said
abbrev pub silent : List ℕ → Bool
silent text = eqb (length text) 0

abbrev pub added_by : Bool → After → Station → Served
added_by first a s = served (after a s) (added_of first a.reply.said a.buffer)

unfoldable pub said_to : ℕ → Bool → Station → Served
said_to b first s = added_by first (heard_of b s) s

abbrev pub raw_byte : ℕ → Served → Served
raw_byte b t = let a = said_to b (silent t.text) t.station in served a.station (t.text ++ a.text)

unfoldable pub raw_from : List ℕ → Served → Served
raw_from [] t = t
raw_from (b ∷ bs) t = raw_from bs (raw_byte b t)

abbrev pub closed : Served → Served
closed t = served t.station (t.text ++ close_of (silent t.text))

unfoldable pub raw_of : List ℕ → Station → Served
raw_of bytes s = closed (raw_from bytes (served s []))

-- by what a line asks
unfoldable pub did_of : Asked → List ℕ → Station → Served
did_of Send line s = framed_of (drop 2 line) s
did_of (Number q n) line s = numbered_of q n s
did_of Stop line s = halted_of s
did_of Raw line s = raw_of (bytes_in (drop 2 line)) s
did_of Wrong line s = served s (ended (chars "?"))

unfoldable pub served_of : List ℕ → Station → Served
served_of line s = did_of (asked_of s.desk line) line s

-- a station that came from making and earlier lines
pub record Manned (s : Station) : Type 0 where
  pub valid : Valid s.controller
  pub lend : s.lend ≤ 64

-- a byte heard
pub record Tells (b : ℕ) (s : Station) (before : List ℕ) (r : Told) (left : List ℕ) : Type 0 where
  pub is : r.station ≡ after (told_of b before s) s
  pub said : r.said ≡ (told_of b before s).reply.said
  pub buffer : left ≡ (told_of b before s).buffer
  pub long : length left ≡ length before

-- what a line's function promises: the station left, and what is printed, of at most so many bytes
pub record Replies (most : ℕ) (wanted : Served) (at : ℕ) (before : List ℕ) (r : Replied) (after : List ℕ) : Type 0 where
  pub is : r.station ≡ wanted.station
  pub prints : Prints most wanted.text at before r.end after
