-- What each function for hosts does: the method, between reading the host's memory and writing it. Each is lent the parts of the memory that it needs.
use Rattle.std.specs.Prelude.{ℕ, ◌+◌, ◌*◌, List, [], ◌∷◌, Bool, true, false, ◌&&◌, ltb, eqb, length, get_or, set, if◌then◌else◌, Err, None, Ok, Option, Result, Some}
use Rattle.pipettor.specs.declared.address.S2.{S2}
use Rattle.pipettor.specs.Said.{Said}
use Rattle.machine.specs.declared.S3.{S3}
use Rattle.line.specs.declared.Framing.{Framing}
use Rattle.command.specs.Numbers.{verdict_number}
use Rattle.line.specs.declared.Framing.TheVariants as F
use Rattle.line.specs.declared.Line.{Line}
use Rattle.line.specs.declared.Deed.{Deed}
use Rattle.line.specs.declared.Deed.TheVariants.{Nothing, Keep, Frame}
use Rattle.line.specs.Wire.{hear_of, feed, before_frame}
use Rattle.motion.specs.declared.Sense.{Sense}
use Rattle.machine.specs.declared.Device.{Device}
use Rattle.machine.specs.declared.Turned.{Turned}
use Rattle.machine.specs.declared.step.News.{News}
use Rattle.machine.specs.declared.step.Core.{Core}
use Rattle.machine.specs.declared.step.Stepped.{Stepped}
use Rattle.machine.specs.Run.{ready_of}
use Rattle.machine.specs.Device.{device, tip_after, tick_of, halted_of, advance_of, ran_of}
use Rattle.pipettor.specs.declared.address.Address.{Address}
use Rattle.pipettor.specs.declared.address.Address.TheVariants.{One, Two, Three, Four, Five, Six, Seven, Eight, Nine}
use Rattle.pipettor.specs.Address.{address_of}
use Rattle.pipettor.specs.declared.Controller.{Controller}
use Rattle.pipettor.specs.Byte.{After, byte_of}
use Rattle.pipettor.specs.Controller.{made_of}
use Rattle.pipettor.specs.Listening.{at}
use Rattle.image.specs.declared.Pose.{Pose}
use Rattle.host.specs.declared.Gone.{Gone}
use Rattle.host.specs.declared.Run.{Run}
use Rattle.image.specs.Sound.{flag_of}
use Rattle.image.specs.Image.{line_of, count_of, line_in, is_line, wide_of, words_of, small_of, pose_in, is_pose, idle}

-- the memory in which a host keeps a controller: what receives, what moves, and the address
pub record Receiver : Type 0 where
  pub line : List ℕ
  pub count : List ℕ
  pub frame : List ℕ

pub record Mover : Type 0 where
  pub wide : List ℕ
  pub words : List ℕ
  pub small : List ℕ
  pub text : List ℕ

pub record Memory : Type 0 where
  pub address : List ℕ
  pub receiver : Receiver
  pub mover : Mover

abbrev pub receiver : List ℕ → List ℕ → List ℕ → Receiver
receiver l c f = record { line = l; count = c; frame = f }

abbrev pub mover : List ℕ → List ℕ → List ℕ → List ℕ → Mover
mover w n s t = record { wide = w; words = n; small = s; text = t }

abbrev pub memory : List ℕ → Receiver → Mover → Memory
memory a r v = record { address = a; receiver = r; mover = v }

-- a controller, written
abbrev pub address_number : Address → ℕ
address_number One = 1
address_number Two = 2
address_number Three = 3
address_number Four = 4
address_number Five = 5
address_number Six = 6
address_number Seven = 7
address_number Eight = 8
address_number Nine = 9

abbrev pub pose_of : Device → Pose
pose_of d = record { tip = d.tip; core = d.core }

unfoldable pub received : Line → List ℕ → Receiver
received l f = receiver (line_of l) (count_of l) f

unfoldable pub moved : Device → Mover
moved d = mover (wide_of (pose_of d)) (words_of (pose_of d)) (small_of (pose_of d)) d.text

unfoldable pub encode_of : Controller → Memory
encode_of k = memory (address_number k.address ∷ []) (received k.line k.frame) (moved k.device)

-- and read
abbrev pub line_held : Receiver → Line
line_held r = line_in r.line r.count

abbrev pub receives : Receiver → Bool
receives r = is_line r.line r.count

abbrev pub pose_held : Mover → Pose
pose_held v = pose_in v.wide v.words v.small

abbrev pub device_held : Mover → Device
device_held v = device v.text (pose_held v).tip (pose_held v).core

abbrev pub moves : Mover → Bool
moves v = is_pose (pose_held v) v.words v.small

-- what is read, if it is written just so
unfoldable pub line_read : List ℕ → List ℕ → Option Line
line_read l c = if is_line l c then Some (line_in l c) else None

unfoldable pub pose_read : List ℕ → List ℕ → List ℕ → Option Pose
pose_read w n s = if is_pose (pose_in w n s) n s then Some (pose_in w n s) else None

unfoldable pub address_in : List ℕ → Result Address S2
address_in a = address_of (get_or a 0 0)

abbrev pub address_held : Memory → Result Address S2
address_held m = address_in m.address

abbrev pub controller_held : Address → Memory → Controller
controller_held a m = record { address = a; line = line_held m.receiver; frame = m.receiver.frame; device = device_held m.mover }

-- refusals: 2^63 and a number
abbrev pub s1 : ℕ
s1 = 9223372036854775809

abbrev pub s2 : ℕ
s2 = 9223372036854775810

abbrev pub s3 : ℕ
s3 = 9223372036854775811

abbrev pub broken : ℕ
broken = 9223372036854776064

abbrev pub unframed : ℕ
unframed = 9223372036854776065

abbrev pub said_code : Said → ℕ
said_code (Ok None) = 0
said_code (Ok (Some n)) = n
said_code (Err e) = s1

-- what ticks tell: the number of a failure above 2^32, and above 2^36 that the tip is to be dropped
unfoldable pub news_code : ℕ → News → ℕ
news_code n news = n + (verdict_number news.failed * 4294967296 + flag_of news.eject * 68719476736)

abbrev pub used_code : Result ℕ S3 → News → ℕ
used_code (Ok n) news = news_code n news
used_code (Err e) news = s3

-- a part of the memory after a call, with what is returned
pub record Done (A : Type 0) : Type 0 where
  pub left : A
  pub code : ℕ

abbrev pub done : {A : Type 0} → A → ℕ → Done A
done x code = record { left = x; code = code }

-- and what it leaves of a buffer
pub record Spoke : Type 0 where
  pub memory : Memory
  pub buffer : List ℕ
  pub code : ℕ

abbrev pub spoke : Memory → List ℕ → ℕ → Spoke
spoke m buf code = record { memory = m; buffer = buf; code = code }

abbrev pub spoken_of : After → Spoke
spoken_of a = spoke (encode_of a.reply.controller) a.buffer (said_code a.reply.said)

-- a device's numbers after so many ticks, which left this; after ticks, after a run and after a stop
abbrev pub turned_pose : ℕ → Sense → Pose → Stepped → Gone
turned_pose n s p t = record { pose = record { tip = tip_after n s p.tip; core = t.core }; news = t.news }

unfoldable pub gone_pose : ℕ → Sense → List ℕ → Pose → Gone
gone_pose n s text p = let t = advance_of n s (device text p.tip p.core) in record { pose = pose_of t.device; news = t.news }

unfoldable pub ran_pose : ℕ → Sense → List ℕ → Pose → Run
ran_pose n s text p = let r = ran_of n s (device text p.tip p.core) in record { gone = record { pose = pose_of r.turned.device; news = r.turned.news }; used = r.used }

unfoldable pub halted_pose : Pose → Pose
halted_pose p = pose_of (halted_of (device [] p.tip p.core)).next

-- what moves: every call but an idle tick reads all of it
unfoldable pub turned_in : (Device → Turned) → Mover → Done Mover
turned_in f v = if moves v then (let t = f (device_held v) in done (moved t.device) (news_code 0 t.news)) else done v broken

-- a tick while nothing runs needs no more than the tip of the last one
unfoldable pub tick_in : Sense → Mover → Done Mover
tick_in s v =
    if idle v.small
    then done (mover v.wide v.words (set v.small 3 (flag_of s.tip)) v.text) 0
    else turned_in (λ d. (tick_of s d).next) v

abbrev pub advance_in : ℕ → Sense → Mover → Done Mover
advance_in n s v = turned_in (advance_of n s) v

unfoldable pub run_in : ℕ → Sense → Mover → Done Mover
run_in n s v = if moves v then (let r = ran_of n s (device_held v) in done (moved r.turned.device) (used_code r.used r.turned.news)) else done v broken

unfoldable pub stop_in : Mover → Done Mover
stop_in v = if moves v then done (moved (halted_of (device_held v)).next) 0 else done v broken

unfoldable pub tell_in : (Core → ℕ) → List ℕ → List ℕ → List ℕ → ℕ
tell_in f w n s = if is_pose (pose_in w n s) n s then f (pose_in w n s).core else broken

abbrev pub plunger_in : List ℕ → List ℕ → List ℕ → ℕ
plunger_in w n s = tell_in (λ c. c.body.plunger) w n s

abbrev pub exact_in : List ℕ → List ℕ → List ℕ → ℕ
exact_in w n s = tell_in (λ c. c.body.exact) w n s

abbrev pub ready_in : List ℕ → List ℕ → List ℕ → ℕ
ready_in w n s = tell_in (λ c. flag_of (ready_of c)) w n s

abbrev pub error_in : List ℕ → List ℕ → List ℕ → ℕ
error_in w n s = tell_in (λ c. c.course.error) w n s

-- what receives
unfoldable pub listen_in : List ℕ → Receiver → Done Receiver
listen_in bytes r =
    if receives r
    then (let taken = before_frame (line_held r) bytes in let x = feed (at (line_held r) r.frame) taken in done (received x.line x.frame) (length taken))
    else done r broken

-- a byte that completes a frame needs all; any other the receiver alone
unfoldable pub ended_by : Result Address S2 → ℕ → List ℕ → Memory → Spoke
ended_by (Ok a) b buf m = if moves m.mover then spoken_of (byte_of (controller_held a m) b buf).next else spoke m buf broken
ended_by (Err e) b buf m = spoke m buf broken

unfoldable pub heard_by : Deed → Line → ℕ → List ℕ → Memory → Spoke
heard_by Nothing l b buf m = spoke (memory m.address (received l m.receiver.frame) m.mover) buf 0
heard_by (Keep at) l b buf m = spoke (memory m.address (received l (set m.receiver.frame at b)) m.mover) buf 0
heard_by (Frame a n) l b buf m = ended_by (address_held m) b buf m

unfoldable pub byte_in : ℕ → List ℕ → Memory → Spoke
byte_in b buf m =
    if ltb (length buf) 32 then spoke m buf s1
    else if receives m.receiver then (let h = hear_of (line_held m.receiver) b in heard_by h.deed h.line b buf m)
    else spoke m buf broken

-- making: framing 0 is DT, 1 is OEM
unfoldable pub framing_of : ℕ → Option Framing
framing_of n =
    if eqb n 0 then Some F.Dt
    else if eqb n 1 then Some F.Oem
    else None

unfoldable pub made_by : Option Framing → Result Address S2 → Memory → Done Memory
made_by (Some f) (Ok a) m = done (encode_of (made_of f a).next) 0
made_by (Some f) (Err e) m = done m s2
made_by None g m = done m unframed

abbrev pub made_in : ℕ → ℕ → Memory → Done Memory
made_in f n m = made_by (framing_of f) (address_of n) m

-- whether all of it is a controller
unfoldable pub addressed : Result Address S2 → Bool
addressed (Ok a) = true
addressed (Err e) = false

unfoldable pub is_image : Memory → Bool
is_image m = addressed (address_held m) && (receives m.receiver && moves m.mover)

abbrev pub check_in : Memory → ℕ
check_in m = if is_image m then 0 else broken
