-- What holds of the memory whatever a host calls: which memory is a controller's, and a host's calls, one after the other, on memory and on the controller itself.
use Rattle.std.specs.Prelude.{ℕ, ◌<◌, ◌≤◌, ◌≡◌, List, [], ◌∷◌, length}
use Rattle.motion.specs.declared.Sense.{Sense}
use Rattle.pipettor.specs.declared.Controller.{Controller}
use Rattle.pipettor.specs.Valid.{Valid}
use Rattle.pipettor.specs.Byte.{byte_of}
use Rattle.pipettor.specs.Controller.{ticked_of, advanced_of, run_of, stopped_of}
use Rattle.pipettor.specs.Listening.{listened_of}
use Rattle.host.specs.Host.{Receiver, Mover, Memory, memory, encode_of, Done, Spoke, spoke, s1, s3, broken, said_code, news_code, used_code, byte_in, listen_in, tick_in, advance_in, run_in, stop_in}

-- the sizes of the arrays
pub record Sized (m : Memory) : Type 0 where
  pub address : length m.address ≡ 1
  pub line : length m.receiver.line ≡ 4
  pub count : length m.receiver.count ≡ 1
  pub wide : length m.mover.wide ≡ 8
  pub words : length m.mover.words ≡ 26
  pub small : length m.mover.small ≡ 4

-- memory that a controller within the bounds of making and calls is written as
pub record Encodes (k : Controller) (m : Memory) : Type 0 where
  pub valid : Valid k
  pub is : encode_of k ≡ m

abbrev pub Holds : Memory → Type 0
Holds m = (k : Controller) × Encodes k m

-- a byte comes with the buffer that is lent for its answer
pub data Call : Type 0 where
  byte : ℕ → List ℕ → Call
  listen : List ℕ → Call
  tick : Sense → Call
  advance : ℕ → Sense → Call
  run : ℕ → Sense → Call
  stop : Call

-- what a call on a part leaves of the whole
abbrev pub in_receiver : Memory → Done Receiver → Spoke
in_receiver m d = spoke (memory m.address d.left m.mover) [] d.code

abbrev pub in_mover : Memory → Done Mover → Spoke
in_mover m d = spoke (memory m.address m.receiver d.left) [] d.code

-- what the exported function leaves and returns
unfoldable pub call_in : Call → Memory → Spoke
call_in (byte b buf) m = byte_in b buf m
call_in (listen bytes) m = in_receiver m (listen_in bytes m.receiver)
call_in (tick s) m = in_mover m (tick_in s m.mover)
call_in (advance n s) m = in_mover m (advance_in n s m.mover)
call_in (run n s) m = in_mover m (run_in n s m.mover)
call_in stop m = in_mover m (stop_in m.mover)

-- the buffer that is lent for an answer, and how many bytes are lent at all
abbrev pub buffer_lent : Call → List ℕ
buffer_lent (byte b buf) = buf
buffer_lent (listen bytes) = []
buffer_lent (tick s) = []
buffer_lent (advance n s) = []
buffer_lent (run n s) = []
buffer_lent stop = []

abbrev pub bytes_lent : Call → ℕ
bytes_lent (byte b buf) = length buf
bytes_lent (listen bytes) = length bytes
bytes_lent (tick s) = 0
bytes_lent (advance n s) = 0
bytes_lent (run n s) = 0
bytes_lent stop = 0

-- what a call tells: a value, which lies below 2^63; or one of three refusals, which lie above, and then memory and buffer are what they were
pub data Tells (m : Memory) (buf : List ℕ) (s : Spoke) : Type 0 where
  value : s.code < 9223372036854775808 → Tells m buf s
  short_buffer : s ≡ spoke m buf s1 → Tells m buf s
  long_run : s ≡ spoke m buf s3 → Tells m buf s
  no_controller : s ≡ spoke m buf broken → Tells m buf s

-- what is told of a device: a number up to a bound, or that there is none
pub data Asked (most code : ℕ) : Type 0 where
  number : code ≤ most → Asked most code
  none : code ≡ broken → Asked most code

-- the controller after the method, what it leaves of a buffer, and what is returned
pub record Called : Type 0 where
  pub controller : Controller
  pub buffer : List ℕ
  pub code : ℕ

abbrev pub called : Controller → List ℕ → ℕ → Called
called k buf code = record { controller = k; buffer = buf; code = code }

unfoldable pub call_of : Call → Controller → Called
call_of (byte b buf) k = let a = (byte_of k b buf).next in called a.reply.controller a.buffer (said_code a.reply.said)
call_of (listen bytes) k = let r = listened_of k bytes in called r.controller [] r.n
call_of (tick s) k = let t = (ticked_of s k).next in called t.controller [] (news_code 0 t.news)
call_of (advance n s) k = let t = advanced_of n s k in called t.controller [] (news_code 0 t.news)
call_of (run n s) k = let r = run_of n s k in called r.ticked.controller [] (used_code r.used r.ticked.news)
call_of stop k = called (stopped_of k).next [] 0

abbrev pub written_down : Called → Spoke
written_down c = spoke (encode_of c.controller) c.buffer c.code

-- all that a host sees: memory, buffer and what is returned, after each call
unfoldable pub session_in : List Call → Memory → List Spoke
session_in [] m = []
session_in (c ∷ cs) m = call_in c m ∷ session_in cs (call_in c m).memory

unfoldable pub session_of : List Call → Controller → List Spoke
session_of [] k = []
session_of (c ∷ cs) k = written_down (call_of c k) ∷ session_of cs (call_of c k).controller
