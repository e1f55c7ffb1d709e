-- The calls on a controller, from making on: what each leaves behind, adds to the history, and hands back.
use Rattle.std.specs.Prelude.{ℕ, List, [], ◌∷◌, ◌++◌, replicate, Err, Ok, Result}
use Rattle.pipettor.specs.Said.{Said}
use Rattle.machine.specs.declared.S3.{S3}
use Rattle.line.specs.declared.Framing.{Framing}
use Rattle.motion.specs.declared.Sense.{Sense}
use Rattle.motion.specs.Events.{Event, Turn, quiet}
use Rattle.machine.specs.declared.Device.{Device}
use Rattle.machine.specs.declared.step.News.{News}
use Rattle.machine.specs.History as Machine
use Rattle.pipettor.specs.declared.address.Address.{Address}
use Rattle.pipettor.specs.declared.Controller.{Controller}
use Rattle.pipettor.specs.Byte.{byte_of}
use Rattle.pipettor.specs.Listening.{listened_of}
use Rattle.pipettor.specs.Controller.{made_of, ticked_of, stopped_of, advanced_of, run_of}

-- what a caller lends with a byte: the answer buffer
pub record Lent : Type 0 where
  pub buffer : List ℕ

abbrev pub lent : List ℕ → Lent
lent buf = record { buffer = buf }

-- a byte received, with what is lent for it; bytes handed over at once, as far as none completes a frame; a tick, with what the host senses; the host's stop; so many ticks; a run of at most so many
pub data Call : Type 0 where
  byte : ℕ → Lent → Call
  listen : List ℕ → Call
  tick : Sense → Call
  stop : Call
  advance : ℕ → Sense → Call
  run : ℕ → Sense → Call

-- what so many ticks add to the history
unfoldable pub ticks_events : ℕ → Sense → Device → List Event
ticks_events n s d = Machine.events_of (replicate n (Machine.tick s)) d

-- "the answer says how many ticks it used"; "S3: .. nothing changed"
abbrev pub ticks_used : Result ℕ S3 → ℕ
ticks_used (Ok n) = n
ticks_used (Err _) = 0

-- the controller after a call, and what the call adds to the history
unfoldable pub call_of : Call → Controller → Turn Controller
call_of (byte b l) k = let t = byte_of k b l.buffer in record { next = t.next.reply.controller; events = t.events }
call_of (listen bytes) k = quiet (listened_of k bytes).controller
call_of (tick s) k = let t = ticked_of s k in record { next = t.next.controller; events = t.events }
call_of stop k = stopped_of k
call_of (advance n s) k = record { next = (advanced_of n s k).controller; events = ticks_events n s k.device }
call_of (run n s) k = let r = run_of n s k in record { next = r.ticked.controller; events = ticks_events (ticks_used r.used) s k.device }

-- what a call hands back beside the controller: what a byte says, with what was lent as it is left; how many bytes were taken;
-- what ticks tell; that, and how many ticks a run used
pub data Answered : Type 0 where
  said : Said → Lent → Answered
  taken : ℕ → Answered
  told : News → Answered
  used : News → Result ℕ S3 → Answered
  nothing : Answered

unfoldable pub answer_of : Call → Controller → Answered
answer_of (byte b l) k = let a = (byte_of k b l.buffer).next in said a.reply.said (lent a.buffer)
answer_of (listen bytes) k = taken (listened_of k bytes).n
answer_of (tick s) k = told (ticked_of s k).next.news
answer_of stop k = nothing
answer_of (advance n s) k = told (advanced_of n s k).news
answer_of (run n s) k = let r = run_of n s k in used r.ticked.news r.used

-- calls, first to last: the controller they leave, all that they add to the history, and all that they hand back
unfoldable pub after_of : List Call → Controller → Controller
after_of [] k = k
after_of (c ∷ cs) k = after_of cs (call_of c k).next

unfoldable pub events_of : List Call → Controller → List Event
events_of [] k = []
events_of (c ∷ cs) k = (call_of c k).events ++ events_of cs (call_of c k).next

unfoldable pub answers_of : List Call → Controller → List Answered
answers_of [] k = []
answers_of (c ∷ cs) k = answer_of c k ∷ answers_of cs (call_of c k).next

-- what is chosen at making: the framing (02, W-204) and the address
pub record Making : Type 0 where
  pub framing : Framing
  pub address : Address

abbrev pub made : Making → Turn Controller
made a = made_of a.framing a.address

-- the same from making
unfoldable pub after : Making → List Call → Controller
after a calls = after_of calls (made a).next

unfoldable pub history : Making → List Call → List Event
history a calls = (made a).events ++ events_of calls (made a).next

unfoldable pub answers : Making → List Call → List Answered
answers a calls = answers_of calls (made a).next
