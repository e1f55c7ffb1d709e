-- 02, W-203: what a tip changes, over any calls: another tip with every tick, while no E is taken or in progress.
use Rattle.std.specs.Prelude.{ℕ, ◌<◌, ◌≡◌, Bool, false, List, [], ◌∷◌}
use Rattle.motion.specs.declared.Sense.{Sense}
use Rattle.motion.specs.Bodies.{sensing}
use Rattle.machine.specs.Tips.{AtEject}
use Rattle.pipettor.specs.declared.Controller.{Controller}
use Rattle.pipettor.specs.Controller.{advanced_of}
use Rattle.frames.specs.Tips.{tipped, completes_tip}
use Rattle.demands.specs.Calls.{Call, byte, listen, tick, stop, advance, run, call_of, answer_of, after_of, events_of, answers_of}

-- a call with another tip
abbrev pub sensed : Bool → Sense → Sense
sensed t s = sensing t s.reading

abbrev pub retipped : Bool → Call → Call
retipped t (byte b l) = byte b l
retipped t (listen bytes) = listen bytes
retipped t (tick s) = tick (sensed t s)
retipped t stop = stop
retipped t (advance n s) = advance n (sensed t s)
retipped t (run n s) = run n (sensed t s)

-- no tick of a call takes an E, nor is one in progress
abbrev pub ApartFor : ℕ → Sense → Controller → Type 0
ApartFor n s k = (j : ℕ) → j < n → (let d = (advanced_of j s k).controller.device in AtEject d.text d.core) → ⊥

abbrev pub Apart : Call → Controller → Type 0
Apart (byte b l) k = Unit {0}
Apart (listen bytes) k = Unit {0}
Apart (tick s) k = ApartFor 1 s k
Apart stop k = Unit {0}
Apart (advance n s) k = ApartFor n s k
Apart (run n s) k = ApartFor n s k

-- the call's last byte asks ?31
abbrev pub asks_for_31 : Call → Controller → Bool
asks_for_31 (byte b l) k = completes_tip k b
asks_for_31 (listen bytes) k = false
asks_for_31 (tick s) k = false
asks_for_31 stop k = false
asks_for_31 (advance n s) k = false
asks_for_31 (run n s) k = false

-- a call with another tip, on a controller with another tip: all is the same, but for the tip; and so is what is handed back, but to a ?31
pub record SameBut31 (c d : Call) (k l : Controller) : Type 0 where
  pub tip : Bool
  pub controller : (call_of d l).next ≡ tipped tip (call_of c k).next
  pub events : (call_of d l).events ≡ (call_of c k).events
  pub answer : asks_for_31 c k ≡ false → answer_of d l ≡ answer_of c k

-- calls, first to last
pub data Retipped : List Call → List Call → Type 0 where
  none : Retipped [] []
  one : (t : Bool) (c : Call) (cs ds : List Call) → Retipped cs ds → Retipped (c ∷ cs) (retipped t c ∷ ds)

abbrev pub AllApart : List Call → Controller → Type 0
AllApart [] k = Unit {0}
AllApart (c ∷ cs) k = Apart c k × AllApart cs (call_of c k).next

abbrev pub NoneAsks31 : List Call → Controller → Type 0
NoneAsks31 [] k = Unit {0}
NoneAsks31 (c ∷ cs) k = (asks_for_31 c k ≡ false) × NoneAsks31 cs (call_of c k).next

pub record AllSameBut31 (cs ds : List Call) (k l : Controller) : Type 0 where
  pub tip : Bool
  pub controller : after_of ds l ≡ tipped tip (after_of cs k)
  pub events : events_of ds l ≡ events_of cs k
  pub answers : NoneAsks31 cs k → answers_of ds l ≡ answers_of cs k

-- "a tip changes nothing but ?31 while no E is taken or in progress"
pub record TipsTellOnly31 : Type 0 where
  pub a_call : (t u : Bool) (c : Call) (k : Controller) → Apart c k → SameBut31 c (retipped t c) k (tipped u k)
  pub any_calls : (u : Bool) (cs ds : List Call) (k : Controller) → Retipped cs ds → AllApart cs k → AllSameBut31 cs ds k (tipped u k)
