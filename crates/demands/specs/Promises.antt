-- The contracts of the controller's methods, as `pipettor/src/lib.rt` states them (`proofs/Contracts` shows that they are the same), and what a program makes of calls that meets them.
use Rattle.std.specs.Prelude.{ℕ, ◌≡◌, Bool, List, [], ◌∷◌, Result}
use Rattle.pipettor.specs.declared.address.S2.{S2}
use Rattle.line.specs.declared.Framing.{Framing}
use Rattle.motion.specs.declared.Sense.{Sense}
use Rattle.pipettor.specs.declared.address.Address.{Address}
use Rattle.pipettor.specs.declared.Controller.{Controller}
use Rattle.pipettor.specs.declared.Reply.{Reply}
use Rattle.pipettor.specs.declared.Listened.{Listened}
use Rattle.pipettor.specs.declared.Ticked.{Ticked}
use Rattle.pipettor.specs.declared.Ran.{Ran}
use Rattle.pipettor.specs.Address.{address_of}
use Rattle.pipettor.specs.Valid.{Valid}
use Rattle.pipettor.specs.Returns.{Returns, Keeps}
use Rattle.pipettor.specs.Byte as Byte
use Rattle.pipettor.specs.Byte.{byte_of}
use Rattle.pipettor.specs.Listening.{listened_of}
use Rattle.pipettor.specs.Controller.{made_of, ticked_of, stopped_of, advanced_of, run_of, framing_is, ready_is}
use Rattle.demands.specs.Calls.{Making, Lent, Call, byte, listen, tick, stop, advance, run, Answered, said, taken, told, used, nothing}

-- what each method's `ensures` says of its result, and of the answer buffer afterwards; the one `requires` of byte, tick, advance and run is `Valid`
-- an address of a number, or S2
abbrev pub GivenEnsures : ℕ → Result Address S2 → Type 0
GivenEnsures n r = r ≡ address_of n

abbrev pub FreshEnsures : Framing → Address → Controller → Type 0
FreshEnsures f a r = Returns r (made_of f a).next r

abbrev pub ByteEnsures : Controller → ℕ → Lent → Reply → Lent → Type 0
ByteEnsures k b before r after = Returns (Byte.after r after.buffer) (byte_of k b before.buffer).next r.controller

abbrev pub ListenEnsures : Controller → List ℕ → Listened → Type 0
ListenEnsures k bytes r = Keeps r (listened_of k bytes) k r.controller

abbrev pub TickEnsures : Controller → Sense → Ticked → Type 0
TickEnsures k s r = Returns r (ticked_of s k).next r.controller

abbrev pub StopEnsures : Controller → Controller → Type 0
StopEnsures k r = Keeps r (stopped_of k).next k r

abbrev pub AdvanceEnsures : Controller → ℕ → Sense → Ticked → Type 0
AdvanceEnsures k n s r = Returns r (advanced_of n s k) r.controller

abbrev pub RunEnsures : Controller → ℕ → Sense → Ran → Type 0
RunEnsures k n s r = Returns r (run_of n s k) r.ticked.controller

abbrev pub FramingEnsures : Controller → Framing → Type 0
FramingEnsures k r = r ≡ framing_is k

abbrev pub ReadyEnsures : Controller → Bool → Type 0
ReadyEnsures k r = r ≡ ready_is k

-- what a byte's method hands back, with what was lent as it is left
pub record Spoken : Type 0 where
  pub reply : Reply
  pub left : Lent

-- any program with these methods.
-- Its types may hold only some controllers, and take only some arguments (a byte below 256, and so on)
pub record Program : Type 1 where
  pub Holds : Controller → Type 0
  pub Takes : Call → Type 0
  pub given : ℕ → Result Address S2
  pub fresh : Making → Controller
  pub byte : Controller → ℕ → Lent → Spoken
  pub listen : Controller → List ℕ → Listened
  pub tick : Controller → Sense → Ticked
  pub stop : Controller → Controller
  pub advance : Controller → ℕ → Sense → Ticked
  pub run : Controller → ℕ → Sense → Ran
  pub framing : Controller → Framing
  pub ready : Controller → Bool

-- what it makes of a call: the controller that is left, and what is handed back
pub record Made : Type 0 where
  pub controller : Controller
  pub answer : Answered

unfoldable pub makes : Program → Call → Controller → Made
makes p (byte b l) k = let r = p.byte k b l in record { controller = r.reply.controller; answer = said r.reply.said r.left }
makes p (listen bytes) k = let r = p.listen k bytes in record { controller = r.controller; answer = taken r.n }
makes p (tick s) k = let r = p.tick k s in record { controller = r.controller; answer = told r.news }
makes p stop k = record { controller = p.stop k; answer = nothing }
makes p (advance n s) k = let r = p.advance k n s in record { controller = r.controller; answer = told r.news }
makes p (run n s) k = let r = p.run k n s in record { controller = r.ticked.controller; answer = used r.ticked.news r.used }

-- it meets the contracts wherever their premise holds, and what it makes its types hold
pub record Meets (p : Program) : Type 0 where
  pub given : (n : ℕ) → GivenEnsures n (p.given n)
  pub fresh : (a : Making) → FreshEnsures a.framing a.address (p.fresh a)
  pub byte : (k : Controller) (b : ℕ) (l : Lent) → p.Holds k → p.Takes (byte b l) → Valid k → ByteEnsures k b l (p.byte k b l).reply (p.byte k b l).left
  pub listen : (k : Controller) (bytes : List ℕ) → p.Holds k → p.Takes (listen bytes) → ListenEnsures k bytes (p.listen k bytes)
  pub tick : (k : Controller) (s : Sense) → p.Holds k → p.Takes (tick s) → Valid k → TickEnsures k s (p.tick k s)
  pub stop : (k : Controller) → p.Holds k → p.Takes stop → StopEnsures k (p.stop k)
  pub advance : (k : Controller) (n : ℕ) (s : Sense) → p.Holds k → p.Takes (advance n s) → Valid k → AdvanceEnsures k n s (p.advance k n s)
  pub run : (k : Controller) (n : ℕ) (s : Sense) → p.Holds k → p.Takes (run n s) → Valid k → RunEnsures k n s (p.run k n s)
  pub framing : (k : Controller) → p.Holds k → FramingEnsures k (p.framing k)
  pub ready : (k : Controller) → p.Holds k → ReadyEnsures k (p.ready k)
  pub fresh_held : (a : Making) → p.Holds (p.fresh a)
  pub held : (c : Call) (k : Controller) → p.Holds k → p.Takes c → Valid k → p.Holds (makes p c k).controller

-- calls, first to last: all of them taken, the controller left, and all that is handed back
abbrev pub TakesAll : Program → List Call → Type 0
TakesAll p [] = Unit {0}
TakesAll p (c ∷ cs) = p.Takes c × TakesAll p cs

unfoldable pub left_by : Program → List Call → Controller → Controller
left_by p [] k = k
left_by p (c ∷ cs) k = left_by p cs (makes p c k).controller

unfoldable pub answered_by : Program → List Call → Controller → List Answered
answered_by p [] k = []
answered_by p (c ∷ cs) k = (makes p c k).answer ∷ answered_by p cs (makes p c k).controller
