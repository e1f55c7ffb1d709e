-- Calls in two parts, the address and the framing that stay, and so what a program makes of a whole frame, call by call.
use mathlib.Core.Path.{◌≡◌, refl, sym, ap, subst, ◌∙◌}
use mathlib.Core.List.{List, [], ◌∷◌, ◌++◌, append_assoc}
use Prim.Native.Nat.{ℕ, ◌≤◌}
use lib.Dec.{ltb}
use lib.ListN.{length, replicate}
use Rattle.std.specs.Prelude.{None, Ok}
use Rattle.basics.proofs.Choice.{by}
use Rattle.line.specs.declared.Framing.{Framing}
use Rattle.line.specs.declared.Framing.TheVariants.{Dt, Oem}
use Rattle.line.specs.Wire.{fresh_line, framing_of, before_frame, Form, formed, front, framed, Sendable, Hears}
use Rattle.line.proofs.Receiving.{hear_keeps_framing, feed_keeps_framing}
use Rattle.motion.specs.Events.{Turn}
use Rattle.pipettor.specs.declared.address.Address.{Address}
use Rattle.pipettor.specs.declared.Controller.{Controller}
use Rattle.pipettor.specs.Address.{letter_of}
use Rattle.pipettor.specs.Byte.{After, heard_of, byte_of}
use Rattle.pipettor.specs.Listening.{listened_of}
use Rattle.pipettor.specs.Controller.{made_of, ticked_of, stopped_of, advanced_of, run_of, framing_is}
use Rattle.frames.specs.Frame.{given_of, exchange_of, Exchanged}
use Rattle.frames.proofs.Bytes.{receiver}
use Rattle.frames.proofs.Frames.{a_whole_frame_is_an_exchange}
use Rattle.demands.specs.Calls.{Making, made, Call, byte, listen, tick, stop, advance, run, call_of, answer_of, after_of, events_of, answers_of, after, history, answers}
use Rattle.demands.specs.Promises.{Program}
use Rattle.demands.specs.Demands.{Agrees}
use Rattle.demands.specs.Frames.{frame_after, ExchangesFrame}
use Rattle.demands.proofs.Frames.{to_give_bytes_is_to_call}
use Rattle.demands.proofs.Sound.{every_controller_is_sound}

pub after_two : (xs ys : List Call) (k : Controller) → after_of (xs ++ ys) k ≡ after_of ys (after_of xs k)
unfolding after_of
after_two [] ys k = refl
after_two (c ∷ xs) ys k = after_two xs ys (call_of c k).next

pub answers_two : (xs ys : List Call) (k : Controller) → answers_of (xs ++ ys) k ≡ answers_of xs k ++ answers_of ys (after_of xs k)
unfolding after_of answers_of
answers_two [] ys k = refl
answers_two (c ∷ xs) ys k = ap (◌∷◌ (answer_of c k)) (answers_two xs ys (call_of c k).next)

pub events_two : (xs ys : List Call) (k : Controller) → events_of (xs ++ ys) k ≡ events_of xs k ++ events_of ys (after_of xs k)
unfolding after_of events_of
events_two [] ys k = refl
events_two (c ∷ xs) ys k =
    let t = call_of c k in
    rw (events_two xs ys t.next, append_assoc t.events (events_of xs t.next) (events_of ys (after_of xs t.next)))

-- no call changes the address
pub call_keeps_address : (c : Call) (k : Controller) → (call_of c k).next.address ≡ k.address
unfolding call_of byte_of heard_of listened_of ticked_of stopped_of advanced_of run_of
call_keeps_address (byte b l) k = by (λ (t : Turn After). t.next.reply.controller.address ≡ k.address) (ltb (length l.buffer) 32) (λ h. refl) (λ h. refl)
call_keeps_address (listen bytes) k = refl
call_keeps_address (tick s) k = refl
call_keeps_address stop k = refl
call_keeps_address (advance n s) k = refl
call_keeps_address (run n s) k = refl

calls_keep_address : (cs : List Call) (k : Controller) → (after_of cs k).address ≡ k.address
unfolding after_of
calls_keep_address [] k = refl
calls_keep_address (c ∷ cs) k = calls_keep_address cs (call_of c k).next ∙ call_keeps_address c k

pub the_address_stays : (a : Making) (calls : List Call) → (after a calls).address ≡ a.address
unfolding after made_of
the_address_stays a calls = calls_keep_address calls (made a).next

-- nor the framing
call_keeps_framing : (c : Call) (k : Controller) → framing_is (call_of c k).next ≡ framing_is k
unfolding call_of byte_of heard_of listened_of ticked_of stopped_of advanced_of run_of
call_keeps_framing (byte b l) k =
    by (λ (t : Turn After). framing_is t.next.reply.controller ≡ framing_is k) (ltb (length l.buffer) 32) (λ h. refl) (λ h. hear_keeps_framing k.line b)
call_keeps_framing (listen bytes) k = feed_keeps_framing (receiver k) (before_frame k.line bytes)
call_keeps_framing (tick s) k = refl
call_keeps_framing stop k = refl
call_keeps_framing (advance n s) k = refl
call_keeps_framing (run n s) k = refl

calls_keep_framing : (cs : List Call) (k : Controller) → framing_is (after_of cs k) ≡ framing_is k
unfolding after_of
calls_keep_framing [] k = refl
calls_keep_framing (c ∷ cs) k = calls_keep_framing cs (call_of c k).next ∙ call_keeps_framing c k

pub fresh_framing : (f : Framing) → framing_of (fresh_line f) ≡ f
fresh_framing Dt = refl
fresh_framing Oem = refl

pub the_framing_stays : (a : Making) (calls : List Call) → framing_is (after a calls) ≡ a.framing
unfolding after made_of
the_framing_stays a calls = calls_keep_framing calls (made a).next ∙ fresh_framing a.framing

module _ (form : Form) (a : Making) (calls : List Call) (ds buf : List ℕ) (heard : Hears form (after a calls).line) (good : Sendable form (letter_of a.address) ds) (long : 32 ≤ length buf) where
  abbrev before : Controller
  before = after a calls

  abbrev frame : List Call
  frame = frame_after form a calls ds buf

  abbrev us : before.address ≡ a.address
  us = the_address_stays a calls

  same_framing : formed form ≡ a.framing
  same_framing = sym heard.framing ∙ the_framing_stays a calls

  abbrev ToAddress : Framing → Address → Type 0
  ToAddress f x = Exchanged form before ds (given_of before (framed form (letter_of x) ds) buf) (exchange_of f ds x before.device buf)

  exchanged : ToAddress a.framing a.address
  exchanged =
      subst (λ (f : Framing). ToAddress f a.address) same_framing
      (subst (ToAddress (formed form)) us
      (a_whole_frame_is_an_exchange form before ds buf heard (every_controller_is_sound a calls).sized.frame (subst (λ (x : Address). Sendable form (letter_of x) ds) (sym us) good) long))

  pub an_agreeing_program_exchanges : (p : Program) → Agrees p a (calls ++ frame) → ExchangesFrame form p a calls ds buf
  unfolding after answers history
  an_agreeing_program_exchanges p agrees =
      let m = made a in
      let gives = to_give_bytes_is_to_call before (framed form (letter_of a.address) ds) buf in
      let left = ap (λ (k : Controller). k.device) (agrees.controller ∙ after_two calls frame m.next ∙ gives.controller) in
      record {
        device = left ∙ exchanged.device;
        events =
            ap (◌++◌ m.events) (events_two calls frame m.next ∙ ap (◌++◌ (events_of calls m.next)) (gives.events ∙ exchanged.events)) ∙
            sym (append_assoc m.events (events_of calls m.next) (exchange_of a.framing ds a.address before.device buf).events);
        back = answers_of frame before;
        answered = agrees.answered ∙ answers_two calls frame m.next;
        said = gives.said ∙ exchanged.said ∙ ap (λ (x : Address). replicate (length (front form (letter_of x) ds)) (Ok None) ++ ((exchange_of a.framing ds a.address before.device buf).next.said ∷ [])) us;
        buffer = gives.buffer ∙ exchanged.buffer;
      }
