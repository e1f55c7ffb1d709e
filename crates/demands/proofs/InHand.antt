-- Theorems: a byte that ends a frame to us does what that frame does, and every other byte nothing.
use mathlib.Core.Path.{◌≡◌, refl, sym, ap, subst, ◌∙◌}
use mathlib.Core.List.{List, [], ◌∷◌, ◌++◌, append_assoc, append-nil}
use Prim.Native.Nat.{ℕ, ◌≤◌}
use lib.ListN.{length}
use Rattle.line.specs.declared.Framing.{Framing}
use Rattle.line.specs.Wire.{hear_of}
use Rattle.pipettor.specs.declared.address.Address.{Address}
use Rattle.pipettor.specs.declared.Controller.{Controller}
use Rattle.pipettor.specs.Address.{letter_of}
use Rattle.pipettor.specs.Byte.{byte_of}
use Rattle.pipettor.specs.Listening.{listened_of}
use Rattle.pipettor.specs.Controller.{framing_is}
use Rattle.frames.specs.Frame.{exchange_of}
use Rattle.frames.proofs.Bytes.{byte_other}
use Rattle.frames.proofs.Frames as Frames
use Rattle.demands.specs.Calls.{Making, made, lent, Call, byte, call_of, answer_of, after_of, events_of, answers_of, after, history, answers}
use Rattle.demands.specs.Promises.{Program, TakesAll}
use Rattle.demands.specs.Demands.{Agrees}
use Rattle.demands.specs.InHand.{Hand, Ending, frame, ended_by, in_hand, byte_seen, unheeded, EndsFrame, EndsNone, Receives, one_byte, HandsBack, ReceivesBy}
use Rattle.demands.proofs.Frames.{an_exchange_is_treated_by_the_table}
use Rattle.demands.proofs.Exchanges.{after_two, answers_two, events_two, the_address_stays, the_framing_stays}
use Rattle.demands.proofs.Holding.{Kept, Deeds, In, other, told, the_receiver_holds_what_is_in_hand}
use Rattle.demands.proofs.Endings.{in_hand_exactly}

-- one more byte: what is seen of it depends on what is in hand, the address and the device
module _ (h : Hand) (k : Controller) (s : In h k) where
  pub ending : (b : ℕ) (ds buf : List ℕ) → ended_by h b ≡ frame (letter_of k.address) ds → 32 ≤ length buf → byte_seen k b buf ≡ exchange_of (framing_is k) ds k.address k.device buf
  ending b ds buf hand long =
      let t = subst (λ (x : Ending). Deeds h x (hear_of k.line b).deed) hand (told h k.line b s.line) in
      let e = Frames.ends k ds buf long b t.0 (subst (λ (xs : List ℕ). Kept xs k.frame) t.1 s.kept) in
      rw (e.said, e.buffer, e.device, e.events)

  pub silent : (b : ℕ) (buf : List ℕ) → ((ds : List ℕ) → ended_by h b ≡ frame (letter_of k.address) ds → ⊥) → 32 ≤ length buf → byte_seen k b buf ≡ unheeded k buf
  silent b buf but long = rw (byte_other k b buf long (other (letter_of k.address) h (ended_by h b) (hear_of k.line b).deed (told h k.line b s.line) but))

-- after any calls
module _ (a : Making) (calls : List Call) where
  abbrev holds : In (in_hand a.framing calls) (after a calls)
  holds = the_receiver_holds_what_is_in_hand a calls

  abbrev us : letter_of (after a calls).address ≡ letter_of a.address
  us = ap letter_of (the_address_stays a calls)

  after_ending : (b : ℕ) (ds buf : List ℕ) → EndsFrame a calls b ds → 32 ≤ length buf → byte_seen (after a calls) b buf ≡ exchange_of a.framing ds a.address (after a calls).device buf
  after_ending b ds buf hand long =
      ending (in_hand a.framing calls) (after a calls) holds b ds buf (hand ∙ ap (λ (x : ℕ). frame x ds) (sym us)) long
      ∙ ap (λ (x : Address). exchange_of (framing_is (after a calls)) ds x (after a calls).device buf) (the_address_stays a calls)
      ∙ ap (λ (f : Framing). exchange_of f ds a.address (after a calls).device buf) (the_framing_stays a calls)

  after_silent : (b : ℕ) (buf : List ℕ) → EndsNone a calls b → 32 ≤ length buf → byte_seen (after a calls) b buf ≡ unheeded (after a calls) buf
  after_silent b buf but long = silent (in_hand a.framing calls) (after a calls) holds b buf (λ ds hand. but ds (hand ∙ ap (λ (x : ℕ). frame x ds) us)) long

pub every_controller_receives : (a : Making) (calls : List Call) → Receives a calls
unfolding call_of listened_of
every_controller_receives a calls =
    record {
      a_frame_ends_exactly_where_the_bytes_end_with_it = in_hand_exactly a.framing calls;
      a_frame_that_ends_is_an_exchange = after_ending a calls;
      a_frame_that_ends_is_treated_by_the_table =
          λ b ds buf hand long. rw (after_ending a calls b ds buf hand long) (an_exchange_is_treated_by_the_table a.framing ds a.address (after a calls).device buf);
      every_other_byte_is_silent = after_silent a calls;
      listening_does_nothing = λ bytes. (refl, refl);
    }

-- the same of a program that agrees with the definition
module _ (p : Program) (a : Making) (calls : List Call) where
  hands_back : (b : ℕ) (buf : List ℕ) → Agrees p a (one_byte calls b buf) → HandsBack p a calls b buf (byte_seen (after a calls) b buf)
  unfolding after answers history after_of answers_of events_of call_of answer_of
  hands_back b buf agrees =
      let m = made a in
      let last = byte b (lent buf) ∷ [] in
      let here = byte_of (after a calls) b buf in
      record {
        device = ap (λ (k : Controller). k.device) (agrees.controller ∙ after_two calls last m.next);
        answered = agrees.answered ∙ answers_two calls last m.next;
        events =
            ap (◌++◌ m.events) (events_two calls last m.next ∙ ap (◌++◌ (events_of calls m.next)) (append-nil here.events)) ∙
            sym (append_assoc m.events (events_of calls m.next) here.events);
      }

  pub an_agreeing_program_receives : ((cs : List Call) → TakesAll p cs → Agrees p a cs) → ReceivesBy p a calls
  an_agreeing_program_receives agrees =
      record {
        a_frame_that_ends_is_an_exchange =
            λ b ds buf hand long takes. subst (HandsBack p a calls b buf) (after_ending a calls b ds buf hand long) (hands_back b buf (agrees (one_byte calls b buf) takes));
        every_other_byte_is_silent =
            λ b buf but long takes. subst (HandsBack p a calls b buf) (after_silent a calls b buf but long) (hands_back b buf (agrees (one_byte calls b buf) takes));
      }
