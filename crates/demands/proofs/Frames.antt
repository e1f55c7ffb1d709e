-- Theorems over the bytes of frames, from any controller whose frame has 320 places: how each is treated, what is heard, and that calls give them.
use mathlib.Core.Path.{◌≡◌, refl, ap}
use mathlib.Core.List.{List, [], ◌∷◌, ◌++◌}
use Prim.Native.Nat.{ℕ, ◌≤◌}
use lib.ListN.{length, replicate}
use Rattle.std.specs.Prelude.{None, Ok}
use Rattle.pipettor.specs.Said.{Said}
use Rattle.line.specs.declared.Framing.{Framing}
use Rattle.line.specs.Wire.{Form, formed, front, Sendable, Hears as ReceiverHears}
use Rattle.machine.specs.declared.Device.{Device}
use Rattle.pipettor.specs.declared.address.Address.{Address}
use Rattle.pipettor.specs.declared.Controller.{Controller}
use Rattle.pipettor.specs.Address.{letter_of}
use Rattle.pipettor.specs.Byte.{byte_of}
use Rattle.frames.specs.Frame.{exchange_of, given_of}
use Rattle.frames.proofs.Frames.{a_whole_frame_is_an_exchange, other_bytes_do_nothing}
use Rattle.frames.proofs.Listening.{listening_is_hearing_byte_by_byte}
use Rattle.frames.proofs.Columns.{what_a_column_means}
use Rattle.frames.proofs.Refusals as Refusals
use Rattle.demands.specs.Calls.{call_of, answer_of, after_of, events_of, answers_of}
use Rattle.demands.specs.Frames.{last, frame_seen, Treated, Hears, giving, Gives}

last_said : (s t : Said) (l : List Said) → last s (l ++ (t ∷ [])) ≡ t
last_said s t [] = refl
last_said s t (u ∷ l) = last_said u t l

pub an_exchange_is_treated_by_the_table : (f : Framing) (ds : List ℕ) (a : Address) (d : Device) (buf : List ℕ) → Treated f ds a d buf (exchange_of f ds a d buf)
an_exchange_is_treated_by_the_table f ds a d buf =
    record {
      number = record {
        a_wrong_letter_is_2 = Refusals.a_wrong_letter_is_2 ds a d;
        a_wrong_number_is_3 = Refusals.a_wrong_number_is_3 ds a d;
        nothing_to_run_is_14 = Refusals.nothing_to_run_now_is_14 ds a d;
        too_much_is_15 = Refusals.too_much_now_is_15 ds a d;
        never_7_at_load = Refusals.never_7_at_load ds a d;
        no_other_number = Refusals.no_other_number ds a d;
      };
      answered = Refusals.every_frame_is_answered ds a d f buf;
      a_refused_frame_leaves_the_error_only = Refusals.a_refused_frame_leaves_the_error_only ds a d f buf;
      an_accepted_frame_clears_the_error = Refusals.an_accepted_frame_clears_the_error ds a d f buf;
      column = what_a_column_means ds a d f buf;
      a_report_leaves_everything = Refusals.reports_leave_everything ds a d f buf;
    }

module _ (k : Controller) (sized : length k.frame ≡ 320) (buf : List ℕ) (long : 32 ≤ length buf) where
  module _ (form : Form) (ds : List ℕ) (heard : ReceiverHears form k.line) (good : Sendable form (letter_of k.address) ds) where
    pub a_frame_is_seen_as_an_exchange : frame_seen form k ds buf ≡ exchange_of (formed form) ds k.address k.device buf
    a_frame_is_seen_as_an_exchange =
        let e = exchange_of (formed form) ds k.address k.device buf in
        let x = a_whole_frame_is_an_exchange form k ds buf heard sized good long in
        rw (x.said, x.buffer, x.device, x.events, last_said (Ok None) e.next.said (replicate (length (front form (letter_of k.address) ds)) (Ok None)))

    pub a_frame_is_treated_by_the_table : Treated (formed form) ds k.address k.device buf (frame_seen form k ds buf)
    a_frame_is_treated_by_the_table = rw a_frame_is_seen_as_an_exchange (an_exchange_is_treated_by_the_table (formed form) ds k.address k.device buf)

  pub a_controller_hears : Hears k buf
  a_controller_hears =
      record {
        a_whole_frame_is_an_exchange = λ form ds heard good. a_whole_frame_is_an_exchange form k ds buf heard sized good long;
        other_bytes_do_nothing = other_bytes_do_nothing k buf long;
        listening_is_hearing_byte_by_byte = λ bytes. listening_is_hearing_byte_by_byte k bytes buf long;
      }

-- to give bytes one after the other is to call so often
pub to_give_bytes_is_to_call : (k : Controller) (bs buf : List ℕ) → Gives k bs buf (given_of k bs buf)
unfolding given_of giving after_of events_of answers_of call_of answer_of
to_give_bytes_is_to_call k [] buf = record { controller = refl; said = refl; buffer = refl; events = refl }
to_give_bytes_is_to_call k (b ∷ bs) buf =
    let t = byte_of k b buf in
    let g = to_give_bytes_is_to_call t.next.reply.controller bs t.next.buffer in
    record { controller = g.controller; said = ap (◌∷◌ t.next.reply.said) g.said; buffer = g.buffer; events = ap (◌++◌ t.events) g.events }
