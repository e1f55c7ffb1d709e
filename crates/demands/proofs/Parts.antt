-- Theorem (02, W-201): a method that comes in parts runs as one text. Whatever calls come between the parts and their bytes, none of it is lost.
use mathlib.Core.Path.{◌≡◌, refl, ap, subst, ◌∙◌}
use mathlib.Core.Bool.{Bool, true, false}
use mathlib.Core.List.{List, [], ◌∷◌, ◌++◌}
use Prim.Native.Nat.{ℕ}
use borrow.Author.Tests.{ltb-true, ltb-false}
use lib.Dec.{ltb}
use lib.ListN.{length}
use Rattle.std.specs.Prelude.{if◌then◌else◌, Ok}
use Rattle.basics.proofs.Choice.{by}
use Rattle.command.proofs.Numbers.{zero_is_fine}
use Rattle.text.specs.declared.Control.{Control}
use Rattle.text.specs.declared.Control.TheVariants.{Run, Stop}
use Rattle.text.specs.declared.Data.TheVariants as D
use Rattle.text.specs.Data.{spaceless, body, received_of}
use Rattle.line.specs.declared.Framing.{Framing}
use Rattle.motion.specs.Events.{Turn}
use Rattle.buffer.specs.declared.course.State.TheVariants.{Stored}
use Rattle.buffer.specs.declared.course.Course.{Course}
use Rattle.buffer.specs.declared.order.Action.TheVariants as A
use Rattle.buffer.specs.Course.{with_error, begun}
use Rattle.buffer.specs.Order.{cell_of, loops_by, verdict_of, stored_by, laid_by}
use Rattle.machine.specs.declared.Device.{Device}
use Rattle.machine.specs.declared.Ran as Machine
use Rattle.motion.specs.declared.Sense.{Sense}
use Rattle.machine.specs.Step.{core, around, fine, active_of, step_of}
use Rattle.machine.specs.Run.{ready_in, used_of}
use Rattle.machine.specs.Act.{halt_of, stop_of, changed_of, done_of, core_error, acted_of, act_of}
use Rattle.machine.specs.Device.{device, tip_after, tick_of, halted_of, advance_of, ran_of}
use Rattle.machine.specs.Valid.{Ready}
use Rattle.machine.specs.Refusals.{verdict_for}
use Rattle.machine.proofs.Runs.{ready_ticks}
use Rattle.pipettor.specs.declared.address.Address.{Address}
use Rattle.pipettor.specs.declared.Controller.{Controller}
use Rattle.pipettor.specs.Byte.{After, Exchange, action_of, task_of, performed_of, dealt_of, byte_of}
use Rattle.pipettor.specs.Controller.{ticked_of, stopped_of, advanced_of, run_of}
use Rattle.pipettor.specs.Listening.{listened_of}
use Rattle.frames.specs.Frame.{added_of, exchange_of}
use Rattle.frames.specs.Tips.{with_tip}
use Rattle.frames.specs.Refused.{number_for, refusal_of, is_report, column_after}
use Rattle.frames.specs.Limits.{whole_of}
use Rattle.frames.proofs.Calls.{s1_changes_nothing}
use Rattle.frames.proofs.Refusals.{a_refused_frame_leaves_the_error_only, reports_leave_everything}
use Rattle.demands.specs.Calls.{Making, made, Lent, Call, byte, listen, tick, stop, advance, run, call_of, after_of, after}
use Rattle.demands.specs.Parts as Parts
use Rattle.demands.specs.Parts.{Ends, Part, Loaded, first, part, between, report, refused, Keeps, Runs, InParts}
use Rattle.demands.proofs.Exchanges.{after_two}
use Rattle.demands.proofs.InHand.{every_controller_receives}
use Rattle.demands.proofs.Sound.{every_controller_is_sound}
use Rattle.demands.proofs.Texts.{kept, an_accepted_string_waits_or_runs_from_its_start}

-- a device that is another's, but for the tip, which follows the ticks
abbrev SameBut : Controller → Device → Type 0
SameBut k d = (t : Bool) × (d ≡ with_tip t k.device)

-- a device that waits with its text keeps it through every call that ends no frame to us
module _ (k : Controller) (stored : k.device.core.course.state ≡ Stored) where
  waits : (n : ℕ) (s : Sense) → SameBut k (advance_of n s k.device).device
  unfolding advance_of
  waits n s = (tip_after n s k.device.tip, rw (ready_ticks n (around k.device.text s) (fine k.device.core) (ap ready_in stored)))

  no_run : (n : ℕ) (s : Sense) → SameBut k (ran_of n s k.device).turned.device
  unfolding ran_of
  no_run n s =
      by (λ (r : Machine.Ran). SameBut k r.turned.device) (ltb 60000 n) (λ h. (k.device.tip, refl))
      (λ h. waits (used_of n (around k.device.text s) (fine k.device.core)) s)

module _ (a : Making) (calls : List Call) where
  abbrev here : Controller
  here = after a calls

  one_more : (c : Call) → after a (calls ++ (c ∷ [])) ≡ (call_of c here).next
  unfolding after after_of
  one_more c = after_two calls (c ∷ []) (made a).next

  -- what ends a frame to us is an exchange
  ended : (c : Call) (ds : List ℕ) (e : Ends a calls c ds) → (after a (calls ++ (c ∷ []))).device ≡ (exchange_of a.framing ds a.address here.device e.buffer).next.device
  unfolding call_of
  ended c ds e =
      ap (λ (k : Controller). k.device) (one_more c) ∙
      ap (λ (x : Call). (call_of x here).next.device) e.is ∙
      ap (λ (t : Turn Exchange). t.next.device) ((every_controller_receives a calls).a_frame_that_ends_is_an_exchange e.last ds e.buffer e.whole e.long)

  -- any other call leaves a device alone that waits with its text
  unheard : (b : ℕ) (l : Lent) → ((ds : List ℕ) → Ends a calls (byte b l) ds → ⊥) → (byte_of here b l.buffer).next.reply.controller.device ≡ here.device
  unheard b l silent = go (ltb (length l.buffer) 32) refl
    where
      go : (x : Bool) → ltb (length l.buffer) 32 ≡ x → (byte_of here b l.buffer).next.reply.controller.device ≡ here.device
      go true h = ap (λ (t : Turn After). t.next.reply.controller.device) (s1_changes_nothing here b l.buffer (ltb-true (length l.buffer) 32 h))
      go false h =
          let long = ltb-false (length l.buffer) 32 h in
          ap (λ (t : Turn Exchange). t.next.device)
          ((every_controller_receives a calls).every_other_byte_is_silent b l.buffer
          (λ ds hand. silent ds (record { last = b; buffer = l.buffer; is = refl; long = long; whole = hand }))
          long)

  idle : here.device.core.course.state ≡ Stored → (c : Call) → ((ds : List ℕ) → Ends a calls c ds → ⊥) → SameBut here (call_of c here).next.device
  unfolding call_of listened_of ticked_of tick_of step_of active_of stopped_of halted_of stop_of halt_of advanced_of run_of
  idle stored (byte b l) silent = (here.device.tip, unheard b l silent)
  idle stored (listen bytes) silent = (here.device.tip, refl)
  idle stored (tick s) silent = (s.tip, rw stored)
  idle stored stop silent = (here.device.tip, rw stored)
  idle stored (advance n s) silent = waits here stored n s
  idle stored (run n s) silent = no_run here stored n s

-- R and T, in a device that has a text stored
module _ (added : List ℕ) (d : Device) (stored : d.core.course.state ≡ Stored) where
  begins : verdict_for A.Run added d ≡ Ok tt → (act_of A.Run added d).next.device ≡ device d.text d.tip (core d.core.body (with_error 0 0 (begun d.core.course.len d.core.course)))
  unfolding act_of acted_of done_of changed_of stored_by laid_by cell_of
  begins ok = rw (ok, stored)

  stays : (act_of A.Stop added d).next.device ≡ device d.text d.tip (core_error 0 0 d.core)
  unfolding act_of acted_of done_of changed_of stop_of halt_of stored_by laid_by cell_of verdict_of loops_by
  stays = rw stored

-- a frame to us, in a device that has a text stored
module _ (f : Framing) (ds : List ℕ) (a : Address) (d : Device) (buf text : List ℕ) (k : Keeps text d) where
  abbrev next : Device
  next = (exchange_of f ds a d buf).next.device

  by_control : (c : Control) → received_of ds ≡ D.Control c → (exchange_of f ds a d buf).next.device ≡ (act_of (action_of c) (added_of ds) d).next.device
  unfolding exchange_of dealt_of task_of performed_of
  by_control c is = rw is

  accepted_control : (c : Control) → received_of ds ≡ D.Control c → refusal_of ds a d ≡ 0 → verdict_for (action_of c) (added_of ds) d ≡ Ok tt
  unfolding refusal_of number_for
  accepted_control c is e = zero_is_fine (verdict_for (action_of c) (added_of ds) d) (rw is at e)

  R_runs : received_of ds ≡ D.Control Run → refusal_of ds a d ≡ 0 → Runs text next
  R_runs is e =
      rw (by_control Run is, begins (added_of ds) d k.stored (accepted_control Run is e))
      (record { running = refl; start = refl; loops = refl; whole = k.whole })

  T_keeps : received_of ds ≡ D.Control Stop → Keeps text next
  T_keeps is = rw (by_control Stop is, stays (added_of ds) d k.stored) (record { stored = k.stored; whole = k.whole })

  report_keeps : is_report (received_of ds) ≡ true → Keeps text next
  report_keeps is = rw (reports_leave_everything ds a d f buf is).device k

  refused_keeps : (refusal_of ds a d ≡ 0 → ⊥) → Keeps text next
  refused_keeps why =
      let left = a_refused_frame_leaves_the_error_only ds a d f buf why in
      go (is_report (received_of ds)) left.core left.text
    where
      go : (x : Bool) → next.core ≡ (if x then d.core else core_error (refusal_of ds a d) (column_after (received_of ds) d.core.course.misread) d.core) → next.text ≡ d.text → Keeps text next
      go true c t = record { stored = rw c k.stored; whole = rw (c, t) k.whole }
      go false c t = record { stored = rw c k.stored; whole = rw (c, t) k.whole }

-- parts
module _ (a : Making) where
  ready_after : (calls : List Call) → Ready (after a calls).device.core (after a calls).device.text
  ready_after calls = let sound = every_controller_is_sound a calls in record { valid = sound.valid.core; long = sound.sized.text }

  -- a string that is accepted, behind what stands before it
  module _ (calls : List Call) (c : Call) (ds : List ℕ) where
    abbrev later : Device
    later = (after a (calls ++ (c ∷ []))).device

    waits_with : (p : Part false a calls c ds) → Keeps (whole_of ds (after a calls).device) later
    waits_with p =
        let d = (after a calls).device in
        let buf = p.ends.buffer in
        let (m, is) = an_accepted_string_waits_or_runs_from_its_start ds p.size false p.string a.framing a.address d buf p.accepted in
        rw (ended a calls c ds p.ends) (record { stored = ap (λ (x : Course). x.state) is; whole = kept ds p.size false p.string a.framing a.address d buf (ready_after calls) p.accepted })

    runs_with : (p : Part true a calls c ds) → Runs (whole_of ds (after a calls).device) later
    runs_with p =
        let d = (after a calls).device in
        let buf = p.ends.buffer in
        let (m, is) = an_accepted_string_waits_or_runs_from_its_start ds p.size true p.string a.framing a.address d buf p.accepted in
        rw (ended a calls c ds p.ends)
        (record {
          running = ap (λ (x : Course). x.state) is;
          start = ap (λ (x : Course). x.at) is;
          loops = ap (λ (x : Course). x.loops) is;
          whole = kept ds p.size true p.string a.framing a.address d buf (ready_after calls) p.accepted;
        })

    -- what stands before it is what was loaded
    behind : (text : List ℕ) → Keeps text (after a calls).device → whole_of ds (after a calls).device ≡ text ++ body (spaceless ds)
    behind text k = rw k.stored (ap (λ (t : List ℕ). t ++ body (spaceless ds)) k.whole)

  parts_are_stored_whole : (calls : List Call) (text : List ℕ) → Loaded a calls text → Keeps text (after a calls).device
  parts_are_stored_whole calls text (first before c ds p) = waits_with before c ds p
  parts_are_stored_whole calls text (part before t c ds l p) =
      subst (λ (x : List ℕ). Keeps x (after a (before ++ (c ∷ []))).device) (behind before c ds t (parts_are_stored_whole before t l)) (waits_with before c ds p)
  parts_are_stored_whole calls text (between before t c l silent) =
      let k = parts_are_stored_whole before t l in
      rw (one_more a before c, (idle a before k.stored c silent).1) (record { stored = k.stored; whole = k.whole })
  parts_are_stored_whole calls text (report before t c ds l e is) =
      rw (ended a before c ds e) (report_keeps a.framing ds a.address (after a before).device e.buffer t (parts_are_stored_whole before t l) is)
  parts_are_stored_whole calls text (refused before t c ds l e why) =
      rw (ended a before c ds e) (refused_keeps a.framing ds a.address (after a before).device e.buffer t (parts_are_stored_whole before t l) why)
  parts_are_stored_whole calls text (Parts.stop before t c ds l e is) =
      rw (ended a before c ds e) (T_keeps a.framing ds a.address (after a before).device e.buffer t (parts_are_stored_whole before t l) is)

pub a_method_in_parts_runs_as_one_text : (a : Making) (calls : List Call) (text : List ℕ) → InParts a calls text
a_method_in_parts_runs_as_one_text a calls text =
    record {
      parts_are_stored_whole = parts_are_stored_whole a calls text;
      parts_and_R_run_as_one_text = λ c ds l e is ok. rw (ended a calls c ds e) (R_runs a.framing ds a.address (after a calls).device e.buffer text (parts_are_stored_whole a calls text l) is ok);
      parts_and_a_string_with_R_run_as_one_text =
          λ c ds l p. subst (λ (x : List ℕ). Runs x (after a (calls ++ (c ∷ []))).device) (behind a calls c ds text (parts_are_stored_whole a calls text l)) (runs_with a calls c ds p);
    }
