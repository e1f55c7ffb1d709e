-- Theorems: a text of up to 256 characters is stored whole, and a longer one refused. Nothing is ever cut.
use mathlib.Core.Path.{◌≡◌, refl, sym, ap, ◌∙◌}
use mathlib.Core.Bool.{Bool, true, false}
use mathlib.Core.List.{List, [], ◌++◌}
use Prim.Native.Nat.{ℕ, ◌+◌, ◌≤◌, ◌<◌}
use native.Mathlib.Omega.{arith}
use borrow.Author.Tests.{le-ltb, lt-ltb}
use lib.Dec.{ltb}
use lib.ListN.{length, length-append}
use lib.Seq.{length-take-le, take-length}
use Rattle.std.specs.Prelude.{if◌then◌else◌, Err, Ok}
use Rattle.basics.proofs.Choice.{by}
use Rattle.text.specs.declared.Data.{Data}
use Rattle.text.specs.declared.Data.TheVariants as D
use Rattle.text.specs.Data.{spaceless, body, data_of, received_of}
use Rattle.text.proofs.Strings.{a_text_stands_in_front}
use Rattle.line.specs.declared.Framing.{Framing}
use Rattle.buffer.specs.declared.course.State.{State}
use Rattle.buffer.specs.Course.{begun, waiting}
use Rattle.machine.specs.declared.Device.{Device}
use Rattle.command.specs.declared.refusal.Refusal.TheVariants as R
use Rattle.command.specs.Numbers.{verdict_number}
use Rattle.buffer.specs.declared.order.Loading.TheVariants.{Joined, Replacing}
use Rattle.buffer.specs.declared.order.Order.{Order}
use Rattle.buffer.specs.declared.order.Order.TheVariants as O
use Rattle.machine.specs.Device.{device}
use Rattle.buffer.specs.Order.{cell_of, order_of, loops_by, sized, verdict_of, laid_by, stored_by}
use Rattle.machine.specs.Act.{done_of, acted_of, act_of}
use Rattle.machine.specs.Refusals.{stored_in}
use Rattle.machine.proofs.Stored.{take_laid}
use Rattle.pipettor.specs.declared.address.Address.{Address}
use Rattle.pipettor.specs.Byte.{string_action, task_of, performed_of, dealt_of}
use Rattle.frames.specs.Frame.{added_of, exchange_of}
use Rattle.frames.specs.Refused.{number_for, refusal_of}
use Rattle.frames.specs.Limits.{Takes, empty, stopped, done, stored, delaying, front_of, front_in, whole_of, LoopsRight, Holds, Accepts, RefusesWith}
use Rattle.frames.proofs.Counts.{refuses}

-- loops that are right where they are asked for
right : (run loops : Bool) → (run ≡ true → loops ≡ true) → (if run then loops else true) ≡ true
right true loops h = h refl
right false loops h = refl

-- an order that loads a text, and what stands before it
data TakesText (run : Bool) (text : List ℕ) : Order → List ℕ → Type 0 where
  alone : TakesText run text (O.Load Replacing run) []
  behind : TakesText run text (O.Load Joined run) text

takes_text : (run : Bool) (s : State) (text : List ℕ) → Takes run s → TakesText run text (order_of (string_action run) s) (front_of s text)
unfolding cell_of
takes_text true s text (empty r) = alone
takes_text false s text (empty r) = alone
takes_text true s text (stopped r) = alone
takes_text false s text (stopped r) = alone
takes_text true s text (done r) = alone
takes_text false s text (done r) = alone
takes_text true s text (stored r) = behind
takes_text false s text (stored r) = behind
takes_text run s text (delaying k) = alone

module _ (run : Bool) (added : List ℕ) (d : Device) (len : d.core.course.len ≤ 256) (long : length d.text ≡ 256) where
  kept_length : length (stored_in d) ≡ d.core.course.len
  kept_length = length-take-le d.core.course.len d.text (omega arith)

  taken :
      (o : Order) (front : List ℕ) → TakesText run (stored_in d) o front → length (front ++ added) ≤ 256 → LoopsRight run front added →
      verdict_of o (stored_in d) added ≡ Ok tt
  unfolding verdict_of sized loops_by
  taken o front alone h loops =
      let z : 0 + length added ≤ 256 = omega arith in
      rw (le-ltb 256 (0 + length added) z, right run _ loops)
  taken o front behind h loops =
      let z : length (stored_in d) + length added ≤ 256 = rw (length-append (stored_in d) added) at h in
      rw (le-ltb 256 (length (stored_in d) + length added) z, take-length (stored_in d), right run _ loops)

  refused : (o : Order) (front : List ℕ) → TakesText run (stored_in d) o front → 256 < length (front ++ added) → verdict_of o (stored_in d) added ≡ Err R.TooLong
  unfolding verdict_of sized
  refused o front alone h = rw (lt-ltb 256 (0 + length added) (omega arith))
  refused o front behind h = rw (lt-ltb 256 (length (stored_in d) + length added) (rw (length-append (stored_in d) added) at h))

  loaded_length : (x : Bool) (n : ℕ) → (if x then begun n d.core.course else waiting n d.core.course).len ≡ n
  loaded_length true n = refl
  loaded_length false n = refl

  held :
      (o : Order) (front : List ℕ) → TakesText run (stored_in d) o front → length (front ++ added) ≤ 256 →
      Holds (front ++ added) (device (stored_by o (Ok tt) d.core.course.len added d.text) d.tip (acted_of o (Ok tt) (length added) d.core).next)
  unfolding stored_by laid_by acted_of done_of
  held o front alone h =
      let z : 0 + length added ≡ length added = omega arith in
      record { len = loaded_length run (0 + length added) ∙ z; text = rw z at (take_laid added 0 d.text (omega arith)) }
  held o front behind h =
      let n : length (stored_in d ++ added) ≡ d.core.course.len + length added = length-append (stored_in d) added ∙ ap (λ (m : ℕ). m + length added) kept_length in
      record { len = loaded_length run (d.core.course.len + length added) ∙ sym n; text = rw n (take_laid added d.core.course.len d.text (omega arith)) }

-- a text is read within 320 bytes
text_read : (ds : List ℕ) (n : ℕ) (run : Bool) → received_of ds ≡ D.Text n run → data_of (spaceless ds) ≡ D.Text n run
unfolding received_of
text_read ds n run =
    by (λ (x : Data). x ≡ D.Text n run → data_of (spaceless ds) ≡ D.Text n run) (ltb 320 (length ds))
    (λ h e. let z : ◌≡◌ {A = ℕ} 0 1 = cc in absurd (omega arith))
    (λ h e. e)

-- data that are a string, in a state that takes it
module _ (ds : List ℕ) (n : ℕ) (run : Bool) (is : received_of ds ≡ D.Text n run) where
  pub added_body : added_of ds ≡ body (spaceless ds)
  unfolding added_of
  added_body = rw is (a_text_stands_in_front n run (spaceless ds) (text_read ds n run is)).front

  added_length : length (added_of ds) ≡ n
  unfolding added_of
  added_length = rw is (length-take-le n (spaceless ds) (a_text_stands_in_front n run (spaceless ds) (text_read ds n run is)).short)

  pub the_size_of_a_text : n ≡ length (body (spaceless ds))
  the_size_of_a_text = sym added_length ∙ ap (λ (t : List ℕ). length t) added_body

  module _ (a : Address) (d : Device) (f : Framing) (buf : List ℕ) where
    abbrev order : Order
    order = order_of (string_action run) d.core.course.state

    text_number : refusal_of ds a d ≡ verdict_number (verdict_of order (stored_in d) (added_of ds))
    unfolding refusal_of number_for
    text_number = rw is

    text_device : verdict_of order (stored_in d) (added_of ds) ≡ Ok tt → (exchange_of f ds a d buf).next.device ≡ device (stored_by order (Ok tt) d.core.course.len (added_of ds) d.text) d.tip (acted_of order (Ok tt) (length (added_of ds)) d.core).next
    unfolding exchange_of dealt_of task_of performed_of act_of
    text_device e = rw (is, e)

    module _ (takes : Takes run d.core.course.state) (len : d.core.course.len ≤ 256) (long : length d.text ≡ 256) where
      way : TakesText run (stored_in d) order (front_in d)
      way = takes_text run d.core.course.state (stored_in d) takes

      -- "Text holds at most 256 characters": the whole of it is stored, and nothing else
      pub a_text_of_up_to_256_is_stored_whole :
          length (whole_of ds d) ≤ 256 → LoopsRight run (front_in d) (body (spaceless ds)) → Accepts f (whole_of ds d) ds a d buf
      a_text_of_up_to_256_is_stored_whole h loops =
          let code = taken run (added_of ds) d len long order (front_in d) way (rw added_body h) (rw added_body loops) in
          record {
            number = text_number ∙ ap verdict_number code;
            holds = rw (text_device code, ← added_body) (held run (added_of ds) d len long order (front_in d) way (rw added_body h));
          }

      -- and one character more is refused, the device keeping its text
      pub a_text_of_more_than_256_is_refused : 256 < length (whole_of ds d) → RefusesWith f 15 ds a d buf
      a_text_of_more_than_256_is_refused h =
          refuses 15 ds a d f buf (λ e. omega arith) (text_number ∙ ap verdict_number (refused run (added_of ds) d len long order (front_in d) way (rw added_body h)))
