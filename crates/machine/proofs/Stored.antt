-- Theorems: no accepted text loses a character.
use mathlib.Core.Path.{◌≡◌}
use mathlib.Core.Bool.{Bool, true, false}
use mathlib.Core.List.{List, ◌++◌}
use Prim.Native.Nat.{ℕ, ◌+◌, ◌≤◌}
use native.Mathlib.Omega.{arith}
use borrow.Author.Tests.{le-leb}
use lib.ListN.{length, take, drop, length-append}
use lib.Seq.{take_at, length-take-le}
use Rattle.std.specs.Prelude.{Ok}
use Rattle.basics.specs.Lay.{over, fits, laid_in}
use Rattle.machine.specs.declared.Device.{Device}
use Rattle.buffer.specs.declared.order.Action.{Action}
use Rattle.buffer.specs.declared.order.Loading.{Loading}
use Rattle.buffer.specs.declared.order.Order.TheVariants as O
use Rattle.buffer.specs.Order.{order_of, kept_of, laid_by, stored_by}
use Rattle.machine.specs.Act.{done_of, acted_of, act_of}
use Rattle.machine.specs.Valid.{Ready}
use Rattle.machine.specs.Refusals.{stored_in, verdict_for}
use Rattle.machine.proofs.Refusals.{what_is_accepted_fits}

-- characters laid in from a place on, and what stands before them
pub take_laid : (xs : List ℕ) (at : ℕ) (buf : List ℕ) → at + length xs ≤ length buf → take (at + length xs) (laid_in xs at buf) ≡ take at buf ++ xs
unfolding laid_in fits over
take_laid xs at buf h =
    let l = length-take-le at buf (omega arith) in
    rw (le-leb (at + length xs) (length buf) h)
    (take_at (take at buf ++ xs) (drop (at + length xs) buf) (at + length xs) (simp length-append (omega arith)))

pub take_front : (xs buf : List ℕ) → length xs ≤ length buf → take (length xs) (laid_in xs 0 buf) ≡ xs
take_front xs buf h = let z : 0 + length xs ≡ length xs = omega arith in rw z at (take_laid xs 0 buf (omega arith))

loaded :
    (l : Loading) (added : List ℕ) (d : Device) (run : Bool) →
    take (kept_of l d.core.course.len + length added) (laid_in added (kept_of l d.core.course.len) d.text) ≡ take (kept_of l d.core.course.len) d.text ++ added →
    take (acted_of (O.Load l run) (Ok tt) (length added) d.core).next.course.len (stored_by (O.Load l run) (Ok tt) d.core.course.len added d.text) ≡
    take (kept_of l d.core.course.len) d.text ++ added
unfolding acted_of done_of stored_by laid_by
loaded l added d true e = e
loaded l added d false e = e

-- a string that is loaded, behind the stored text or instead of it: the text is what was kept, and then what came, all of it
pub a_string_that_is_loaded_is_stored_whole :
    (a : Action) (added : List ℕ) (d : Device) (l : Loading) (run : Bool) → Ready d.core d.text → verdict_for a added d ≡ Ok tt →
    order_of a d.core.course.state ≡ O.Load l run →
    stored_in (act_of a added d).next.device ≡ take (kept_of l d.core.course.len) d.text ++ added
unfolding act_of
a_string_that_is_loaded_is_stored_whole a added d l run ready accepted e =
    let c = d.core in
    let all = length-take-le c.course.len d.text (omega (arith, ready.valid.course.len, ready.long)) in
    let fit = rw (e, all) at (what_is_accepted_fits a added d accepted) in
    rw (accepted, e) (loaded l added d run (take_laid added (kept_of l c.course.len) d.text (omega (arith, ready.long))))
