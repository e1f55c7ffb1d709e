-- Laws of `specs/Controller`, one for each return of the code.
use mathlib.Core.Path.{◌≡◌}
use Prim.Native.Nat.{ℕ}
use lib.ListN.{replicate}
use Rattle.line.specs.declared.Framing.{Framing}
use Rattle.line.specs.declared.Line.{Line}
use Rattle.line.specs.Wire.{fresh_line}
use Rattle.motion.specs.declared.Sense.{Sense}
use Rattle.machine.specs.declared.Device.{Device}
use Rattle.machine.specs.declared.Turned.{Turned}
use Rattle.machine.specs.declared.Ran as Machine
use Rattle.machine.specs.Device.{fresh_of, tick_of, halted_of, advance_of, ran_of}
use Rattle.pipettor.specs.declared.address.Address.{Address}
use Rattle.pipettor.specs.declared.Controller.{Controller}
use Rattle.pipettor.specs.declared.Ticked.{Ticked}
use Rattle.pipettor.specs.Controller.{on, made_of, ticked, ticked_of, stopped_of, advanced_of, run_of}

pub is_made : (f : Framing) (a : Address) (d : Device) (l : Line) → d ≡ fresh_of.next → l ≡ fresh_line f → record { address = a; line = l; frame = replicate 320 0; device = d } ≡ (made_of f a).next
unfolding made_of
is_made f a d l e h = rw (e, h)

pub is_stopped : (k r : Controller) (d : Device) → r ≡ on d k → d ≡ (halted_of k.device).next → r ≡ (stopped_of k).next
unfolding stopped_of
is_stopped k r d p e = rw (← e) p

pub is_on : (k c : Controller) (t : Turned) → c ≡ on t.device k → record { controller = c; news = t.news } ≡ ticked t k
is_on k c t e = rw e

module _ (s : Sense) (k : Controller) (r : Ticked) (t : Turned) (p : r ≡ ticked t k) where
  pub is_ticked : t ≡ (tick_of s k.device).next → r ≡ (ticked_of s k).next
  unfolding ticked_of
  is_ticked e = rw (← e) p

  pub is_advanced : (n : ℕ) → t ≡ advance_of n s k.device → r ≡ advanced_of n s k
  unfolding advanced_of
  is_advanced n e = rw (← e) p

  pub is_run : (n : ℕ) (m : Machine.Ran) → t ≡ m.turned → m ≡ ran_of n s k.device → record { ticked = r; used = m.used } ≡ run_of n s k
  unfolding run_of
  is_run n m q e = rw (p, q, e)
