-- What a method hands back is what its definition says, and its controller can be called again: one law for each method.
use mathlib.Core.Path.{◌≡◌}
use mathlib.Core.List.{List}
use Prim.Native.Nat.{ℕ, ◌<◌}
use lib.ListN.{length}
use Rattle.std.specs.Prelude.{Err}
use Rattle.pipettor.specs.Said.{s1}
use Rattle.line.specs.declared.Framing.{Framing}
use Rattle.motion.specs.declared.Sense.{Sense}
use Rattle.machine.specs.Valid as Machine
use Rattle.pipettor.specs.declared.address.Address.{Address}
use Rattle.pipettor.specs.declared.Controller.{Controller}
use Rattle.pipettor.specs.declared.Ticked.{Ticked}
use Rattle.pipettor.specs.declared.Ran.{Ran}
use Rattle.pipettor.specs.declared.Listened.{Listened}
use Rattle.pipettor.specs.Valid.{Valid}
use Rattle.pipettor.specs.Returns.{Returns, Keeps}
use Rattle.pipettor.specs.Byte.{after, reply, byte_of}
use Rattle.pipettor.specs.Controller.{made_of, ticked_of, stopped_of, advanced_of, run_of}
use Rattle.pipettor.specs.Listening.{listened_of}
use Rattle.pipettor.proofs.Bytes.{short}
use Rattle.pipettor.proofs.Keeps.{made_is_valid, tick_keeps, stop_keeps_valid, advance_keeps, run_keeps, listen_keeps_valid}

pub made_returns : (f : Framing) (a : Address) (r : Controller) → r ≡ (made_of f a).next → Returns r (made_of f a).next r
made_returns f a r e = record { is = e; again = rw e (made_is_valid f a) }

module _ (k : Controller) where
  pub tick_returns : (s : Sense) (r : Ticked) → Valid k → r ≡ (ticked_of s k).next → Returns r (ticked_of s k).next r.controller
  tick_returns s r v e = record { is = e; again = rw e (tick_keeps k v s) }

  pub advance_returns : (n : ℕ) (s : Sense) (r : Ticked) → Valid k → r ≡ advanced_of n s k → Returns r (advanced_of n s k) r.controller
  advance_returns n s r v e = record { is = e; again = rw e (advance_keeps k v n s) }

  pub run_returns : (n : ℕ) (s : Sense) (r : Ran) → Valid k → r ≡ run_of n s k → Returns r (run_of n s k) r.ticked.controller
  run_returns n s r v e = record { is = e; again = rw e (run_keeps k v n s) }

  pub stop_keeps : (r : Controller) → r ≡ (stopped_of k).next → Keeps r (stopped_of k).next k r
  stop_keeps r e = record { is = e; again = λ v. rw e (stop_keeps_valid k v) }

  pub listen_keeps : (bytes : List ℕ) (r : Listened) → r ≡ listened_of k bytes → Keeps r (listened_of k bytes) k r.controller
  listen_keeps bytes r e = record { is = e; again = λ v. rw e (listen_keeps_valid k bytes v) }

-- a byte that isn't heard
pub short_returns : (k : Controller) (b : ℕ) (buf : List ℕ) → Machine.Valid k.device.core → length buf < 32 → Returns (after (reply k (Err s1)) buf) (byte_of k b buf).next k
short_returns k b buf v h = record { is = short k b buf h; again = record { core = v } }

-- what a program goes by that calls a method which asks nothing
pub kept : {A : Type 0} (r said : A) (before left : Controller) → Keeps r said before left → Valid before → Valid left
kept r said before left k v = k.again v
