-- `specs/Promises` says what the contracts say: each is the one that the compiler reads from `pipettor/src/lib.rt`, of a method's arguments, its result and what is left of what was lent.
use mathlib.Core.Path.{◌≡◌, refl}
use mathlib.Core.Bool.{Bool}
use mathlib.Core.List.{List}
use Prim.Native.Nat.{ℕ}
use contract.Lifetimes.{Lfts}
use denote.Ref.{Bor}
use denote.MutBor.{MutBor}
use Rattle.std.specs.Prelude.{Result}
use Rattle.pipettor.specs.declared.address.S2.{S2}
use Rattle.line.specs.declared.Framing.{Framing}
use Rattle.motion.specs.declared.Sense.{Sense}
use Rattle.pipettor.specs.declared.address.Address.{Address}
use Rattle.pipettor.specs.declared.Controller.{Controller}
use Rattle.pipettor.specs.declared.Reply.{Reply}
use Rattle.pipettor.specs.declared.Listened.{Listened}
use Rattle.pipettor.specs.declared.Ticked.{Ticked}
use Rattle.pipettor.specs.declared.Ran.{Ran}
use Rattle.pipettor.specs.Valid.{Valid}
use Rattle.pipettor.proofs.address.AddressTryFromU32.try_from.Reads as Of
use Rattle.pipettor.proofs.Controller.fresh.Reads as Fresh
use Rattle.pipettor.proofs.Controller.byte.Reads as Byte
use Rattle.pipettor.proofs.Controller.listen.Reads as Listen
use Rattle.pipettor.proofs.Controller.tick.Reads as Tick
use Rattle.pipettor.proofs.Controller.stop.Reads as Stop
use Rattle.pipettor.proofs.Controller.advance.Reads as Advance
use Rattle.pipettor.proofs.Controller.run.Reads as Run
use Rattle.pipettor.proofs.Controller.framing.Reads as FramingMethod
use Rattle.pipettor.proofs.Controller.ready.Reads as Ready
use Rattle.pipettor.specs.Address.{address_of}
use Rattle.pipettor.specs.Byte.{byte_of}
use Rattle.pipettor.specs.Listening.{listened_of}
use Rattle.pipettor.specs.Controller.{ticked_of, stopped_of, advanced_of, run_of, framing_is, ready_is}
use Rattle.pipettor.proofs.Keeps.{Sized, made_is_valid, tick_keeps, stop_keeps_valid, advance_keeps, run_keeps, byte_keeps, listen_keeps_valid}
use Rattle.demands.specs.Calls.{made, Call, byte, listen, tick, stop, advance, run, call_of}
use Rattle.demands.specs.Promises.{Program, makes, Meets, GivenEnsures, FreshEnsures, ByteEnsures, ListenEnsures, TickEnsures, StopEnsures, AdvanceEnsures, RunEnsures, FramingEnsures, ReadyEnsures}
use Rattle.demands.proofs.Sound.{call_keeps_sized, made_is_sized}

-- a contract's two parts: what it asks, and what it ensures
pub record Says (asked asks ensured ensures : Type 0) : Type 1 where
  pub asked_is : asked ≡ asks
  pub ensured_is : ensured ≡ ensures

module _ (κs : Lfts 0) where
  pub of_says : (n : ℕ) (r : Result Address S2) → Says (Of.Asked κs (n, tt)) (Unit {0}) (Of.Learnt κs (n, tt) r (n, tt)) (GivenEnsures n r)
  of_says n r = record { asked_is = refl; ensured_is = refl }

  pub fresh_says : (f : Framing) (a : Address) (r : Controller) → Says (Fresh.Asked κs (f, (a, tt))) (Unit {0}) (Fresh.Learnt κs (f, (a, tt)) r (f, (a, tt))) (FreshEnsures f a r)
  fresh_says f a r = record { asked_is = refl; ensured_is = refl }

  module _ (k : Controller) where
    pub tick_says : (s : Sense) (r : Ticked) → Says (Tick.Asked κs (k, (s, tt))) (Valid k) (Tick.Learnt κs (k, (s, tt)) r (k, (s, tt))) (TickEnsures k s r)
    tick_says s r = record { asked_is = refl; ensured_is = refl }

    pub stop_says : (r : Controller) → Says (Stop.Asked κs (k, tt)) (Unit {0}) (Stop.Learnt κs (k, tt) r (k, tt)) (StopEnsures k r)
    stop_says r = record { asked_is = refl; ensured_is = refl }

    pub advance_says : (n : ℕ) (s : Sense) (r : Ticked) → Says (Advance.Asked κs (k, (n, (s, tt)))) (Valid k) (Advance.Learnt κs (k, (n, (s, tt))) r (k, (n, (s, tt)))) (AdvanceEnsures k n s r)
    advance_says n s r = record { asked_is = refl; ensured_is = refl }

    pub run_says : (n : ℕ) (s : Sense) (r : Ran) → Says (Run.Asked κs (k, (n, (s, tt)))) (Valid k) (Run.Learnt κs (k, (n, (s, tt))) r (k, (n, (s, tt)))) (RunEnsures k n s r)
    run_says n s r = record { asked_is = refl; ensured_is = refl }

    pub framing_says : (r : Framing) → Says (FramingMethod.Asked κs (k, tt)) (Unit {0}) (FramingMethod.Learnt κs (k, tt) r (k, tt)) (FramingEnsures k r)
    framing_says r = record { asked_is = refl; ensured_is = refl }

    pub ready_says : (r : Bool) → Says (Ready.Asked κs (k, tt)) (Unit {0}) (Ready.Learnt κs (k, tt) r (k, tt)) (ReadyEnsures k r)
    ready_says r = record { asked_is = refl; ensured_is = refl }

-- the buffer as it was lent, and as it is left
pub byte_says :
    (κs : Lfts 1) (k : Controller) (b : ℕ) (lent left : MutBor (List ℕ)) (r : Reply) →
    Says (Byte.Asked κs (k, (b, (lent, tt)))) (Valid k) (Byte.Learnt κs (k, (b, (lent, tt))) r (k, (b, (left, tt)))) (ByteEnsures k b (record { buffer = lent.now }) r (record { buffer = left.now }))
byte_says κs k b lent left r = record { asked_is = refl; ensured_is = refl }

-- the bytes as they are lent
pub listen_says :
    (κs : Lfts 1) (k : Controller) (lent left : Bor (List ℕ)) (r : Listened) →
    Says (Listen.Asked κs (k, (lent, tt))) (Unit {0}) (Listen.Learnt κs (k, (lent, tt)) r (k, (left, tt))) (ListenEnsures k lent.now r)
listen_says κs k lent left r = record { asked_is = refl; ensured_is = refl }

-- the contracts can be met: the definition does
abbrev defined : Program
defined =
    record {
      Holds = Sized;
      Takes = λ c. Unit {0};
      given = address_of;
      fresh = λ a. (made a).next;
      byte = λ k b l. (let r = (byte_of k b l.buffer).next in record { reply = r.reply; left = record { buffer = r.buffer } });
      listen = listened_of;
      tick = λ k s. (ticked_of s k).next;
      stop = λ k. (stopped_of k).next;
      advance = λ k n s. advanced_of n s k;
      run = λ k n s. run_of n s k;
      framing = framing_is;
      ready = ready_is;
    }

stays_sized : (c : Call) (k : Controller) → Sized k → Valid k → Sized (makes defined c k).controller
unfolding makes call_of
stays_sized (byte b l) k s v = call_keeps_sized (byte b l) k s v
stays_sized (listen bytes) k s v = call_keeps_sized (listen bytes) k s v
stays_sized (tick x) k s v = call_keeps_sized (tick x) k s v
stays_sized stop k s v = call_keeps_sized stop k s v
stays_sized (advance n x) k s v = call_keeps_sized (advance n x) k s v
stays_sized (run n x) k s v = call_keeps_sized (run n x) k s v

pub the_contracts_can_be_met : Meets defined
the_contracts_can_be_met =
    record {
      given = λ n. refl;
      fresh = λ a. record { is = refl; again = made_is_valid a.framing a.address };
      byte = λ k b l s t v. record { is = refl; again = byte_keeps k b l.buffer s.text v };
      listen = λ k bytes s t. record { is = refl; again = listen_keeps_valid k bytes };
      tick = λ k x s t v. record { is = refl; again = tick_keeps k v x };
      stop = λ k s t. record { is = refl; again = stop_keeps_valid k };
      advance = λ k n x s t v. record { is = refl; again = advance_keeps k v n x };
      run = λ k n x s t v. record { is = refl; again = run_keeps k v n x };
      framing = λ k s. refl;
      ready = λ k s. refl;
      fresh_held = made_is_sized;
      held = λ c k s t v. stays_sized c k s v;
    }
