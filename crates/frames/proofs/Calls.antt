-- Theorems: S1, S2 and S3, each exactly where 01's table gives it, and what it leaves.
use mathlib.Core.Path.{◌≡◌, refl}
use mathlib.Core.Logic.{◌⊎◌, inl, inr}
use mathlib.Core.Bool.{Bool, true, false}
use mathlib.Core.List.{List}
use Prim.Native.Nat.{ℕ, ◌≤◌, ◌<◌}
use native.Mathlib.Omega.{arith}
use borrow.Author.Tests.{ltb-true, ltb-false, lt-ltb, eqb-false, ne_eqb}
use lib.Dec.{ltb, eqb}
use lib.ListN.{length}
use Rattle.std.specs.Prelude.{if◌then◌else◌, Err, None, Ok, Option, Result, Some}
use Rattle.pipettor.specs.declared.address.S2.{S2}
use Rattle.pipettor.specs.Said.{s1, s2}
use Rattle.machine.specs.Used.{s3}
use Rattle.line.specs.declared.Report.{Report}
use Rattle.basics.specs.Exactly.{Exactly}
use Rattle.basics.proofs.Choice.{by}
use Rattle.line.specs.declared.Framing.{Framing}
use Rattle.motion.specs.Events.{Turn, quiet}
use Rattle.machine.specs.declared.Ran as Machine
use Rattle.motion.specs.declared.Sense.{Sense}
use Rattle.machine.specs.Device.{ran_of}
use Rattle.pipettor.specs.declared.address.Address.{Address}
use Rattle.pipettor.specs.declared.Controller.{Controller}
use Rattle.pipettor.specs.Address.{address_of}
use Rattle.pipettor.specs.Byte.{After, after, reply, said_of, dealt_of, heard_of, byte_of}
use Rattle.pipettor.specs.Controller.{run_of}

-- what is heard is never answered with (Err s1)
never_s1 : {G : Type 0} (f : Framing) (o : Option (Report × ℕ)) (ready : Bool) → said_of f o ready ≡ Err s1 → G
unfolding said_of
never_s1 f None ready e = let z : ◌≡◌ {A = ℕ} 0 1 = cc in absurd (omega arith)
never_s1 f (Some (report, code)) ready e = let z : ◌≡◌ {A = ℕ} 0 1 = cc in absurd (omega arith)

-- "S1: answer buffer lent is shorter than 32 bytes: controller and buffer unchanged"
module _ (k : Controller) (b : ℕ) (buf : List ℕ) where
  pub a_short_buffer_is_s1 : Exactly ((byte_of k b buf).next.reply.said ≡ Err s1) (length buf < 32)
  unfolding byte_of heard_of dealt_of
  a_short_buffer_is_s1 = record {
    only = by (λ (t : Turn After). t.next.reply.said ≡ Err s1 → length buf < 32) (ltb (length buf) 32) (λ h e. ltb-true (length buf) 32 h) (λ h e. never_s1 _ _ _ e);
    always = λ h. rw (lt-ltb (length buf) 32 h);
  }

  pub s1_changes_nothing : length buf < 32 → byte_of k b buf ≡ quiet (after (reply k (Err s1)) buf)
  unfolding byte_of
  s1_changes_nothing h = rw (lt-ltb (length buf) 32 h)

-- "S2: address outside 1 to 9 at making: no controller is made"
module _ (n : ℕ) where
  above : (m : ℕ) (a : Address) (g : Result Address S2) → m ≤ n → (if eqb n m then Ok a else g) ≡ Err s2 → (m < n) × (g ≡ Err s2)
  above m a g l = go (eqb n m) (eqb-false n m)
    where
      go : (t : Bool) → (t ≡ false → n ≡ m → ⊥) → (if t then Ok a else g) ≡ Err s2 → (m < n) × (g ≡ Err s2)
      go true h e = let z : ◌≡◌ {A = ℕ} 0 1 = cc in absurd (omega arith)
      go false h e = (omega (arith, h refl), e)

  above_nine : 1 ≤ n → address_of n ≡ Err s2 → 9 < n
  unfolding address_of
  above_nine l e =
      let one = above 1 _ _ l e in
      let two = above 2 _ _ one.0 one.1 in
      let three = above 3 _ _ two.0 two.1 in
      let four = above 4 _ _ three.0 three.1 in
      let five = above 5 _ _ four.0 four.1 in
      let six = above 6 _ _ five.0 five.1 in
      let seven = above 7 _ _ six.0 six.1 in
      let eight = above 8 _ _ seven.0 seven.1 in
      (above 9 _ _ eight.0 eight.1).0

  only_s2 : address_of n ≡ Err s2 → (n ≡ 0) ⊎ (9 < n)
  only_s2 e =
      by (λ (t : Bool). (n ≡ 0) ⊎ (9 < n)) (ltb 0 n) {a = true} {b = true}
      (λ h. inr (above_nine (ltb-true 0 n h) e))
      (λ h. inl (omega (arith, ltb-false 0 n h)))

  always_s2 : (n ≡ 0) ⊎ (9 < n) → address_of n ≡ Err s2
  unfolding address_of
  always_s2 (inl h) = rw h
  always_s2 (inr h) =
      let other : (m : ℕ) → m ≤ 9 → eqb n m ≡ false = λ m l. ne_eqb n m (λ e. omega arith) in
      rw (other 1 (omega arith), other 2 (omega arith), other 3 (omega arith), other 4 (omega arith), other 5 (omega arith), other 6 (omega arith), other 7 (omega arith), other 8 (omega arith), other 9 (omega arith))

  pub an_address_outside_1_to_9_is_s2 : Exactly (address_of n ≡ Err s2) ((n ≡ 0) ⊎ (9 < n))
  an_address_outside_1_to_9_is_s2 = record { only = only_s2; always = always_s2 }

-- "S3: more than 60000 ticks asked of a run: nothing changed"
module _ (n : ℕ) (s : Sense) (k : Controller) where
  pub more_than_60000_ticks_are_s3 : Exactly ((run_of n s k).used ≡ Err s3) (60000 < n)
  unfolding run_of ran_of
  more_than_60000_ticks_are_s3 = record {
    only = by (λ (r : Machine.Ran). r.used ≡ Err s3 → 60000 < n) (ltb 60000 n) (λ h e. ltb-true 60000 n h) (λ h e. let z : ◌≡◌ {A = ℕ} 0 1 = cc in absurd (omega arith));
    always = λ h. rw (lt-ltb 60000 n h);
  }

  pub s3_changes_nothing : 60000 < n → (run_of n s k).ticked.controller ≡ k
  unfolding run_of ran_of
  s3_changes_nothing h = rw (lt-ltb 60000 n h)
