-- What is taken is written just so: writing is the inverse of reading.
use mathlib.Core.Path.{◌≡◌, refl, sym, ap, ◌∙◌}
use mathlib.Core.Bool.{true, ◌&&◌, false≢true}
use mathlib.Core.List.{List, [], ◌∷◌}
use Prim.Native.Nat.{ℕ, zero, suc}
use native.Mathlib.Omega.{arith}
use lib.Dec.{ltb, leb}
use lib.ListN.{length, get_or}
use Rattle.std.specs.Prelude.{Err, Ok, Result}
use Rattle.pipettor.specs.declared.address.S2.{S2}
use Rattle.pipettor.specs.declared.address.Address.{Address}
use Rattle.pipettor.specs.Address.{address_of}
use Rattle.machine.specs.Valid as Machine
use Rattle.image.specs.declared.receiver.Held.{Held}
use Rattle.image.specs.declared.progress.Progress.{Progress}
use Rattle.image.specs.Receiver.{held_of, same_held}
use Rattle.image.specs.Progress.{progress_of, state_by, same_progress}
use Rattle.image.specs.Sound.{flag_of, sound_of}
use Rattle.image.specs.Image.{held_in, line_in, is_line, LineWritten, progress_at, pose_in, is_pose, PoseWritten}
use Rattle.host.specs.Host.{Receiver, Mover, Memory, memory, address_number, address_in, address_held, received, moved, encode_of, line_held, receives, pose_held, device_held, moves, controller_held, addressed, is_image}
use Rattle.host.specs.Session.{Sized, Encodes, Holds}
use Rattle.std.proofs.lemmas.Bool.{and_parts}
use Rattle.image.proofs.Sounding.{sound_valid}
use Rattle.host.proofs.Calls.{received_is, moved_is}

-- a list, place by place
abbrev pub build : ℕ → (ℕ → ℕ) → List ℕ
build zero f = []
build (suc n) f = f 0 ∷ build n (λ i. f (suc i))

none : (m : ℕ) → suc m ≡ zero → ⊥
none m e = omega arith

less : (m n : ℕ) → suc m ≡ suc n → m ≡ n
less m n e = omega arith

pub built : (n : ℕ) (w : List ℕ) → length w ≡ n → build n (λ i. get_or w i 0) ≡ w
built zero [] e = refl
built zero (x ∷ w) e = absurd (none (length w) e)
built (suc n) [] e = absurd (none n (sym e))
built (suc n) (x ∷ w) e = ap (λ (l : List ℕ). x ∷ l) (built n w (less (length w) n e))

-- numbers that are the same, one by one
held_is : (a b : Held) → same_held a b ≡ true → a ≡ b
unfolding same_held
held_is a b e = grind arith

progress_is : (a b : Progress) → same_progress a b ≡ true → a ≡ b
unfolding same_progress
progress_is a b e = grind arith

-- the receiver
module _ (l c : List ℕ) (h : length l ≡ 4) (i : length c ≡ 1) (e : is_line l c ≡ true) where
  told_so : held_of (line_in l c) ≡ held_in l c
  unfolding is_line
  told_so = held_is (held_of (line_in l c)) (held_in l c) e

  pub line_just : LineWritten (line_in l c) l c
  line_just =
      record {
        line = sym (ap (λ (x : Held). x.tag ∷ x.owner ∷ x.sequence ∷ x.sum ∷ []) told_so ∙ built 4 l h);
        count = sym (ap (λ (x : Held). x.count ∷ []) told_so ∙ built 1 c i);
      }

-- the device
flag_just : (b : ℕ) → leb b 1 ≡ true → flag_of (ltb 0 b) ≡ b
flag_just b e = grind arith

abbrev words_with : List ℕ → Progress → List ℕ
words_with n g =
    get_or n 0 0 ∷ get_or n 1 0 ∷ get_or n 2 0 ∷ get_or n 3 0 ∷ get_or n 4 0 ∷ get_or n 5 0 ∷ get_or n 6 0 ∷ get_or n 7 0 ∷ get_or n 8 0 ∷ get_or n 9 0 ∷
    get_or n 10 0 ∷ get_or n 11 0 ∷ get_or n 12 0 ∷ get_or n 13 0 ∷ get_or n 14 0 ∷ get_or n 15 0 ∷ get_or n 16 0 ∷ get_or n 17 0 ∷ get_or n 18 0 ∷ get_or n 19 0 ∷
    g.from ∷ g.goal ∷ g.speed ∷ g.ticks ∷ g.zero ∷ g.count ∷ []

module _ (w n s : List ℕ) (e : is_pose (pose_in w n s) n s ≡ true) where
  going_so : progress_of (state_by (progress_at n s)) ≡ progress_at n s
  unfolding is_pose pose_in
  going_so = progress_is (progress_of (state_by (progress_at n s))) (progress_at n s) (and_parts _ _ e).0

  flags : (leb (get_or s 0 0) 1 ≡ true) × ((leb (get_or s 3 0) 1 ≡ true) × (sound_of (pose_in w n s).core ≡ true))
  unfolding is_pose
  flags = grind arith

  pub pose_valid : Machine.Valid (pose_in w n s).core
  pose_valid = sound_valid (pose_in w n s).core flags.1.1

  pub pose_just : length w ≡ 8 → length n ≡ 26 → length s ≡ 4 → PoseWritten (pose_in w n s) w n s
  unfolding pose_in
  pose_just hw hn hs =
      record {
        wide = sym (built 8 w hw);
        words = sym (ap (words_with n) going_so ∙ built 26 n hn);
        small =
            sym
            (ap (λ (b : ℕ). b ∷ (progress_of (state_by (progress_at n s))).tag ∷ get_or s 2 0 ∷ flag_of (ltb 0 (get_or s 3 0)) ∷ []) (flag_just (get_or s 0 0) flags.0) ∙
            (ap (λ (g : Progress). get_or s 0 0 ∷ g.tag ∷ get_or s 2 0 ∷ flag_of (ltb 0 (get_or s 3 0)) ∷ []) going_so ∙
            (ap (λ (b : ℕ). get_or s 0 0 ∷ get_or s 1 0 ∷ get_or s 2 0 ∷ b ∷ []) (flag_just (get_or s 3 0) flags.1.0) ∙ built 4 s hs)));
      }

module _ (m : Memory) (z : Sized m) where
  pub mover_just : moves m.mover ≡ true → moved (device_held m.mover) ≡ m.mover
  mover_just e =
      sym (moved_is (pose_held m.mover) m.mover.wide m.mover.words m.mover.small m.mover.text (pose_just m.mover.wide m.mover.words m.mover.small e z.wide z.words z.small))

-- the address
number_is : (x : ℕ) (o : Address) → address_of x ≡ Ok o → address_number o ≡ x
unfolding address_of
number_is x o e = grind arith

address_just : (a : List ℕ) (o : Address) → length a ≡ 1 → address_in a ≡ Ok o → address_number o ∷ [] ≡ a
unfolding address_in
address_just a o h e = ap (λ (b : ℕ). b ∷ []) (number_is (get_or a 0 0) o e) ∙ built 1 a h

-- the whole: the controller that is read is within the bounds, and is written as what it was read from
module _ (m : Memory) (z : Sized m) where
  written_so : (o : Address) → address_held m ≡ Ok o → (receives m.receiver && moves m.mover) ≡ true → Encodes (controller_held o m) m
  unfolding encode_of
  written_so o a e =
      record {
        valid = record { core = pose_valid m.mover.wide m.mover.words m.mover.small (and_parts (receives m.receiver) _ e).1 };
        is =
            ap (λ (x : List ℕ). memory x (received (line_held m.receiver) m.receiver.frame) (moved (device_held m.mover))) (address_just m.address o z.address a) ∙
            (ap (λ (r : Receiver). memory m.address r (moved (device_held m.mover)))
            (sym (received_is (line_held m.receiver) m.receiver.line m.receiver.count m.receiver.frame (line_just m.receiver.line m.receiver.count z.line z.count (and_parts _ _ e).0))) ∙
            ap (λ (v : Mover). memory m.address m.receiver v) (mover_just m z (and_parts (receives m.receiver) _ e).1));
      }

  pub image_holds : is_image m ≡ true → Holds m
  unfolding is_image addressed
  image_holds e = go (address_held m) refl e
    where
      go : (g : Result Address S2) → address_held m ≡ g → (addressed g && (receives m.receiver && moves m.mover)) ≡ true → Holds m
      go (Ok o) a h = (controller_held o m, written_so o a h)
      go (Err _) a h = absurd (false≢true h)

  pub image_written : is_image m ≡ true → (o : Address) → address_held m ≡ Ok o → encode_of (controller_held o m) ≡ m
  unfolding is_image addressed
  image_written e o a = (written_so o a (and_parts (addressed (address_held m)) _ e).1).is
