-- What holds across the door, for every memory and every list of calls.
use Rattle.std.specs.Prelude.{◌≡◌, true, false, List, ℕ, ◌+◌, ◌<◌, Ok}
use Rattle.basics.specs.Exactly.{Exactly}
use Rattle.line.specs.declared.Framing.{Framing}
use Rattle.pipettor.specs.declared.address.Address.{Address}
use Rattle.pipettor.specs.declared.Controller.{Controller}
use Rattle.pipettor.specs.Controller.{made_of}
use Rattle.host.specs.Host.{Memory, encode_of, address_held, controller_held, s1, s2, s3, broken, unframed, plunger_in, exact_in, ready_in, error_in, is_image}
use Rattle.host.specs.Session.{Sized, Holds, Call, buffer_lent, bytes_lent, Tells, Asked, call_in, session_in, session_of}

pub record Door : Type 0 where
  -- the test of a whole image takes what some controller of making and calls' bounds is written as, and nothing else
  pub an_image_is_a_controller_written : (m : Memory) → Sized m → Exactly (is_image m ≡ true) (Holds m)
  -- reading is the inverse of writing
  pub the_address_is_read_back : (k : Controller) → address_held (encode_of k) ≡ Ok k.address
  pub what_is_written_is_read_back : (k : Controller) → controller_held k.address (encode_of k) ≡ k
  -- and writing of reading
  pub what_is_read_is_written_back : (m : Memory) → Sized m → is_image m ≡ true → (a : Address) → address_held m ≡ Ok a → encode_of (controller_held a m) ≡ m
  -- no call but making makes an image of what is none
  pub what_is_no_image_stays_none : (c : Call) (m : Memory) → Sized m → is_image m ≡ false → is_image (call_in c m).memory ≡ false
  -- a value and a refusal are told apart by 2^63, and a refusal changes nothing; no slice has 2^63 bytes
  pub a_call_tells_a_value_or_changes_nothing : (c : Call) (m : Memory) → Sized m → bytes_lent c < 9223372036854775808 → Tells m (buffer_lent c) (call_in c m)
  pub the_refusals_lie_above :
      (s1 ≡ 9223372036854775808 + 1) × (s2 ≡ 9223372036854775808 + 2) × (s3 ≡ 9223372036854775808 + 3) × (broken ≡ 9223372036854775808 + 256) × (unframed ≡ 9223372036854775808 + 257)
  pub the_plunger_is_told : (wide words small : List ℕ) → Asked 44000 (plunger_in wide words small)
  pub the_exact_position_is_told : (wide words small : List ℕ) → Asked 44000000000 (exact_in wide words small)
  pub ready_is_told : (wide words small : List ℕ) → Asked 1 (ready_in wide words small)
  pub the_last_error_is_told : (wide words small : List ℕ) → Asked 15 (error_in wide words small)
  -- from making, over any calls, a host sees what the methods give: memory, buffer and what is returned
  pub a_host_sees_the_methods : (f : Framing) (a : Address) (cs : List Call) → session_in cs (encode_of (made_of f a).next) ≡ session_of cs (made_of f a).next
