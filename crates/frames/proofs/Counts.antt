-- Theorems: 320 data bytes are read, spaces counted, and 321 refused.
use mathlib.Core.Path.{◌≡◌, sym, ◌∙◌}
use mathlib.Core.Bool.{Bool, true, ◌&&◌}
use mathlib.Core.List.{List}
use Prim.Native.Nat.{ℕ, ◌≤◌, ◌<◌}
use native.Mathlib.Omega.{arith}
use borrow.Author.Tests.{le-ltb, lt-ltb, ltb-true, leb-true, leb-false}
use lib.Dec.{ltb, leb}
use lib.ListN.{length}
use Rattle.basics.specs.Exactly.{Exactly}
use Rattle.basics.proofs.Choice.{by}
use Rattle.text.specs.declared.Data.{Data}
use Rattle.text.specs.declared.Data.TheVariants as D
use Rattle.text.specs.Data.{spaceless, data_of, received_of}
use Rattle.line.specs.declared.Framing.{Framing}
use Rattle.machine.specs.declared.Device.{Device}
use Rattle.pipettor.specs.declared.address.Address.{Address}
use Rattle.frames.specs.Refused.{refusal_of, is_report, report_first, too_many_bytes}
use Rattle.frames.specs.Limits.{RefusesWith}
use Rattle.frames.proofs.Sorts.{read_as_said, read_is_not_too_many, read_by_the_first_byte}
use Rattle.frames.proofs.Refusals.{too_much_now_is_15, a_refused_frame_leaves_the_error_only}

-- a number that isn't 0 is a refusal
pub refuses : (code : ℕ) (ds : List ℕ) (a : Address) (d : Device) (f : Framing) (buf : List ℕ) → (code ≡ 0 → ⊥) → refusal_of ds a d ≡ code → RefusesWith f code ds a d buf
refuses code ds a d f buf h e =
    record { number = e; left = rw e at (a_refused_frame_leaves_the_error_only ds a d f buf (λ z. h (sym e ∙ z))) }

-- "more than 320 data bytes, spaces counted"
module _ (ds : List ℕ) where
  pub up_to_320_bytes_are_read : length ds ≤ 320 → received_of ds ≡ data_of (spaceless ds)
  unfolding received_of
  up_to_320_bytes_are_read h = rw (le-ltb 320 (length ds) h)

  too_many : 320 < length ds → received_of ds ≡ D.TooLong
  unfolding received_of
  too_many h = rw (lt-ltb 320 (length ds) h)

  only_many : received_of ds ≡ D.TooLong → 320 < length ds
  unfolding received_of
  only_many =
      by (λ (x : Data). x ≡ D.TooLong → 320 < length ds) (ltb 320 (length ds))
      (λ h e. ltb-true 320 (length ds) h)
      (λ h e. read_is_not_too_many _ _ (read_by_the_first_byte (spaceless ds)) e)

  -- "Over 320 bytes no frame counts as a report."
  pub what_counts_as_a_report : is_report (received_of ds) ≡ (leb (length ds) 320 && report_first (spaceless ds))
  what_counts_as_a_report =
      by (λ (t : Bool). is_report (received_of ds) ≡ (leb (length ds) 320 && report_first (spaceless ds))) (leb (length ds) 320) {a = true} {b = true}
      (λ h. rw (h, up_to_320_bytes_are_read (leb-true (length ds) 320 h)) (read_as_said _ _ (read_by_the_first_byte (spaceless ds))))
      (λ h. rw (h, too_many (leb-false (length ds) 320 h)))

  pub too_many_bytes_exactly_above_320 : Exactly (received_of ds ≡ D.TooLong) (320 < length ds)
  too_many_bytes_exactly_above_320 = record { only = only_many; always = too_many }

  pub more_than_320_bytes_are_refused : (a : Address) (d : Device) (f : Framing) (buf : List ℕ) → 320 < length ds → RefusesWith f 15 ds a d buf
  more_than_320_bytes_are_refused a d f buf h = refuses 15 ds a d f buf (λ e. omega arith) ((too_much_now_is_15 ds a d).always (rw (too_many h) too_many_bytes))
