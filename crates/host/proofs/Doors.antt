-- The promises of `specs/Door`.
use mathlib.Core.Path.{◌≡◌, refl, subst}
use mathlib.Core.Bool.{true}
use Rattle.machine.specs.Run.{ready_of}
use Rattle.image.specs.Sound.{flag_of}
use Rattle.host.specs.Host.{Memory, is_image}
use Rattle.host.specs.Session.{Holds}
use Rattle.host.specs.Door.{Door}
use Rattle.host.proofs.Back.{address_held_lem, controller_held_lem, image_taken}
use Rattle.host.proofs.Just.{image_holds, image_written}
use Rattle.host.proofs.Sessions.{a_host_sees_the_methods}
use Rattle.host.proofs.Codes.{flag_up_to_1, a_call_tells_a_value_or_changes_nothing, is_told}
use Rattle.host.proofs.Strays.{what_is_no_image_stays_none}

holding_is_image : (m : Memory) → Holds m → is_image m ≡ true
holding_is_image m (k, e) = subst (λ (x : Memory). is_image x ≡ true) e.is (image_taken k e.valid)

pub the_door_holds : Door
the_door_holds =
    record {
      an_image_is_a_controller_written = λ m z. record { only = image_holds m z; always = holding_is_image m };
      the_address_is_read_back = address_held_lem;
      what_is_written_is_read_back = controller_held_lem;
      what_is_read_is_written_back = image_written;
      what_is_no_image_stays_none = what_is_no_image_stays_none;
      a_call_tells_a_value_or_changes_nothing = a_call_tells_a_value_or_changes_nothing;
      the_refusals_lie_above = (refl, refl, refl, refl, refl);
      the_plunger_is_told = is_told 44000 (λ c. c.body.plunger) (λ c v. v.body.plunger);
      the_exact_position_is_told = is_told 44000000000 (λ c. c.body.exact) (λ c v. v.body.exact);
      ready_is_told = is_told 1 (λ c. flag_of (ready_of c)) (λ c v. flag_up_to_1 (ready_of c));
      the_last_error_is_told = is_told 15 (λ c. c.course.error) (λ c v. v.course.error);
      a_host_sees_the_methods = a_host_sees_the_methods;
    }
