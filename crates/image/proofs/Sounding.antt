-- The test of a core (`specs/Sound`) is `Valid`.
use mathlib.Core.Path.{◌≡◌, refl}
use mathlib.Core.Bool.{true}
use native.Mathlib.Omega.{arith}
use Rattle.settings.specs.Limits.{within, Detected, Kept}
use Rattle.settings.specs.declared.Detection.{Detection}
use Rattle.settings.specs.declared.Settings.{Settings}
use Rattle.level.specs.declared.Search.{Search}
use Rattle.level.specs.Level.{SearchOk}
use Rattle.motion.specs.declared.Travel.{Travel}
use Rattle.motion.specs.declared.Activity.{Activity}
use Rattle.motion.specs.declared.Activity.TheVariants.{Initialising, Moving, Delaying, Approaching, Searching, Ejecting, Between}
use Rattle.motion.specs.declared.Body.{Body}
use Rattle.motion.specs.Bounds.{TravelOk, ActivityOk, BodyOk}
use Rattle.buffer.specs.declared.course.State.{State}
use Rattle.buffer.specs.declared.course.State.TheVariants.{Empty, Stored, Running, Stopped, Done}
use Rattle.machine.specs.declared.step.Core.{Core}
use Rattle.machine.specs.Valid.{StateOk, Valid}
use Rattle.image.specs.Sound.{detection_sound, settings_sound, travel_sound, search_sound, activity_sound, state_sound, body_sound, sound_of}
use Rattle.image.proofs.Rows.{inside_between, between_inside}

detection_ok : (d : Detection) → detection_sound d ≡ true → Detected d
unfolding detection_sound
detection_ok d e = grind (arith, inside_between)

ok_detection : (d : Detection) → Detected d → detection_sound d ≡ true
unfolding detection_sound
ok_detection d k = grind (arith, between_inside)

settings_ok : (s : Settings) → settings_sound s ≡ true → Kept s
unfolding settings_sound
settings_ok s e = grind (arith, inside_between, detection_ok)

ok_settings : (s : Settings) → Kept s → settings_sound s ≡ true
unfolding settings_sound
ok_settings s k = grind (arith, between_inside, ok_detection)

travel_ok : (t : Travel) → travel_sound t ≡ true → TravelOk t
unfolding travel_sound within
travel_ok t e = grind arith

ok_travel : (t : Travel) → TravelOk t → travel_sound t ≡ true
unfolding travel_sound within
ok_travel t k = grind arith

search_ok : (s : Search) → search_sound s ≡ true → SearchOk s
unfolding search_sound within
search_ok s e = grind arith

ok_search : (s : Search) → SearchOk s → search_sound s ≡ true
unfolding search_sound within
ok_search s k = grind arith

activity_ok : (a : Activity) → activity_sound a ≡ true → ActivityOk a
activity_ok (Initialising t) e = travel_ok t e
activity_ok (Moving t) e = travel_ok t e
activity_ok (Delaying k) e = tt
activity_ok (Approaching t z) e = travel_ok t e
activity_ok (Searching s) e = search_ok s e
activity_ok Ejecting e = tt
activity_ok Between e = tt

ok_activity : (a : Activity) → ActivityOk a → activity_sound a ≡ true
ok_activity (Initialising t) k = ok_travel t k
ok_activity (Moving t) k = ok_travel t k
ok_activity (Delaying n) k = refl
ok_activity (Approaching t z) k = ok_travel t k
ok_activity (Searching s) k = ok_search s k
ok_activity Ejecting k = refl
ok_activity Between k = refl

state_ok : (s : State) → state_sound s ≡ true → StateOk s
state_ok Empty e = tt
state_ok Stored e = tt
state_ok (Running a) e = activity_ok a e
state_ok Stopped e = tt
state_ok Done e = tt

ok_state : (s : State) → StateOk s → state_sound s ≡ true
ok_state Empty k = refl
ok_state Stored k = refl
ok_state (Running a) k = ok_activity a k
ok_state Stopped k = refl
ok_state Done k = refl

body_ok : (b : Body) → body_sound b ≡ true → BodyOk b
unfolding body_sound within
body_ok b e = grind (arith, settings_ok)

ok_body : (b : Body) → BodyOk b → body_sound b ≡ true
unfolding body_sound within
ok_body b k = grind (arith, ok_settings)

pub sound_valid : (c : Core) → sound_of c ≡ true → Valid c
unfolding sound_of
sound_valid c e = grind (arith, body_ok, state_ok)

pub valid_sound : (c : Core) → Valid c → sound_of c ≡ true
unfolding sound_of
valid_sound c v = grind (arith, ok_body, ok_state)
