-- Scripts, as one would type them at the bench: frames with what they answer, ticks with where the plunger then is, runs with their count. Who plays them is the definition, or a program.
use Rattle.std.specs.Prelude.{ℕ, ◌-◌, Bool, true, false, ◌&&◌, List, [], ◌∷◌, ◌++◌, map, eqb, take, drop, replicate, ℤ, pos, if◌then◌else◌, Err, None, Ok, Some}
use Prim.Native.String.{String}
use Rattle.pipettor.specs.Said.{Said}
use Rattle.basics.specs.Bytes.{chars}
use Rattle.line.specs.declared.Framing.TheVariants.{Dt}
use Rattle.line.specs.Wire.{dt, framed}
use Rattle.motion.specs.Bodies.{sensing, nothing_sensed}
use Rattle.pipettor.specs.declared.address.Address.TheVariants.{One}
use Rattle.pipettor.specs.declared.Controller.{Controller}
use Rattle.demands.specs.Calls as Calls
use Rattle.demands.specs.Calls.{lent, Call, byte, advance, run, Answered, said, taken, told, used, nothing}
use Rattle.demands.specs.Promises.{Program, TakesAll, left_by, answered_by}

-- a frame to address 1 and what it answers, status byte and data; so many ticks, and where the plunger and the exact position then are;
-- a run of at most so many ticks, and how many it says it used; so many ticks with a tip or without one, and whether they ask the host to eject; so many ticks at a reading of the pressure, with the places again
infix 68 ◌answers◌ ◌ticks◌exact◌ ◌run_uses◌ ◌ticks_with◌ask◌ ◌ticks_at◌reach◌exact◌
pub data Line : Type 0 where
  ◌answers◌ : String → String → Line
  ◌ticks◌exact◌ : ℕ → ℕ → ℕ → Line
  ◌run_uses◌ : ℕ → ℕ → Line
  ◌ticks_with◌ask◌ : ℕ → Bool → Bool → Line
  ◌ticks_at◌reach◌exact◌ : ℕ → ℤ → ℕ → ℕ → Line

-- its calls: byte after byte, each with a buffer of 32 bytes lent; ticks; a run
abbrev pub calls_of : Line → List Call
calls_of (text answers reply) = map (λ (b : ℕ). byte b (lent (replicate 32 0))) (framed dt 49 (chars text))
calls_of (n ticks place exact millionths) = advance n nothing_sensed ∷ []
calls_of (n run_uses count) = run n nothing_sensed ∷ []
calls_of (n ticks_with tip ask asked) = advance n (sensing tip (pos 0)) ∷ []
calls_of (n ticks_at reading reach there exact millionths) = advance n (sensing false reading) ∷ []

-- status byte and data of an answer: without `/`, `0` in front and 03h, CR, LF behind
abbrev pub data_in : Said → List ℕ → List ℕ
data_in (Ok None) buf = []
data_in (Ok (Some n)) buf = take (n - 5) (drop 2 buf)
data_in (Err _) buf = []

abbrev flag : Bool → ℕ
flag b = if b then 1 else 0

abbrev pub data_of : Answered → List ℕ
data_of (said s l) = data_in s l.buffer
data_of (taken n) = n ∷ []
data_of (told v) = flag v.eject ∷ []
data_of (used v (Ok n)) = n ∷ []
data_of (used v (Err _)) = []
data_of nothing = []

abbrev pub last_of : List Answered → List ℕ
last_of [] = []
last_of (a ∷ []) = data_of a
last_of (a ∷ b ∷ l) = last_of (b ∷ l)

-- DT at address 1, as at the bench
abbrev pub bench : Calls.Making
bench = record { framing = Dt; address = One }

-- a player: the controller left after calls from that making, and all that they hand back
pub record Player : Type 0 where
  pub left : List Call → Controller
  pub back : List Call → List Answered

abbrev pub definition : Player
definition = record { left = Calls.after bench; back = Calls.answers bench }

abbrev pub program : Program → Player
program p = record { left = λ calls. left_by p calls (p.fresh bench); back = λ calls. answered_by p calls (p.fresh bench) }

-- what is seen of a line after earlier calls: the answer to the last byte or to the run; or the plunger and the exact position
unfoldable pub seen : Player → List Call → Line → List ℕ
seen player calls (text answers reply) = last_of (player.back (calls ++ calls_of (text answers reply)))
seen player calls (n ticks place exact millionths) = let b = (player.left (calls ++ advance n nothing_sensed ∷ [])).device.core.body in b.plunger ∷ b.exact ∷ []
seen player calls (n run_uses count) = last_of (player.back (calls ++ run n nothing_sensed ∷ []))
seen player calls (n ticks_with tip ask asked) = last_of (player.back (calls ++ advance n (sensing tip (pos 0)) ∷ []))
seen player calls (n ticks_at reading reach there exact millionths) = let b = (player.left (calls ++ advance n (sensing false reading) ∷ [])).device.core.body in b.plunger ∷ b.exact ∷ []

abbrev pub expected : Line → List ℕ
expected (text answers reply) = chars reply
expected (n ticks place exact millionths) = place ∷ millionths ∷ []
expected (n run_uses count) = count ∷ []
expected (n ticks_with tip ask asked) = flag asked ∷ []
expected (n ticks_at reading reach there exact millionths) = there ∷ millionths ∷ []

abbrev pub same : List ℕ → List ℕ → Bool
same [] [] = true
same [] (b ∷ bs) = false
same (a ∷ l) [] = false
same (a ∷ l) (b ∷ bs) = eqb a b && same l bs

-- the lines of a script that come out otherwise, with what is seen instead
pub record Wrong : Type 0 where
  pub line : Line
  pub instead : List ℕ

unfoldable pub wrong_in : Player → List Call → List Line → List Wrong
wrong_in player calls [] = []
wrong_in player calls (l ∷ ls) =
    let later = wrong_in player (calls ++ calls_of l) ls in
    if same (seen player calls l) (expected l) then later else record { line = l; instead = seen player calls l } ∷ later

-- scripts, each from making
unfoldable pub wrong_of : Player → List (List Line) → List Wrong
wrong_of player [] = []
wrong_of player (script ∷ scripts) = wrong_in player [] script ++ wrong_of player scripts

-- the calls of scripts are among those that a program's types can take
abbrev pub TakesScript : Program → List Call → List Line → Type 0
TakesScript p calls [] = Unit {0}
TakesScript p calls (l ∷ ls) = TakesAll p (calls ++ calls_of l) × TakesScript p (calls ++ calls_of l) ls

abbrev pub TakesScripts : Program → List (List Line) → Type 0
TakesScripts p [] = Unit {0}
TakesScripts p (script ∷ scripts) = TakesScript p [] script × TakesScripts p scripts
