-- The text's array and the core together: what the host calls.
use Rattle.std.specs.Prelude.{ℕ, Bool, false, List, ltb, eqb, replicate, if◌then◌else◌, Err, Ok}
use Rattle.machine.specs.Used.{s3}
use Rattle.motion.specs.declared.Sense.{Sense}
use Rattle.motion.specs.Events.{Turn}
use Rattle.motion.specs.Motion.{fresh_body}
use Rattle.buffer.specs.declared.course.State.TheVariants.{Empty}
use Rattle.machine.specs.declared.step.Core.{Core}
use Rattle.machine.specs.declared.Device.{Device}
use Rattle.machine.specs.declared.Ran.{Ran}
use Rattle.buffer.specs.Course.{course_of, no_loops}
use Rattle.machine.specs.declared.step.Stepped.{Stepped}
use Rattle.machine.specs.declared.Turned.{Turned}
use Rattle.machine.specs.Step.{around, core, fine, step_of}
use Rattle.machine.specs.Run.{ticks_of, used_of}
use Rattle.machine.specs.Act.{stop_of}

abbrev pub device : List ℕ → Bool → Core → Device
device text tip c = record { text = text; tip = tip; core = c }

-- "Fresh: plunger and exact position 0, as after reset."
unfoldable pub fresh_of : Turn Device
fresh_of = record { next = device (replicate 256 0) false (core fresh_body.next (course_of 0 0 no_loops Empty 0 0)); events = fresh_body.events }

-- 02, W-203: "?31 reports the tip of the last tick, 0 before any"
abbrev pub tip_after : ℕ → Sense → Bool → Bool
tip_after n s before = if eqb n 0 then before else s.tip

-- a device after so many ticks, and what they tell
abbrev pub turned : ℕ → Sense → Device → Stepped → Turned
turned n s d t = record { device = device d.text (tip_after n s d.tip) t.core; news = t.news }

unfoldable pub tick_of : Sense → Device → Turn Turned
tick_of s d = let t = step_of (around d.text s) d.core in record { next = turned 1 s d t.next; events = t.events }

unfoldable pub halted_of : Device → Turn Device
halted_of d = let t = stop_of d.core in record { next = device d.text d.tip t.next; events = t.events }

unfoldable pub advance_of : ℕ → Sense → Device → Turned
advance_of n s d = turned n s d (ticks_of n (around d.text s) (fine d.core))

-- "S3: more than 60000 ticks asked of a run: nothing changed"
unfoldable pub ran_of : ℕ → Sense → Device → Ran
ran_of n s d =
    if ltb 60000 n
    then record { turned = turned 0 s d (fine d.core); used = Err s3 }
    else (let k = used_of n (around d.text s) (fine d.core) in record { turned = advance_of k s d; used = Ok k })
