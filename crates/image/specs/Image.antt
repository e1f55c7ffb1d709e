-- A controller's numbers in memory that the host keeps, each at its own width, and how they are read.
use Rattle.std.specs.Prelude.{ℕ, ◌+◌, ◌≡◌, Bool, true, false, ◌&&◌, List, [], ◌∷◌, ltb, leb, eqb, get_or, set, if◌then◌else◌}
use Rattle.line.specs.declared.Framing.TheVariants as F
use Rattle.line.specs.Wire.{data_byte}
use Rattle.line.specs.declared.Line.{Line}
use Rattle.settings.specs.declared.Settings.{Settings}
use Rattle.motion.specs.declared.Body.{Body}
use Rattle.buffer.specs.declared.course.Loops.{Loops}
use Rattle.buffer.specs.declared.course.Course.{Course}
use Rattle.buffer.specs.Course.{course_of, mark}
use Rattle.machine.specs.Step.{core}
use Rattle.image.specs.declared.receiver.Held.{Held}
use Rattle.image.specs.declared.progress.Progress.{Progress}
use Rattle.image.specs.declared.Pose.{Pose}
use Rattle.image.specs.Receiver.{held_of, line_by, same_held}
use Rattle.image.specs.Progress.{progress_of, state_by, same_progress}
use Rattle.image.specs.Sound.{flag_of, sound_of}

-- the receiver: four bytes, and how many data bytes it has in hand
abbrev pub line_of : Line → List ℕ
line_of l = let h = held_of l in h.tag ∷ h.owner ∷ h.sequence ∷ h.sum ∷ []

abbrev pub count_of : Line → List ℕ
count_of l = (held_of l).count ∷ []

abbrev pub held_in : List ℕ → List ℕ → Held
held_in l c = record { tag = get_or l 0 0; owner = get_or l 1 0; sequence = get_or l 2 0; sum = get_or l 3 0; count = get_or c 0 0 }

-- the line that they tell, and whether it is written just so
unfoldable pub line_in : List ℕ → List ℕ → Line
line_in l c = line_by (held_in l c)

unfoldable pub is_line : List ℕ → List ℕ → Bool
is_line l c = same_held (held_of (line_in l c)) (held_in l c)

pub record LineWritten (x : Line) (l c : List ℕ) : Type 0 where
  pub line : l ≡ line_of x
  pub count : c ≡ count_of x

-- the device: everything but its text
abbrev pub wide_of : Pose → List ℕ
wide_of p =
    let c = p.core.course in
    let l = c.loops in
    p.core.body.exact ∷ c.at ∷ c.len ∷ l.depth ∷ l.first.start ∷ l.second.start ∷ l.third.start ∷ l.fourth.start ∷ []

abbrev pub words_of : Pose → List ℕ
words_of p =
    let s = p.core.body.settings in
    let d = s.detection in
    let l = p.core.course.loops in
    let g = progress_of p.core.course.state in
    p.core.body.plunger ∷ s.top ∷ s.start ∷ s.cutoff ∷ s.acceleration ∷ s.deceleration ∷ s.backlash ∷ s.rate ∷
    d.threshold ∷ d.duration ∷ d.place ∷ d.speed ∷ d.most ∷ d.mode ∷ d.interval ∷
    l.first.passes ∷ l.second.passes ∷ l.third.passes ∷ l.fourth.passes ∷ p.core.course.misread ∷
    g.from ∷ g.goal ∷ g.speed ∷ g.ticks ∷ g.zero ∷ g.count ∷ []

abbrev pub small_of : Pose → List ℕ
small_of p = flag_of p.core.body.initialised ∷ (progress_of p.core.course.state).tag ∷ p.core.course.error ∷ flag_of p.tip ∷ []

pub record PoseWritten (p : Pose) (w n s : List ℕ) : Type 0 where
  pub wide : w ≡ wide_of p
  pub words : n ≡ words_of p
  pub small : s ≡ small_of p

-- and back
abbrev pub progress_at : List ℕ → List ℕ → Progress
progress_at n s =
    record { tag = get_or s 1 0; from = get_or n 20 0; goal = get_or n 21 0; speed = get_or n 22 0; ticks = get_or n 23 0; zero = get_or n 24 0; count = get_or n 25 0 }

abbrev pub settings_in : List ℕ → Settings
settings_in n =
    record {
      top = get_or n 1 0;
      start = get_or n 2 0;
      cutoff = get_or n 3 0;
      acceleration = get_or n 4 0;
      deceleration = get_or n 5 0;
      backlash = get_or n 6 0;
      rate = get_or n 7 0;
      detection = record {
        threshold = get_or n 8 0;
        duration = get_or n 9 0;
        place = get_or n 10 0;
        speed = get_or n 11 0;
        most = get_or n 12 0;
        mode = get_or n 13 0;
        interval = get_or n 14 0;
      };
    }

abbrev pub body_in : List ℕ → List ℕ → List ℕ → Body
body_in w n s = record { plunger = get_or n 0 0; exact = get_or w 0 0; initialised = ltb 0 (get_or s 0 0); settings = settings_in n }

abbrev pub loops_in : List ℕ → List ℕ → Loops
loops_in w n =
    record {
      depth = get_or w 3 0;
      first = mark (get_or w 4 0) (get_or n 15 0);
      second = mark (get_or w 5 0) (get_or n 16 0);
      third = mark (get_or w 6 0) (get_or n 17 0);
      fourth = mark (get_or w 7 0) (get_or n 18 0);
    }

abbrev pub course_in : List ℕ → List ℕ → List ℕ → Course
course_in w n s = course_of (get_or w 1 0) (get_or w 2 0) (loops_in w n) (state_by (progress_at n s)) (get_or s 2 0) (get_or n 19 0)

unfoldable pub pose_in : List ℕ → List ℕ → List ℕ → Pose
pose_in w n s = record { tip = ltb 0 (get_or s 3 0); core = core (body_in w n s) (course_in w n s) }

-- whether they are the numbers of a device from making and earlier calls, written just so
unfoldable pub is_pose : Pose → List ℕ → List ℕ → Bool
is_pose p n s =
    same_progress (progress_of p.core.course.state) (progress_at n s) && (leb (get_or s 0 0) 1 && (leb (get_or s 3 0) 1 && sound_of p.core))

-- nothing runs, by the tag, and the tip of the last tick is one
unfoldable pub idle : List ℕ → Bool
idle s = ltb (get_or s 1 0) 4 && leb (get_or s 3 0) 1

-- what most bytes are: a data byte of a DT frame in hand that has room for it
unfoldable pub collects : ℕ → List ℕ → List ℕ → Bool
collects b l c = eqb (get_or l 0 0) 2 && (eqb (get_or l 2 0) 0 && (eqb (get_or l 3 0) 0 && (data_byte F.Dt b && ltb (get_or c 0 0) 320)))

-- it is kept and counted, and the device isn't looked at
pub record Kept : Type 0 where
  pub line : List ℕ
  pub count : List ℕ
  pub frame : List ℕ
  pub taken : Bool

abbrev pub kept : List ℕ → List ℕ → List ℕ → Bool → Kept
kept l c f r = record { line = l; count = c; frame = f; taken = r }

unfoldable pub collect_of : ℕ → List ℕ → List ℕ → List ℕ → Kept
collect_of b l c f =
    if collects b l c
    then kept (2 ∷ get_or l 1 0 ∷ 0 ∷ 0 ∷ []) ((get_or c 0 0 + 1) ∷ []) (set f (get_or c 0 0) b) true
    else kept l c f false
