-- The three demands, over any calls from making. What they say of frames stands in `specs/Frames`, of what calls leave in hand in `specs/InHand`. `proofs/Demands` proves 1 and 3, `proofs/Agreement` 2.
use Rattle.std.specs.Prelude.{ℕ, ◌≤◌, ◌<◌, ◌≡◌, ◌⊎◌, Bool, true, false, List, [], ◌∷◌, ◌++◌, length, take, drop, if◌then◌else◌, Err, None, Ok, Some}
use Rattle.pipettor.specs.Said.{Said, s1}
use Rattle.basics.specs.Exactly.{Exactly}
use Rattle.settings.specs.declared.Volume.{Volume}
use Rattle.settings.specs.declared.Volume.TheVariants as V
use Rattle.command.specs.declared.refusal.Refusal.{Refusal}
use Rattle.command.specs.declared.Command.{Command}
use Rattle.command.specs.declared.Command.TheVariants as C
use Rattle.command.specs.Numbers.{verdict_number}
use Rattle.text.specs.declared.Question.TheVariants as Q
use Rattle.line.specs.declared.Report.TheVariants.{Whole}
use Rattle.line.specs.Wire.{Form, formed, Sendable, Hears as ReceiverHears}
use Rattle.level.specs.declared.Search.{Search}
use Rattle.level.specs.declared.Finding.TheVariants.{Missed}
use Rattle.level.specs.Level as Level
use Rattle.level.specs.Level.{finding_of}
use Rattle.motion.specs.declared.Sense.{Sense}
use Rattle.motion.specs.declared.Travel.{Travel}
use Rattle.motion.specs.Detect.{felt_in, no_way_down}
use Rattle.motion.specs.declared.Activity.{Activity}
use Rattle.motion.specs.declared.Activity.TheVariants.{Initialising, Approaching, Searching, Ejecting, Between}
use Rattle.motion.specs.declared.Travel.{Travel}
use Rattle.motion.specs.Events.{quiet, start, volume}
use Rattle.buffer.specs.declared.course.State.TheVariants.{Empty, Running}
use Rattle.buffer.specs.Course.{failed_of}
use Rattle.machine.specs.Step.{core, news, no_news}
use Rattle.machine.specs.Device.{device}
use Rattle.machine.specs.History.{sum_of, IsSum, StandsBy, moving}
use Rattle.machine.specs.OnCourse as OnCourse
use Rattle.machine.specs.OnCourse.{Cause, Fault, left_in}
use Rattle.machine.specs.Tips.{Ejects, NoE}
use Rattle.pipettor.specs.declared.address.Address.{Address}
use Rattle.pipettor.specs.declared.Controller.{Controller}
use Rattle.pipettor.specs.Address.{letter_of, address_of}
use Rattle.pipettor.specs.Valid.{Valid}
use Rattle.pipettor.specs.Byte as Byte
use Rattle.pipettor.specs.Byte.{told_of, byte_of}
use Rattle.pipettor.specs.Controller.{on, ticked_of, stopped_of, advanced_of, run_of, ready_is}
use Rattle.demands.specs.Calls.{Making, Call, after, history, answers}
use Rattle.demands.specs.Values.{number, S, said_is, given_is, used_is}
use Rattle.demands.specs.Frames.{frame_seen, Treated, Hears, frame_after, ExchangesFrame}
use Rattle.demands.specs.InHand.{Receives, ReceivesBy}
use Rattle.demands.specs.Promises.{Program, Meets, TakesAll, left_by, answered_by}
use Rattle.demands.specs.Script.{bench}

-- 1. Every call is answered, and refuses as 01's table says.
-- a run's count of ticks: no more than allowed, not ready before so many, and ready after them where fewer than allowed are used
pub record Counted (n : ℕ) (s : Sense) (k : Controller) (count : ℕ) : Type 0 where
  pub run : run_of n s k ≡ record { ticked = advanced_of count s k; used = Ok count }
  pub within : count ≤ n
  pub busy_before : (i : ℕ) → i < count → ready_is (advanced_of i s k).controller ≡ false
  pub ready_after : count < n → ready_is (advanced_of count s k).controller ≡ true

-- one of so many ticks asks the host to eject
pub record AsksWithin (n : ℕ) (s : Sense) (k : Controller) : Type 0 where
  pub tick : ℕ
  pub before : tick < n
  pub asks : (ticked_of s (advanced_of tick s k).controller).next.news.eject ≡ true

-- what a byte leaves of the buffer: "A silent byte and an S refusal write nothing to the answer buffer. Bytes after an answer's end stay as they were."
abbrev pub Written : Said → List ℕ → List ℕ → Type 0
Written (Ok None) before after = after ≡ before
Written (Err _) before after = after ≡ before
Written (Ok (Some n)) before after = (n ≤ 20) × (length after ≡ length before) × (drop n after ≡ drop n before)

-- the next tick takes a command
abbrev pub Takes : Controller → Command → Type 0
Takes k command = OnCourse.Takes k.device.text k.device.core command

-- 02, W-206: the next tick feels the pressure, for B: it takes B, which nothing but the reading can refuse; or B's move to p2 or its search is in progress
pub data FeelsFor (k : Controller) : Type 0 where
  taking : (here : Bool) → Takes k (C.Detect here) → k.device.core.body.initialised ≡ true → no_way_down k.device.core.body.settings.detection ≡ false → FeelsFor k
  moving_to_p2 : (t : Travel) (z : ℕ) → k.device.core.course.state ≡ Running (Approaching t z) → FeelsFor k
  searching : (f : Search) → k.device.core.course.state ≡ Running (Searching f) → FeelsFor k

-- a search is in progress, and its next tick finds nothing where no way is left (level, `finding_of`; in words `a_miss_is_the_end_of_the_way`, level `Trail`)
pub record MissesIn (s : Sense) (k : Controller) : Type 0 where
  pub search : Search
  pub searching : k.device.core.course.state ≡ Running (Searching search)
  pub missed : finding_of k.device.core.body.settings.detection (Level.later_of search) (felt_in s) ≡ Missed

-- why a run fails in the next tick
abbrev pub CauseIn : Sense → Controller → Refusal → Type 0
CauseIn s k why = Cause k.device.text s k.device.core why

-- of a controller:
pub record Answers (k : Controller) : Type 0 where
  -- "A call's only premise is that its controller came from making and earlier calls": what each contract asks holds
  pub every_premise_holds : Valid k
  -- "S1: answer buffer lent is shorter than 32 bytes: controller and buffer unchanged"; it comes before everything else
  pub a_short_buffer_is_S1 : (b : ℕ) (buf : List ℕ) → Exactly (said_is (byte_of k b buf).next.reply.said ≡ S 1) (length buf < 32)
  pub S1_changes_nothing : (b : ℕ) (buf : List ℕ) → length buf < 32 → byte_of k b buf ≡ quiet (Byte.after (Byte.reply k (Err s1)) buf)
  pub a_byte_writes_its_answer_only : (b : ℕ) (buf : List ℕ) → (let r = (byte_of k b buf).next in Written r.reply.said buf r.buffer)
  -- the bytes of a frame to us, whatever its data, in the framing of the controller and where no sum of an earlier one is due: it gets each number exactly where 01's table gives it, and leaves what the table says
  pub a_frame_is_treated_by_the_table :
      (form : Form) (ds buf : List ℕ) → ReceiverHears form k.line → Sendable form (letter_of k.address) ds → 32 ≤ length buf → Treated (formed form) ds k.address k.device buf (frame_seen form k ds buf)
  -- "S3: more than 60000 ticks asked of a run: nothing changed"
  pub a_long_run_is_S3 : (n : ℕ) (s : Sense) → Exactly (used_is (run_of n s k).used ≡ S 3) (60000 < n)
  pub S3_changes_nothing : (n : ℕ) (s : Sense) → 60000 < n → (run_of n s k).ticked ≡ record { controller = k; news = no_news }
  -- any other is counted: "the answer says how many ticks it used"
  pub a_run_counts_its_ticks : (n : ℕ) (s : Sense) → n ≤ 60000 → (count : ℕ) × Counted n s k count
  -- no tick meets a command that doesn't read, nor a fifth loop, nor a G whose g isn't the innermost that the run holds open
  pub a_run_meets_a_command : k.device.core.course.state ≡ Running Between → OnCourse.Meets k.device.text k.device.core.course
  -- a run that is erased in a tick fails in it, for a cause, and changes nothing but the last error, the text and the tip that is sensed
  pub a_run_fails_for_a_cause :
      (s : Sense) (doing : Activity) → k.device.core.course.state ≡ Running doing → (ticked_of s k).next.controller.device.core.course.state ≡ Empty →
      Fault k.device.text s k.device.core
  -- each refusal exactly where there is its cause. A, P and D: 7 where the plunger is not initialised, else 3 where v is above V (02, W-205), else 3 for a goal outside travel.
  -- 02, W-203: "10 for E0 without a tip; 7 for E1 uninitialised; 8 for a failed eject"
  pub a_run_fails_exactly_for_a_cause : (s : Sense) (why : Refusal) → Exactly ((ticked_of s k).next.news.failed ≡ Err why) (CauseIn s k why)
  pub ten_is_an_E0_without_a_tip : (s : Sense) → Exactly (verdict_number (ticked_of s k).next.news.failed ≡ 10) (Takes k (C.Eject false) × (s.tip ≡ false))
  -- 02, W-206: "5 for a reading outside -32767 to 32767 in any tick from the one that takes B, 6 when p4 increments or the end of travel are reached in a tick without a find"
  pub five_is_a_reading_outside : (s : Sense) → Exactly (verdict_number (ticked_of s k).next.news.failed ≡ 5) (FeelsFor k × (felt_in s ≡ None))
  pub six_is_a_search_without_a_find : (s : Sense) → Exactly (verdict_number (ticked_of s k).next.news.failed ≡ 6) (MissesIn s k)
  pub eight_is_a_tip_still_there : (s : Sense) → Exactly (verdict_number (ticked_of s k).next.news.failed ≡ 8) ((k.device.core.course.state ≡ Running Ejecting) × (s.tip ≡ true))
  -- and what is left of it
  pub a_run_that_fails_leaves :
      (s : Sense) (why : Refusal) → CauseIn s k why →
      (ticked_of s k).next ≡ record { controller = on (device k.device.text s.tip (core (left_in k.device.core.course.state k.device.core.body) (failed_of why k.device.core.course))) k; news = news (Err why) false }
  -- 02, W-203: "The tick that takes it asks the host to eject (a run says if any tick did)": once for each E that is taken and not refused, and in no other tick
  pub the_host_is_asked_once_for_each_E : (s : Sense) → Exactly ((ticked_of s k).next.news.eject ≡ true) (Ejects k.device.text s k.device.core)
  pub ticks_ask_where_one_does : (n : ℕ) (s : Sense) → Exactly ((advanced_of n s k).news.eject ≡ true) (AsksWithin n s k)
  pub without_an_E_nothing_asks : (n : ℕ) (s : Sense) → NoE (take k.device.core.course.len k.device.text) → (advanced_of n s k).news.eject ≡ false
  -- "?31 reports the tip of the last tick, 0 before any; reset leaves it"
  pub a_tick_brings_the_tip_sensed : (s : Sense) → (ticked_of s k).next.controller.device.tip ≡ s.tip
  pub no_byte_changes_the_tip : (b : ℕ) (buf : List ℕ) → (byte_of k b buf).next.reply.controller.device.tip ≡ k.device.tip
  pub the_stop_leaves_the_tip : (stopped_of k).next.device.tip ≡ k.device.tip
  pub q31_tells_the_tip : told_of (Q.Value 31) k.address k.device.tip k.device.core ≡ Some (Whole (if k.device.tip then 1 else 0))
  -- 02, W-202: "It is 0 after .. an error in a run"; no other tick changes it, nor the host's stop
  pub an_error_in_a_run_has_no_column : (s : Sense) (why : Refusal) → (ticked_of s k).next.news.failed ≡ Err why → (ticked_of s k).next.controller.device.core.course.misread ≡ 0
  pub any_other_tick_leaves_the_column : (s : Sense) → (ticked_of s k).next.news.failed ≡ Ok tt → (ticked_of s k).next.controller.device.core.course.misread ≡ k.device.core.course.misread
  pub the_stop_leaves_the_column : (stopped_of k).next.device.core.course.misread ≡ k.device.core.course.misread
  -- "a cut W leaves us uninitialised"
  pub a_cut_W_leaves_it_uninitialised : (t : Travel) → k.device.core.course.state ≡ Running (Initialising t) → (stopped_of k).next.device.core.body.initialised ≡ false

-- making: "Our address is one of `1` to `9`"; "S2: address outside 1 to 9 at making: no controller is made"
pub record Makes : Type 0 where
  pub one_to_nine : (a : Address) → (n : ℕ) × (given_is (address_of n) ≡ number n) × (address_of n ≡ Ok a)
  pub any_other_is_S2 : (n : ℕ) → Exactly (given_is (address_of n) ≡ S 2) ((n ≡ 0) ⊎ (9 < n))

pub record TotalityAndRefusals : Type 0 where
  pub making : Makes
  pub calling : (a : Making) (calls : List Call) → Answers (after a calls)
  -- a frame's bytes with any calls between them, each with any buffer that is long enough: at its last it is treated by the table, and every other byte is silent
  pub receiving : (a : Making) (calls : List Call) → Receives a calls

-- 2. Any program that meets the contracts does what the definition does, call for call: the controller left after calls from making,
-- and all that was handed back on the way, every byte of every answer buffer included; and what it is called on next meets every premise
pub record Agrees (p : Program) (a : Making) (calls : List Call) : Type 0 where
  pub premise : Valid (left_by p calls (p.fresh a))
  pub controller : left_by p calls (p.fresh a) ≡ after a calls
  pub answered : answered_by p calls (p.fresh a) ≡ answers a calls
  -- the framing is the one that was chosen at making, whatever the calls
  pub framing : p.framing (left_by p calls (p.fresh a)) ≡ a.framing
  pub ready : p.ready (left_by p calls (p.fresh a)) ≡ ready_is (after a calls)

pub record Agreement : Type 1 where
  -- a number that is given as an address, and S2
  pub every_program_gives_addresses : (p : Program) → Meets p → (n : ℕ) → p.given n ≡ address_of n
  pub every_program_agrees : (p : Program) → Meets p → (a : Making) (calls : List Call) → TakesAll p calls → Agrees p a calls
  -- what the definition makes of whole frames, and of all other bytes, needs no receiver to be said
  pub frames : (a : Making) (calls : List Call) (buf : List ℕ) → 32 ≤ length buf → Hears (after a calls) buf
  -- and so a program's answers to a whole frame are the exchange of its data, the address and the device
  pub every_program_exchanges_frames :
      (p : Program) → Meets p → (form : Form) (a : Making) (calls : List Call) (ds buf : List ℕ) → ReceiverHears form (after a calls).line → Sendable form (letter_of a.address) ds → 32 ≤ length buf →
      TakesAll p (calls ++ frame_after form a calls ds buf) → ExchangesFrame form p a calls ds buf
  -- with any calls between its bytes too: at the last the exchange, and at every other byte silence
  pub every_program_receives : (p : Program) → Meets p → (a : Making) (calls : List Call) → ReceivesBy p a calls

abbrev nL : ℕ → Volume
nL n = V.Nanolitres n

-- 3. Where the plunger stands, of a controller and the history of the calls it comes from:
pub record Stands (a : Making) (calls : List Call) : Type 0 where
  -- it never leaves its travel
  pub within_travel : (after a calls).device.core.body.plunger ≤ 44000
  -- the exact position that is kept is the history's sum: the last start, all that was taken in since, less all that was given out
  pub exact_is_the_sum : IsSum (after a calls).device.core.body.exact (sum_of (history a calls))
  -- "Whenever no movement is in progress the plunger stands within half an increment of the exact position"
  pub near_at_rest : moving (after a calls).device.core.course.state ≡ false → StandsBy (after a calls).device.core.body.plunger (sum_of (history a calls))

abbrev pub Position : Type 0
Position = (a : Making) (calls : List Call) → Stands a calls

-- and it isn't said of a plunger that never leaves 0: calls that move it, and the history they make: making and W at 0, A at the place asked for,
-- P and D at the compensation of b, nothing for T in a delay, A again, and the plunger's place for a movement that is cut and for a reset
pub record Moves : Type 0 where
  pub calls : List Call
  pub plunger : 0 < (after bench calls).device.core.body.plunger
  pub events :
      history bench calls ≡
      start 0 ∷ start 0 ∷ start 10000000 ∷ volume (nL 500) 40350 true ∷ volume (nL 200) 40350 false ∷ start 44000000000 ∷ start 182000000 ∷ start 182000000 ∷ []
