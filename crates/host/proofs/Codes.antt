-- Theorems: what is returned is a value below 2^63, or a refusal that changes nothing.
use mathlib.Core.Path.{◌≡◌, refl, ap}
use mathlib.Core.Bool.{Bool, false}
use mathlib.Core.List.{List, [], ◌∷◌}
use Prim.Native.Nat.{ℕ, ◌<◌, ◌≤◌}
use native.Mathlib.Omega.{arith}
use borrow.Author.Tests.{leb-true, ltb-false}
use lib.Dec.{ltb}
use lib.ListN.{length}
use Rattle.std.specs.Prelude.{Err, None, Ok, Option, Result, Some}
use Rattle.pipettor.specs.declared.address.S2.{S2}
use Rattle.pipettor.specs.declared.address.Address.{Address}
use Rattle.line.specs.declared.Report.{Report}
use Rattle.command.specs.Verdict.{Verdict}
use Rattle.basics.proofs.Choice.{by}
use Rattle.command.specs.Numbers.{verdict_number}
use Rattle.command.proofs.Numbers.{every_number_is_1_to_15}
use Rattle.line.specs.declared.Framing.{Framing}
use Rattle.line.specs.declared.Line.{Line}
use Rattle.line.specs.declared.Deed.{Deed}
use Rattle.line.specs.declared.Deed.TheVariants as W
use Rattle.line.specs.Wire.{hear_of, is_whole, before_frame}
use Rattle.line.specs.Answer.{status_of}
use Rattle.line.proofs.Answers.{answer_fits}
use Rattle.machine.specs.declared.Device.{Device}
use Rattle.machine.specs.declared.Turned.{Turned}
use Rattle.machine.specs.declared.Ran.{Ran}
use Rattle.machine.specs.declared.step.Core.{Core}
use Rattle.machine.specs.declared.step.News.{News}
use Rattle.machine.specs.Step.{around, fine}
use Rattle.machine.specs.Run.{used_of}
use Rattle.machine.specs.Device.{ran_of}
use Rattle.machine.specs.Valid.{Valid}
use Rattle.machine.proofs.Runs.{count_within}
use Rattle.motion.specs.declared.Sense.{Sense}
use Rattle.pipettor.specs.Byte.{said_of, dealt_of, heard_of, byte_of}
use Rattle.image.specs.Sound.{flag_of}
use Rattle.image.specs.Image.{pose_in, is_pose, idle}
use Rattle.host.specs.Host.{Receiver, Mover, Memory, memory, moved, line_held, receives, device_held, moves, address_held, s3, said_code, news_code, used_code, Done, done, Spoke, spoke, turned_in, tick_in, run_in, stop_in, tell_in, listen_in, ended_by, heard_by, byte_in}
use Rattle.host.specs.Session.{Sized, Call, byte, listen, tick, advance, run, stop, in_mover, buffer_lent, bytes_lent, Tells, value, short_buffer, long_run, no_controller, Asked, number, none, call_in}
use Rattle.host.proofs.Back.{flag_small}
use Rattle.host.proofs.Just.{pose_valid, mover_just}

-- numbers that come out
verdict_small : (v : Verdict) → verdict_number v ≤ 15
verdict_small (Ok tt) = omega arith
verdict_small (Err why) = (every_number_is_1_to_15 why).1

pub flag_up_to_1 : (b : Bool) → flag_of b ≤ 1
flag_up_to_1 b = leb-true (flag_of b) 1 (flag_small b)

news_below : (n : ℕ) (news : News) → n ≤ 60000 → news_code n news < 9223372036854775808
unfolding news_code
news_below n news h = omega (arith, h, verdict_small news.failed, flag_up_to_1 news.eject)

said_below : (f : Framing) (o : Option (Report × ℕ)) (ready : Bool) → said_code (said_of f o ready) < 9223372036854775808
unfolding said_of
said_below f None ready = omega arith
said_below f (Some (report, code)) ready = omega (arith, answer_fits f (status_of ready code) report)

taken_within : (l : Line) (bytes : List ℕ) → length (before_frame l bytes) ≤ length bytes
unfolding before_frame
taken_within l [] = omega arith
taken_within l (b ∷ bs) =
    let h = taken_within (hear_of l b).line bs in
    by (λ (x : List ℕ). length x ≤ length (b ∷ bs)) (is_whole (hear_of l b).deed) (λ e. omega arith) (λ e. omega (arith, h))

module _ (m : Memory) where
  -- a byte
  module _ (b : ℕ) (buf : List ℕ) where
    abbrev Told : Spoke → Type 0
    Told x = Tells m buf x

    ended_told : (g : Result Address S2) → ltb (length buf) 32 ≡ false → Told (ended_by g b buf m)
    unfolding ended_by byte_of heard_of dealt_of
    ended_told (Ok a) h = by Told (moves m.mover) (λ v. value (rw h (said_below _ _ _))) (λ v. no_controller refl)
    ended_told (Err _) h = no_controller refl

    heard_told : (d : Deed) (l : Line) → ltb (length buf) 32 ≡ false → Told (heard_by d l b buf m)
    unfolding heard_by
    heard_told W.Nothing l h = value (omega arith)
    heard_told (W.Keep at) l h = value (omega arith)
    heard_told (W.Frame a n) l h = ended_told (address_held m) h

    byte_told : Told (byte_in b buf m)
    unfolding byte_in
    byte_told =
        by Told (ltb (length buf) 32) (λ h. short_buffer refl)
        (λ h. by Told (receives m.receiver) (λ r. heard_told (hear_of (line_held m.receiver) b).deed (hear_of (line_held m.receiver) b).line h) (λ r. no_controller refl))

  -- what moves
  abbrev Moved : Done Mover → Type 0
  Moved x = Tells m [] (in_mover m x)

  turned_told : (f : Device → Turned) → Moved (turned_in f m.mover)
  unfolding turned_in
  turned_told f = by Moved (moves m.mover) (λ v. value (news_below 0 (f (device_held m.mover)).news (omega arith))) (λ v. no_controller refl)

  stop_told : Moved (stop_in m.mover)
  unfolding stop_in
  stop_told = by Moved (moves m.mover) (λ v. value (omega arith)) (λ v. no_controller refl)

  tick_told : (s : Sense) → Moved (tick_in s m.mover)
  unfolding tick_in
  tick_told s = by Moved (idle m.mover.small) (λ h. value (omega arith)) (λ h. turned_told _)

  module _ (z : Sized m) where
    run_told : (n : ℕ) (s : Sense) → Moved (run_in n s m.mover)
    unfolding run_in ran_of
    run_told n s =
        by Moved (moves m.mover)
        (λ v. by (λ (r : Ran). Moved (done (moved r.turned.device) (used_code r.used r.turned.news))) (ltb 60000 n)
        (λ h. long_run (ap (λ (x : Mover). in_mover m (done x s3)) (mover_just m z v)))
        (λ h. value (news_below _ _ (few h))))
        (λ v. no_controller refl)
      where
        few : ltb 60000 n ≡ false → used_of n (around m.mover.text s) (fine (device_held m.mover).core) ≤ 60000
        few h = omega (arith, count_within n (around m.mover.text s) (fine (device_held m.mover).core), ltb-false 60000 n h)

    call_told : (c : Call) → bytes_lent c < 9223372036854775808 → Tells m (buffer_lent c) (call_in c m)
    unfolding call_in listen_in
    call_told (byte b buf) h = byte_told b buf
    call_told (listen bytes) h =
        by (λ (x : Done Receiver). Tells m [] (spoke (memory m.address x.left m.mover) [] x.code)) (receives m.receiver)
        (λ r. value (omega (arith, h, taken_within (line_held m.receiver) bytes)))
        (λ r. no_controller refl)
    call_told (tick s) h = tick_told s
    call_told (advance n s) h = turned_told _
    call_told (run n s) h = run_told n s
    call_told stop h = stop_told

pub a_call_tells_a_value_or_changes_nothing : (c : Call) (m : Memory) → Sized m → bytes_lent c < 9223372036854775808 → Tells m (buffer_lent c) (call_in c m)
a_call_tells_a_value_or_changes_nothing c m z h = call_told m z c h

-- what is told of a device lies within its bounds
pub is_told : (most : ℕ) (f : Core → ℕ) → ((c : Core) → Valid c → f c ≤ most) → (w n s : List ℕ) → Asked most (tell_in f w n s)
unfolding tell_in
is_told most f h w n s = by (λ (x : ℕ). Asked most x) (is_pose (pose_in w n s) n s) (λ e. number (h (pose_in w n s).core (pose_valid w n s e))) (λ e. none refl)
