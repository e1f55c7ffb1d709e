-- Theorems: the contract of every public function of the libraries below is tight. One, `desk::printed`, hands out a reference and has a statement of its own, at the end;
-- the console's `serve` has no result: it reads and writes. `host` stands beside this crate: its contracts are equations of what is left and what is returned.
use mathlib.Core.Bool.{false}
use mathlib.Core.Path.{◌≡◌, refl, sym, ap, ◌∙◌}
use mathlib.Core.List.{List}
use Prim.Native.Nat.{ℕ}
use contract.Lifetimes.{Lfts}
use denote.Ref.{Bor}
use denote.Triple.Clauses.{Lasts, at_exit}
use borrow.Fn.Kinds.{Dens, ended_of}
use Rattle.machine.specs.declared.act.Done.{Done}
use Rattle.machine.specs.Act.{Acted}
use Rattle.pipettor.specs.declared.lent.Spoke.{Spoke}
use Rattle.line.specs.Wire.{Received}
use Rattle.pipettor.specs.declared.Taken.{Taken}
use Rattle.pipettor.specs.Byte.{After}
use Rattle.basics.proofs as basics
use Rattle.decimal.proofs as decimal
use Rattle.settings.proofs.units as units
use Rattle.settings.proofs as settings
use Rattle.operand.proofs as operand
use Rattle.command.proofs as command
use Rattle.line.proofs as line
use Rattle.text.proofs as text
use Rattle.level.proofs as level
use Rattle.motion.proofs as motion
use Rattle.buffer.proofs as buffer
use Rattle.reports.proofs as reports
use Rattle.machine.proofs as machine
use Rattle.pipettor.proofs as pipettor
use Rattle.desk.proofs as desk
use Rattle.printing.proofs as printing
use Rattle.station.proofs as station
use Rattle.demands.specs.Tight.{Same, Tight}

-- a result that a contract gives by an equation, where nothing is lent to be changed
result : {A B : Type 0} {z z' v : A} {w : B} → z ≡ v → z' ≡ v → Same z z' w w
result p q = record { result_is = p ∙ sym q; left_is = refl }

-- the same with the bytes that are left in a lent slice, among what is left
lent : {A B : Type 0} (among : List ℕ → B) {z z' v : A} {l l' u : List ℕ} → z ≡ v → z' ≡ v → l ≡ u → l' ≡ u → Same z z' (among l) (among l')
lent among p q x y = record { result_is = p ∙ sym q; left_is = ap among (x ∙ sym y) }

-- the same where one equation gives the result and all that is left
whole : {A B C : Type 0} (value : C → A) (left : C → B) {x x' v : C} → x ≡ v → x' ≡ v → Same (value x) (value x') (left x) (left x')
whole value left p q = record { result_is = ap value (p ∙ sym q); left_is = ap left (p ∙ sym q) }

-- basics
pub basics_is_digit : Tight basics.is_digit.Kinds.ps basics.is_digit.Kinds.r basics.is_digit.Reads.Learnt
basics_is_digit κs args z z' ws ws' p q = result p q

pub basics_lay : Tight basics.lay.Kinds.ps basics.lay.Kinds.r basics.lay.Reads.Learnt
basics_lay κs args z z' ws ws' p q = lent (λ y. (tt, (y, (tt, tt)))) p.said q.said p.left q.left

-- decimal
pub decimal_put : Tight decimal.put.Kinds.ps decimal.put.Kinds.r decimal.put.Reads.Learnt
decimal_put κs args z z' ws ws' p q = lent (λ y. (tt, (tt, (y, (tt, tt))))) p.0.said q.0.said p.0.left q.0.left

-- units
pub units_tenths : Tight units.tenths.Kinds.ps units.tenths.Kinds.r units.tenths.Reads.Learnt
units_tenths κs args z z' ws ws' p q = result p q

pub units_flow : Tight units.flow.Kinds.ps units.flow.Kinds.r units.flow.Reads.Learnt
units_flow κs args z z' ws ws' p q = result p q

pub units_ticks : Tight units.ticks.Kinds.ps units.ticks.Kinds.r units.ticks.Reads.Learnt
units_ticks κs args z z' ws ws' p q = result p q

pub units_rate : Tight units.rate.Kinds.ps units.rate.Kinds.r units.rate.Reads.Learnt
units_rate κs args z z' ws ws' p q = result p q

pub units_goal : Tight units.goal.Kinds.ps units.goal.Kinds.r units.goal.Reads.Learnt
units_goal κs args z z' ws ws' p q = result p q

pub units_nanolitres : Tight units.nanolitres.Kinds.ps units.nanolitres.Kinds.r units.nanolitres.Reads.Learnt
units_nanolitres κs args z z' ws ws' p q = result p q

pub units_gone : Tight units.gone.Kinds.ps units.gone.Kinds.r units.gone.Reads.Learnt
units_gone κs args z z' ws ws' p q = result p q

-- settings
pub settings_Range_has : Tight settings.Range.has.Kinds.ps settings.Range.has.Kinds.r settings.Range.has.Reads.Learnt
settings_Range_has κs args z z' ws ws' p q = result p q

pub settings_Settings_default : Tight settings.SettingsDefault.default.Kinds.ps settings.SettingsDefault.default.Kinds.r settings.SettingsDefault.default.Reads.Learnt
settings_Settings_default κs args z z' ws ws' p q = result p q

pub settings_Settings_range : Tight settings.Settings.range.Kinds.ps settings.Settings.range.Kinds.r settings.Settings.range.Reads.Learnt
settings_Settings_range κs args z z' ws ws' p q = result p q

pub settings_Settings_usual : Tight settings.Settings.usual.Kinds.ps settings.Settings.usual.Kinds.r settings.Settings.usual.Reads.Learnt
settings_Settings_usual κs args z z' ws ws' p q = result p q

pub settings_Settings_speeds : Tight settings.Settings.speeds.Kinds.ps settings.Settings.speeds.Kinds.r settings.Settings.speeds.Reads.Learnt
settings_Settings_speeds κs args z z' ws ws' p q = result p q

pub settings_Settings_flows : Tight settings.Settings.flows.Kinds.ps settings.Settings.flows.Kinds.r settings.Settings.flows.Reads.Learnt
settings_Settings_flows κs args z z' ws ws' p q = result p q

pub settings_Settings_usual_speed : Tight settings.Settings.usual_speed.Kinds.ps settings.Settings.usual_speed.Kinds.r settings.Settings.usual_speed.Reads.Learnt
settings_Settings_usual_speed κs args z z' ws ws' p q = result p q

pub settings_Settings_aspects : Tight settings.Settings.aspects.Kinds.ps settings.Settings.aspects.Kinds.r settings.Settings.aspects.Reads.Learnt
settings_Settings_aspects κs args z z' ws ws' p q = result p q

pub settings_Settings_usual_aspect : Tight settings.Settings.usual_aspect.Kinds.ps settings.Settings.usual_aspect.Kinds.r settings.Settings.usual_aspect.Reads.Learnt
settings_Settings_usual_aspect κs args z z' ws ws' p q = result p q

pub settings_Detection_default : Tight settings.DetectionDefault.default.Kinds.ps settings.DetectionDefault.default.Kinds.r settings.DetectionDefault.default.Reads.Learnt
settings_Detection_default κs args z z' ws ws' p q = result p q

pub settings_Detection_with : Tight settings.Detection.with.Kinds.ps settings.Detection.with.Kinds.r settings.Detection.with.Reads.Learnt
settings_Detection_with κs args z z' ws ws' p q = result p q

pub settings_Volume_millionths : Tight settings.Volume.millionths.Kinds.ps settings.Volume.millionths.Kinds.r settings.Volume.millionths.Reads.Learnt
settings_Volume_millionths κs args z z' ws ws' p q = result p q

-- operand
pub operand_one : Tight operand.one.Kinds.ps operand.one.Kinds.r operand.one.Reads.Learnt
operand_one κs args z z' ws ws' p q = result p q

pub operand_only : Tight operand.only.Kinds.ps operand.only.Kinds.r operand.only.Reads.Learnt
operand_only κs args z z' ws ws' p q = result p q

pub operand_two : Tight operand.two.Kinds.ps operand.two.Kinds.r operand.two.Reads.Learnt
operand_two κs args z z' ws ws' p q = result p q

pub operand_extent : Tight operand.extent.Kinds.ps operand.extent.Kinds.r operand.extent.Reads.Learnt
operand_extent κs args z z' ws ws' p q = result p q

-- command
pub command_Letter_from : Tight command.LetterFromU8.from.Kinds.ps command.LetterFromU8.from.Kinds.r command.LetterFromU8.from.Reads.Learnt
command_Letter_from κs args z z' ws ws' p q = result p q

pub command_refusal_Misread_number : Tight command.refusal.Misread.number.Kinds.ps command.refusal.Misread.number.Kinds.r command.refusal.Misread.number.Reads.Learnt
command_refusal_Misread_number κs args z z' ws ws' p q = result p q

pub command_refusal_Refusal_number : Tight command.refusal.Refusal.number.Kinds.ps command.refusal.Refusal.number.Kinds.r command.refusal.Refusal.number.Reads.Learnt
command_refusal_Refusal_number κs args z z' ws ws' p q = result p q

pub command_refusal_Refusal_column : Tight command.refusal.Refusal.column.Kinds.ps command.refusal.Refusal.column.Kinds.r command.refusal.Refusal.column.Reads.Learnt
command_refusal_Refusal_column κs args z z' ws ws' p q = result p q

pub command_refusal_number : Tight command.refusal.number.Kinds.ps command.refusal.number.Kinds.r command.refusal.number.Reads.Learnt
command_refusal_number κs args z z' ws ws' p q = result p q

pub command_command_at : Tight command.command_at.Kinds.ps command.command_at.Kinds.r command.command_at.Reads.Learnt
command_command_at κs args z z' ws ws' p q = result p q

-- line
pub line_printable : Tight line.printable.Kinds.ps line.printable.Kinds.r line.printable.Reads.Learnt
line_printable κs args z z' ws ws' p q = result p q

pub line_Line_fresh : Tight line.Line.fresh.Kinds.ps line.Line.fresh.Kinds.r line.Line.fresh.Reads.Learnt
line_Line_fresh κs args z z' ws ws' p q = result p q

pub line_Line_framing : Tight line.Line.framing.Kinds.ps line.Line.framing.Kinds.r line.Line.framing.Reads.Learnt
line_Line_framing κs args z z' ws ws' p q = result p q

pub line_dt_Dt_hear : Tight line.dt.Dt.hear.Kinds.ps line.dt.Dt.hear.Kinds.r line.dt.Dt.hear.Reads.Learnt
line_dt_Dt_hear κs args z z' ws ws' p q = result p q

pub line_oem_Oem_hear : Tight line.oem.Oem.hear.Kinds.ps line.oem.Oem.hear.Kinds.r line.oem.Oem.hear.Reads.Learnt
line_oem_Oem_hear κs args z z' ws ws' p q = result p q

pub line_Line_hear : Tight line.Line.hear.Kinds.ps line.Line.hear.Kinds.r line.Line.hear.Reads.Learnt
line_Line_hear κs args z z' ws ws' p q = result p q

pub line_Deed_is_whole : Tight line.Deed.is_whole.Kinds.ps line.Deed.is_whole.Kinds.r line.Deed.is_whole.Reads.Learnt
line_Deed_is_whole κs args z z' ws ws' p q = result p q

pub line_keep : Tight line.keep.Kinds.ps line.keep.Kinds.r line.keep.Reads.Learnt
line_keep κs args z z' ws ws' p q = lent (λ y. (y, (tt, (tt, tt)))) refl refl p q

pub line_status : Tight line.status.Kinds.ps line.status.Kinds.r line.status.Reads.Learnt
line_status κs args z z' ws ws' p q = result p q

pub line_sum : Tight line.sum.Kinds.ps line.sum.Kinds.r line.sum.Reads.Learnt
line_sum κs args z z' ws ws' p q = result p q

pub line_answer : Tight line.answer.Kinds.ps line.answer.Kinds.r line.answer.Reads.Learnt
line_answer κs args z z' ws ws' p q = lent (λ y. (tt, (tt, (tt, (y, tt))))) p.said q.said p.left q.left

-- text
pub text_check : Tight text.check.Kinds.ps text.check.Kinds.r text.check.Reads.Learnt
text_check κs args z z' ws ws' p q = result p q

pub text_squeeze : Tight text.squeeze.Kinds.ps text.squeeze.Kinds.r text.squeeze.Reads.Learnt
text_squeeze κs args z z' ws ws' p q = lent (λ y. (y, tt)) p.count q.count p.bytes q.bytes

pub text_read : Tight text.read.Kinds.ps text.read.Kinds.r text.read.Reads.Learnt
text_read κs args z z' ws ws' p q = result p q

pub text_loops_loops_ok : Tight text.loops.loops_ok.Kinds.ps text.loops.loops_ok.Kinds.r text.loops.loops_ok.Reads.Learnt
text_loops_loops_ok κs args z z' ws ws' p q = result p q

-- level
pub level_felt : Tight level.felt.Kinds.ps level.felt.Kinds.r level.felt.Reads.Learnt
level_felt κs args z z' ws ws' p q = result p q

pub level_Search_begin : Tight level.Search.begin.Kinds.ps level.Search.begin.Kinds.r level.Search.begin.Reads.Learnt
level_Search_begin κs args z z' ws ws' p q = result p q

pub level_Search_onward : Tight level.Search.onward.Kinds.ps level.Search.onward.Kinds.r level.Search.onward.Reads.Learnt
level_Search_onward κs args z z' ws ws' p q = result p q

-- motion
pub motion_Sense_nothing : Tight motion.Sense.nothing.Kinds.ps motion.Sense.nothing.Kinds.r motion.Sense.nothing.Reads.Learnt
motion_Sense_nothing κs args z z' ws ws' p q = result p q

pub motion_Sense_with_tip : Tight motion.Sense.with_tip.Kinds.ps motion.Sense.with_tip.Kinds.r motion.Sense.with_tip.Reads.Learnt
motion_Sense_with_tip κs args z z' ws ws' p q = result p q

pub motion_Sense_with_reading : Tight motion.Sense.with_reading.Kinds.ps motion.Sense.with_reading.Kinds.r motion.Sense.with_reading.Reads.Learnt
motion_Sense_with_reading κs args z z' ws ws' p q = result p q

pub motion_Body_fresh : Tight motion.Body.fresh.Kinds.ps motion.Body.fresh.Kinds.r motion.Body.fresh.Reads.Learnt
motion_Body_fresh κs args z z' ws ws' p q = result p q

pub motion_Body_effect : Tight motion.Body.effect.Kinds.ps motion.Body.effect.Kinds.r motion.Body.effect.Reads.Learnt
motion_Body_effect κs args z z' ws ws' p q = result p q

pub motion_Body_onward : Tight motion.Body.onward.Kinds.ps motion.Body.onward.Kinds.r motion.Body.onward.Reads.Learnt
motion_Body_onward κs args z z' ws ws' p q = result p q

pub motion_Activity_moves : Tight motion.Activity.moves.Kinds.ps motion.Activity.moves.Kinds.r motion.Activity.moves.Reads.Learnt
motion_Activity_moves κs args z z' ws ws' p q = result p q

pub motion_Activity_between : Tight motion.Activity.between.Kinds.ps motion.Activity.between.Kinds.r motion.Activity.between.Reads.Learnt
motion_Activity_between κs args z z' ws ws' p q = result p q

pub motion_Body_cut : Tight motion.Body.cut.Kinds.ps motion.Body.cut.Kinds.r motion.Body.cut.Reads.Learnt
motion_Body_cut κs args z z' ws ws' p q = result p q

pub motion_Body_reset : Tight motion.Body.reset.Kinds.ps motion.Body.reset.Kinds.r motion.Body.reset.Reads.Learnt
motion_Body_reset κs args z z' ws ws' p q = result p q

-- buffer
pub buffer_course_Loops_none : Tight buffer.course.Loops.none.Kinds.ps buffer.course.Loops.none.Kinds.r buffer.course.Loops.none.Reads.Learnt
buffer_course_Loops_none κs args z z' ws ws' p q = result p q

pub buffer_course_Course_reach : Tight buffer.course.Course.reach.Kinds.ps buffer.course.Course.reach.Kinds.r buffer.course.Course.reach.Reads.Learnt
buffer_course_Course_reach κs args z z' ws ws' p q = result p q

pub buffer_course_Course_go_on : Tight buffer.course.Course.go_on.Kinds.ps buffer.course.Course.go_on.Kinds.r buffer.course.Course.go_on.Reads.Learnt
buffer_course_Course_go_on κs args z z' ws ws' p q = result p q

pub buffer_course_Course_failed : Tight buffer.course.Course.failed.Kinds.ps buffer.course.Course.failed.Kinds.r buffer.course.Course.failed.Reads.Learnt
buffer_course_Course_failed κs args z z' ws ws' p q = result p q

pub buffer_course_Course_open : Tight buffer.course.Course.open.Kinds.ps buffer.course.Course.open.Kinds.r buffer.course.Course.open.Reads.Learnt
buffer_course_Course_open κs args z z' ws ws' p q = result p q

pub buffer_course_Course_close : Tight buffer.course.Course.close.Kinds.ps buffer.course.Course.close.Kinds.r buffer.course.Course.close.Reads.Learnt
buffer_course_Course_close κs args z z' ws ws' p q = result p q

pub buffer_course_Course_in_state : Tight buffer.course.Course.in_state.Kinds.ps buffer.course.Course.in_state.Kinds.r buffer.course.Course.in_state.Reads.Learnt
buffer_course_Course_in_state κs args z z' ws ws' p q = result p q

pub buffer_course_Course_with_error : Tight buffer.course.Course.with_error.Kinds.ps buffer.course.Course.with_error.Kinds.r buffer.course.Course.with_error.Reads.Learnt
buffer_course_Course_with_error κs args z z' ws ws' p q = result p q

pub buffer_course_Course_wait : Tight buffer.course.Course.wait.Kinds.ps buffer.course.Course.wait.Kinds.r buffer.course.Course.wait.Reads.Learnt
buffer_course_Course_wait κs args z z' ws ws' p q = result p q

pub buffer_course_Course_begin : Tight buffer.course.Course.begin.Kinds.ps buffer.course.Course.begin.Kinds.r buffer.course.Course.begin.Reads.Learnt
buffer_course_Course_begin κs args z z' ws ws' p q = result p q

pub buffer_course_Course_erase : Tight buffer.course.Course.erase.Kinds.ps buffer.course.Course.erase.Kinds.r buffer.course.Course.erase.Reads.Learnt
buffer_course_Course_erase κs args z z' ws ws' p q = result p q

pub buffer_course_Course_halt : Tight buffer.course.Course.halt.Kinds.ps buffer.course.Course.halt.Kinds.r buffer.course.Course.halt.Reads.Learnt
buffer_course_Course_halt κs args z z' ws ws' p q = result p q

pub buffer_course_State_column : Tight buffer.course.State.column.Kinds.ps buffer.course.State.column.Kinds.r buffer.course.State.column.Reads.Learnt
buffer_course_State_column κs args z z' ws ws' p q = result p q

pub buffer_order_Action_order : Tight buffer.order.Action.order.Kinds.ps buffer.order.Action.order.Kinds.r buffer.order.Action.order.Reads.Learnt
buffer_order_Action_order κs args z z' ws ws' p q = result p q

pub buffer_order_Loading_kept : Tight buffer.order.Loading.kept.Kinds.ps buffer.order.Loading.kept.Kinds.r buffer.order.Loading.kept.Reads.Learnt
buffer_order_Loading_kept κs args z z' ws ws' p q = result p q

pub buffer_order_Order_verdict : Tight buffer.order.Order.verdict.Kinds.ps buffer.order.Order.verdict.Kinds.r buffer.order.Order.verdict.Reads.Learnt
buffer_order_Order_verdict κs args z z' ws ws' p q = result p q

pub buffer_order_store : Tight buffer.order.store.Kinds.ps buffer.order.store.Kinds.r buffer.order.store.Reads.Learnt
buffer_order_store κs args z z' ws ws' p q = lent (λ y. (tt, (tt, (tt, (tt, (y, tt)))))) refl refl p q

-- reports
pub reports_tell : Tight reports.tell.Kinds.ps reports.tell.Kinds.r reports.tell.Reads.Learnt
reports_tell κs args z z' ws ws' p q = result p q

-- machine
pub machine_tip_after : Tight machine.tip_after.Kinds.ps machine.tip_after.Kinds.r machine.tip_after.Reads.Learnt
machine_tip_after κs args z z' ws ws' p q = result p q

pub machine_step_Core_ready : Tight machine.step.Core.ready.Kinds.ps machine.step.Core.ready.Kinds.r machine.step.Core.ready.Reads.Learnt
machine_step_Core_ready κs args z z' ws ws' p q = result p q

pub machine_step_News_none : Tight machine.step.News.none.Kinds.ps machine.step.News.none.Kinds.r machine.step.News.none.Reads.Learnt
machine_step_News_none κs args z z' ws ws' p q = result p q

pub machine_step_run : Tight machine.step.run.Kinds.ps machine.step.run.Kinds.r machine.step.run.Reads.Learnt
machine_step_run κs args z z' ws ws' p q = result p q

pub machine_step_Core_stop : Tight machine.step.Core.stop.Kinds.ps machine.step.Core.stop.Kinds.r machine.step.Core.stop.Reads.Learnt
machine_step_Core_stop κs args z z' ws ws' p q = result p q

pub machine_step_Core_with_error : Tight machine.step.Core.with_error.Kinds.ps machine.step.Core.with_error.Kinds.r machine.step.Core.with_error.Reads.Learnt
machine_step_Core_with_error κs args z z' ws ws' p q = result p q

abbrev done : Acted → Done
done a = record { core = a.device.core; verdict = a.verdict }

pub machine_step_Core_act : Tight machine.step.Core.act.Kinds.ps machine.step.Core.act.Kinds.r machine.step.Core.act.Reads.Learnt
machine_step_Core_act κs args z z' ws ws' p q = whole done (λ (a : Acted). (tt, (tt, (tt, (a.device.text, tt))))) (p.is false) (q.is false)

pub machine_step_Core_skip : Tight machine.step.Core.skip.Kinds.ps machine.step.Core.skip.Kinds.r machine.step.Core.skip.Reads.Learnt
machine_step_Core_skip κs args z z' ws ws' p q = result p q

pub machine_Device_fresh : Tight machine.Device.fresh.Kinds.ps machine.Device.fresh.Kinds.r machine.Device.fresh.Reads.Learnt
machine_Device_fresh κs args z z' ws ws' p q = result p q

pub machine_Device_tick : Tight machine.Device.tick.Kinds.ps machine.Device.tick.Kinds.r machine.Device.tick.Reads.Learnt
machine_Device_tick κs args z z' ws ws' p q = result p q

pub machine_Device_advance : Tight machine.Device.advance.Kinds.ps machine.Device.advance.Kinds.r machine.Device.advance.Reads.Learnt
machine_Device_advance κs args z z' ws ws' p q = result p q

pub machine_Device_run : Tight machine.Device.run.Kinds.ps machine.Device.run.Kinds.r machine.Device.run.Reads.Learnt
machine_Device_run κs args z z' ws ws' p q = result p q

pub machine_Device_stop : Tight machine.Device.stop.Kinds.ps machine.Device.stop.Kinds.r machine.Device.stop.Reads.Learnt
machine_Device_stop κs args z z' ws ws' p q = result p q

-- pipettor
pub pipettor_address_Address_try_from : Tight pipettor.address.AddressTryFromU32.try_from.Kinds.ps pipettor.address.AddressTryFromU32.try_from.Kinds.r pipettor.address.AddressTryFromU32.try_from.Reads.Learnt
pipettor_address_Address_try_from κs args z z' ws ws' p q = result p q

pub pipettor_address_Address_letter : Tight pipettor.address.Address.letter.Kinds.ps pipettor.address.Address.letter.Kinds.r pipettor.address.Address.letter.Reads.Learnt
pipettor_address_Address_letter κs args z z' ws ws' p q = result p q

-- a receiver that has taken bytes
abbrev taken : Received → ℕ → Taken
taken r n = record { line = r.line; n = n }

pub pipettor_receive : Tight pipettor.receive.Kinds.ps pipettor.receive.Kinds.r pipettor.receive.Reads.Learnt
pipettor_receive κs args z z' ws ws' p q =
    let same = p.receiver ∙ sym q.receiver in
    record {
      result_is = ap (λ (r : Received). taken r z.n) same ∙ ap (λ (n : ℕ). record { line = z'.line; n = n }) (p.count ∙ sym q.count);
      left_is = ap (λ (r : Received). (tt, (r.frame, (tt, tt)))) same;
    }

pub pipettor_Controller_fresh : Tight pipettor.Controller.fresh.Kinds.ps pipettor.Controller.fresh.Kinds.r pipettor.Controller.fresh.Reads.Learnt
pipettor_Controller_fresh κs args z z' ws ws' p q = result p.is q.is

abbrev spoke : After → Spoke
spoke a = let c = a.reply.controller in record { parts = record { address = c.address; line = c.line; tip = c.device.tip; core = c.device.core }; said = a.reply.said }

pub pipettor_lent_Parts_byte : Tight pipettor.lent.Parts.byte.Kinds.ps pipettor.lent.Parts.byte.Kinds.r pipettor.lent.Parts.byte.Reads.Learnt
pipettor_lent_Parts_byte κs args z z' ws ws' p q = whole spoke (λ (a : After). let c = a.reply.controller in (tt, (tt, (c.frame, (c.device.text, (a.buffer, tt)))))) p.is q.is

pub pipettor_Controller_byte : Tight pipettor.Controller.byte.Kinds.ps pipettor.Controller.byte.Kinds.r pipettor.Controller.byte.Reads.Learnt
pipettor_Controller_byte κs args z z' ws ws' p q = whole (λ (a : After). a.reply) (λ (a : After). (tt, (tt, (a.buffer, tt)))) p.is q.is

pub pipettor_Controller_listen : Tight pipettor.Controller.listen.Kinds.ps pipettor.Controller.listen.Kinds.r pipettor.Controller.listen.Reads.Learnt
pipettor_Controller_listen κs args z z' ws ws' p q = result p.is q.is

pub pipettor_Controller_framing : Tight pipettor.Controller.framing.Kinds.ps pipettor.Controller.framing.Kinds.r pipettor.Controller.framing.Reads.Learnt
pipettor_Controller_framing κs args z z' ws ws' p q = result p q

pub pipettor_Controller_ready : Tight pipettor.Controller.ready.Kinds.ps pipettor.Controller.ready.Kinds.r pipettor.Controller.ready.Reads.Learnt
pipettor_Controller_ready κs args z z' ws ws' p q = result p q

pub pipettor_Controller_tick : Tight pipettor.Controller.tick.Kinds.ps pipettor.Controller.tick.Kinds.r pipettor.Controller.tick.Reads.Learnt
pipettor_Controller_tick κs args z z' ws ws' p q = result p.is q.is

pub pipettor_Controller_advance : Tight pipettor.Controller.advance.Kinds.ps pipettor.Controller.advance.Kinds.r pipettor.Controller.advance.Reads.Learnt
pipettor_Controller_advance κs args z z' ws ws' p q = result p.is q.is

pub pipettor_Controller_run : Tight pipettor.Controller.run.Kinds.ps pipettor.Controller.run.Kinds.r pipettor.Controller.run.Reads.Learnt
pipettor_Controller_run κs args z z' ws ws' p q = result p.is q.is

pub pipettor_Controller_stop : Tight pipettor.Controller.stop.Kinds.ps pipettor.Controller.stop.Kinds.r pipettor.Controller.stop.Reads.Learnt
pipettor_Controller_stop κs args z z' ws ws' p q = result p.is q.is

-- desk
pub desk_read : Tight desk.read.Kinds.ps desk.read.Kinds.r desk.read.Reads.Learnt
desk_read κs args z z' ws ws' p q = result p q

pub desk_hex_paired : Tight desk.hex.paired.Kinds.ps desk.hex.paired.Kinds.r desk.hex.paired.Reads.Learnt
desk_hex_paired κs args z z' ws ws' p q = result p q

pub desk_hex_byte : Tight desk.hex.byte.Kinds.ps desk.hex.byte.Kinds.r desk.hex.byte.Reads.Learnt
desk_hex_byte κs args z z' ws ws' p q = result p q

pub desk_hex_high : Tight desk.hex.high.Kinds.ps desk.hex.high.Kinds.r desk.hex.high.Reads.Learnt
desk_hex_high κs args z z' ws ws' p q = result p q

pub desk_hex_low : Tight desk.hex.low.Kinds.ps desk.hex.low.Kinds.r desk.hex.low.Reads.Learnt
desk_hex_low κs args z z' ws ws' p q = result p q

pub desk_line_end : Tight desk.line_end.Kinds.ps desk.line_end.Kinds.r desk.line_end.Reads.Learnt
desk_line_end κs args z z' ws ws' p q = result p.place q.place

-- the one exception, since it hands out a reference: its contract determines the bytes that are seen through it, and not where they lie
pub desk_printed :
    (κs : Lfts 1) (args : Dens κs desk.printed.Kinds.ps) (z z' : Bor (List ℕ)) (ws : Lasts (ended_of 1 desk.printed.Kinds.ps desk.printed.Kinds.r) κs args) →
    desk.printed.Reads.Learnt κs args z (at_exit (ended_of 1 desk.printed.Kinds.ps desk.printed.Kinds.r) κs args ws) →
    desk.printed.Reads.Learnt κs args z' (at_exit (ended_of 1 desk.printed.Kinds.ps desk.printed.Kinds.r) κs args ws) → z.now ≡ z'.now
desk_printed κs args z z' ws p q = p ∙ sym q

-- printing
pub printing_line : Tight printing.line.Kinds.ps printing.line.Kinds.r printing.line.Reads.Learnt
printing_line κs args z z' ws ws' p q = lent (λ y. (tt, (y, (tt, tt)))) p.ends q.ends p.left q.left

pub printing_place : Tight printing.place.Kinds.ps printing.place.Kinds.r printing.place.Reads.Learnt
printing_place κs args z z' ws ws' p q = lent (λ y. (tt, (tt, (tt, (y, (tt, tt)))))) p.ends q.ends p.left q.left

pub printing_used : Tight printing.used.Kinds.ps printing.used.Kinds.r printing.used.Reads.Learnt
printing_used κs args z z' ws ws' p q = lent (λ y. (tt, (tt, (tt, (tt, (y, (tt, tt))))))) p.ends q.ends p.left q.left

pub printing_show : Tight printing.show.Kinds.ps printing.show.Kinds.r printing.show.Reads.Learnt
printing_show κs args z z' ws ws' p q = lent (λ y. (tt, (tt, (tt, (y, (tt, tt)))))) p.ends q.ends p.left q.left

pub printing_raw : Tight printing.raw.Kinds.ps printing.raw.Kinds.r printing.raw.Reads.Learnt
printing_raw κs args z z' ws ws' p q = lent (λ y. (tt, (tt, (tt, (y, (tt, tt)))))) p.ends q.ends p.left q.left

pub printing_close : Tight printing.close.Kinds.ps printing.close.Kinds.r printing.close.Reads.Learnt
printing_close κs args z z' ws ws' p q = lent (λ y. (tt, (y, (tt, tt)))) p.ends q.ends p.left q.left

-- station
pub station_Station_new : Tight station.Station.new.Kinds.ps station.Station.new.Kinds.r station.Station.new.Reads.Learnt
station_Station_new κs args z z' ws ws' p q = result p q

pub station_Station_answer : Tight station.Station.answer.Kinds.ps station.Station.answer.Kinds.r station.Station.answer.Reads.Learnt
station_Station_answer κs args z z' ws ws' p q = record {
  result_is = λ i. record { station = (p.is ∙ sym q.is) i; end = (p.prints.ends ∙ sym q.prints.ends) i };
  left_is = ap (λ (y : List ℕ). (tt, (tt, (y, (tt, tt))))) (p.prints.left ∙ sym q.prints.left);
}
