use Rattle.std.proofs.Common.{◌≤◌, length, arith}
use Rattle.line.proofs.Answering.{never, sum_fits, room_left, whole}
use Rattle.line.proofs.answer.Goals as goal

pub returns-in_err-size : goal.returns-in_err-size
returns-in_err-size c =
    let room : 32 ≤ length c.args.buf.now = omega arith in
    rw c.from_residual.ensures (never _ _ _ _ _ _ _ _ _ c.put_report.ensures c.lay.ensures c.start.ensures room c.in_err-size.was)

pub overflow_add-size : goal.overflow_add-size
overflow_add-size c =
    let room : 32 ≤ length c.args.buf.now = omega arith in
    sum_fits _ _ _ _ _ _ _ _ _ c.put_report.ensures c.lay.ensures c.start.ensures room _ c.in_ok-size.was

pub close-requires : goal.close-requires
close-requires c =
    let room : 32 ≤ length c.args.buf.now = omega arith in
    room_left _ _ _ _ _ _ _ _ _ c.put_report.ensures c.lay.ensures c.start.ensures room _ c.in_ok-size.was

pub returns : goal.returns
returns c =
    let room : 32 ≤ length c.args.buf.now = omega arith in
    whole _ _ _ _ _ _ _ _ _ c.put_report.ensures c.lay.ensures c.start.ensures room _ c.in_ok-size.was _ _ c.close.ensures
