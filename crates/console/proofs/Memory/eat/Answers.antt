use Rattle.std.proofs.Common.{rules}
use Rattle.console.proofs.Lines.{again, chunk_over, still_sound, line_room}
use Rattle.console.proofs.Memory.eat.Goals as goal

pub finish-requires-clause-sound : goal.finish-requires-clause-sound
finish-requires-clause-sound c = still_sound _ _ _ _ c.loop-from.invariant _ _ c.put.ensures

pub finish-requires-clause-room : goal.finish-requires-clause-room
finish-requires-clause-room c = line_room _ _ _ _ c.loop-from.invariant c.loop-from-test.true _ c.line_end-end.ensures _ c.requires.sound c.requires.chunk_len_bound c.put.ensures

pub loop-from-preserved : goal.loop-from-preserved
loop-from-preserved c = again _ _ _ _ c.loop-from.invariant c.loop-from-test.true _ c.line_end-end.ensures _ _ _ c.put.ensures (search rules) c.finish.ensures

pub returns : goal.returns
returns c = chunk_over _ _ _ _ c.loop-from.invariant c.loop-from-test.false
