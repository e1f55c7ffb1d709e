use Rattle.host.proofs.Calls.{is_datum, no_receiver, only_receiver, line_is_read}
use Rattle.host.proofs.pipettor_byte.Goals as goal

pub returns-then-collect : goal.returns-then-collect
returns-then-collect c = search (is_datum, c.if-collect.true, c.collect.ensures)

pub returns-in_default : goal.returns-in_default
returns-in_default c = search (no_receiver, c.in_default.is, c.line_read.ensures, c.if-collect.false, c.collect.ensures)

pub ended-requires : goal.ended-requires
ended-requires c = search (line_is_read, c.in-Some.is, c.line_read.ensures)

pub returns-in-Nothing : goal.returns-in-Nothing
returns-in-Nothing c = search (only_receiver, c.put_line.ensures, c.keep.ensures, c.in-Nothing.is, c.hear-heard.ensures, c.in-Some.is, c.line_read.ensures, c.if-collect.false, c.collect.ensures)
