use Rattle.host.proofs.Calls.{is_spoken}
use Rattle.host.proofs.ended.Goals as goal

pub returns : goal.returns
returns c = search (is_spoken, c.code.ensures, c.put.ensures, c.put_line.ensures, c.address_number.ensures, c.byte-said.ensures, c.in-Some.is, c.pose_read.ensures.is, c.in-Ok.is, c.address_in.ensures, c.requires)
