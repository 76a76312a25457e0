use Rattle.proto_wire.proofs.Groups.{group_is}
use Rattle.proto_wire.proofs.scan.group_at.Goals as goal

pub returns : goal.returns
returns c = group_is _ _ _ c.from.ensures c.requires.place c.requires.last
