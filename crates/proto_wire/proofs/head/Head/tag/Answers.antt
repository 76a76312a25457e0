use Rattle.proto_wire.proofs.Varint.{length-alone}
use Rattle.proto_wire.proofs.head.Head.tag.Goals as goal

pub returns-clause-room : goal.returns-clause-room
returns-clause-room c = length-alone _ _ _ c.new-head.ensures c.push_varint.ensures
