use Rattle.proto_wire.proofs.Varint.{Pushes}
use Rattle.proto_wire.proofs.head.Head.push_varint.Given as goal

abbrev pub invariant-loop-rest : goal.invariant-loop-rest
invariant-loop-rest l = Pushes l.fn.self l.number l.self l.rest

abbrev pub decreases-loop-rest : goal.decreases-loop-rest
decreases-loop-rest l = l.rest
