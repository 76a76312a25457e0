use Rattle.proto_wire.proofs.Groups.{Scans}
use Rattle.proto_wire.proofs.scan.long_varint_of.Given as goal

abbrev pub invariant-loop-index : goal.invariant-loop-index
invariant-loop-index l = Scans l.text l.index l.value
