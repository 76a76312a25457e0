use Rattle.std.proofs.Common.{arith}
use Rattle.std.proofs.lemmas.List.{take_rest}
use Rattle.proto_wire.proofs.Groups.{one_byte}
use Rattle.proto_wire.proofs.scan.varint_of.Goals as goal

pub returns-in-len1-up : goal.returns-in-len1-up
returns-in-len1-up c =
    rw (take_rest c.args.text.now 1) (one_byte c.args.text.now c.from.result (omega arith) c.from.ensures (omega arith))
