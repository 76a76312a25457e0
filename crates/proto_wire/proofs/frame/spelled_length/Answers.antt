use Rattle.std.proofs.Common.{arith}
use Rattle.proto_wire.proofs.Frames.{length_spelled}
use Rattle.proto_wire.proofs.frame.spelled_length.Goals as goal

pub returns-clause-text : goal.returns-clause-text
returns-clause-text c = length_spelled c.args.head.now c.from_be_bytes.result c.requires (λ i. omega (arith, c.type_inv.head i)) (omega arith)
