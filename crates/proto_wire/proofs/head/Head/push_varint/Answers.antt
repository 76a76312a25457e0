use Rattle.std.proofs.Common.{◌∙◌, arith}
use Rattle.proto_wire.proofs.Varint.{begins, goes_on, ends}
use Rattle.proto_wire.proofs.head.Head.push_varint.Goals as goal

pub loop-rest-init : goal.loop-rest-init
loop-rest-init c = begins c.args.self.now c.args.number c.requires (omega arith)

pub loop-rest-preserved : goal.loop-rest-preserved
loop-rest-preserved c = rw c.push.ensures (goes_on _ _ _ _ c.loop-rest-test.true c.loop-rest.invariant)

pub returns : goal.returns
returns c = c.push-2.ensures ∙ ends _ _ _ _ c.loop-rest-test.false c.loop-rest.invariant
