use Rattle.records.proofs.Sizes.{CountsSo}
use Rattle.records.proofs.measure.varint_size.Given as goal

abbrev pub invariant-loop-rest : goal.invariant-loop-rest
invariant-loop-rest l = CountsSo l.number l.size l.rest

abbrev pub decreases-loop-rest : goal.decreases-loop-rest
decreases-loop-rest l = l.rest
