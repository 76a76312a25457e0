use Rattle.std.proofs.Common.{arith}
use Rattle.records.proofs.Sizes.{counts_none, counts_more, counts_few, counts_all, counts_short}
use Rattle.records.proofs.measure.varint_size.Goals as goal

pub loop-rest-init : goal.loop-rest-init
loop-rest-init c = counts_none c.args.number (omega (arith, c.ranges.number.fits))

pub loop-rest-preserved : goal.loop-rest-preserved
loop-rest-preserved c = counts_more _ _ _ c.loop-rest-test.true c.loop-rest.invariant

pub overflow_add-size : goal.overflow_add-size
overflow_add-size c = let few = counts_few _ _ _ c.loop-rest.invariant in omega arith

pub returns-clause-exact : goal.returns-clause-exact
returns-clause-exact c = counts_all _ _ _ c.loop-rest-test.false c.loop-rest.invariant

pub returns-clause-short : goal.returns-clause-short
returns-clause-short c = counts_short _ _ _ c.loop-rest-test.false c.loop-rest.invariant
