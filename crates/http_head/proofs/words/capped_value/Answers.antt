use Rattle.std.proofs.Common.{arith}
use Rattle.http_head.proofs.NumberLemmas.{capped_more}
use Rattle.http_head.proofs.words.capped_value.Goals as goal

pub loop-digit-preserved : goal.loop-digit-preserved
loop-digit-preserved c = λ all. let step = capped_more c.args.digits.now c.loop-digit.digit-index _ all (omega arith) (c.loop-digit.invariant all) in cc
