use Rattle.std.proofs.Common.{sym, arith}
use Rattle.file_id.proofs.Cuts.{cut_last-place, cut_last-no_place}
use Rattle.file_id.proofs.reading.cut_last.Goals as goal

pub returns-then-text-at : goal.returns-then-text-at
returns-then-text-at c = sym (cut_last-place _ _ _ (omega arith) c.if-text-at.true (λ k low h. c.loop-at.invariant k (omega arith) h))

pub returns : goal.returns
returns c = sym (cut_last-no_place _ _ (λ k h. c.loop-at.invariant k (omega arith) h))
