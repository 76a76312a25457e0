use Rattle.std.proofs.Common.{arith}
use Rattle.std.proofs.lemmas.Grind.{common_steps}
use Rattle.weed_base.specs.declared.source.Failed.{Failed}
use Rattle.weed_base.proofs.ReadLemmas.{reads_front}
use Rattle.weed_base.proofs.mem.source.MemSourceSource.read.Goals as goal

pub returns-clause-bytes : goal.returns-clause-bytes
returns-clause-bytes g =
    let source = g.self.inside in
    rw (← g.self.view_is) (reads_front Failed source.bytes.items _ source.at source.most _ g.self.invariant.1 (grind (arith, common_steps)) (grind (arith, common_steps)))
