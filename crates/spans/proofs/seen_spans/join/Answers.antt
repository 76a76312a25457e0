use Rattle.std.proofs.Common.{sym, subst, arith}
use Rattle.spans.specs.Visible.{AreJoined}
use Rattle.spans.proofs.Joined.{joined_all}
use Rattle.spans.proofs.seen_spans.join.Goals as goal

pub returns : goal.returns
returns c =
    let so_far = c.loop-stretch.invariant in
    subst (AreJoined c.args.stretches.now) (sym c.of.ensures)
    (joined_all c.args.stretches.now c.loop-stretch.spans.items c.loop-stretch.stretch-index c.loop-stretch.at (omega arith) so_far.apart so_far.ended so_far.rest so_far.so_far)
