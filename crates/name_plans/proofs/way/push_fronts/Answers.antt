use Rattle.std.proofs.Common.{◌<◌, length, arith}
use Rattle.name_plans.proofs.Ways.{fronts_pushed}
use Rattle.name_plans.proofs.way.push_fronts.Goals as goal

pub loop-depth-preserved : goal.loop-depth-preserved
loop-depth-preserved c =
    let low : c.loop-depth.depth < length c.args.directory.now = omega arith in
    fronts_pushed c.args.time c.args.directory.now c.loop-depth.depth _ _ _ _ _ low c.in_ok-front.ensures c.directory_made_at.ensures c.in_ok-push.ensures.items c.loop-depth.invariant
