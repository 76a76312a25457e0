use Rattle.std.proofs.Common.{◌+◌, option_copied, ap}
use Rattle.mem_keeper.proofs.PlaceLemmas.{none_in_child}
use Rattle.mem_keeper.proofs.directory.ChildrenWanted.skips.Goals as goal

pub returns : goal.returns
returns c so =
    none_in_child c.args.self.now.dir.now c.args.least.now c.args.most.now c.in_ok-child.child (c.depth.result + 1) (option_copied c.args.self.now.after)
    (c.is_below.ensures.0 c.if-not-is_below.false) (ap (λ d. d + 1) c.depth.ensures.depth) c.in_ok-child.ensures (c.is_below-2.ensures.0 so)
