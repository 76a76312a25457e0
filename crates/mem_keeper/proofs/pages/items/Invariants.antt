use Rattle.std.proofs.Common.{◌≡◌, take}
use Rattle.mem_keeper.specs.Items.{listed}
use Rattle.mem_keeper.proofs.pages.items.Given as goal

-- The page has the items of the nodes so far.
abbrev pub invariant-loop-node : goal.invariant-loop-node
invariant-loop-node l = l.page.items ≡ listed (take l.node-index l.nodes)
