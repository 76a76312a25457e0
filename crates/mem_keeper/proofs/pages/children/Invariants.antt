use Rattle.std.proofs.Common.{◌≡◌, map, take}
use Rattle.mem_keeper.specs.Items.{listed}
use Rattle.mem_keeper.specs.Names.{child_of}
use Rattle.mem_keeper.proofs.pages.children.Given as goal

-- The page has the children of the nodes so far.
abbrev pub invariant-loop-node : goal.invariant-loop-node
invariant-loop-node l = l.page.items ≡ map child_of (listed (take l.node-index l.nodes))
