use Rattle.std.proofs.Common.{◌≡◌, map}
use Rattle.mem_keeper.specs.Names.{child_of}
use Rattle.sql_keeper.proofs.page.children.Given as goal

-- The items so far are made.
abbrev pub invariant-loop-item : goal.invariant-loop-item
invariant-loop-item l = l.made.items ≡ map child_of l.yielded
