use Rattle.std.proofs.Common.{◌≡◌, ◌≤◌, ◌++◌, length}
use Rattle.std.specs.Vec.Iter.{into_iter_items}
use Rattle.name_core.specs.Namespace.{after_changes}
use Rattle.weed_command.specs.NameTable.{names_of, spare_of}
use Rattle.weed_command.proofs.name_table.NameTable.commit.Given as goal

-- The changes so far are made, and there is room for the others.
abbrev pub invariant-loop-change : goal.invariant-loop-change
invariant-loop-change l = record {
  names : names_of l.self ≡ after_changes l.yielded (names_of l.fn.self);
  changes : l.fn.changes ≡ l.yielded ++ into_iter_items l.change-iterator;
  spare : length (into_iter_items l.change-iterator) ≤ spare_of l.self;
}
