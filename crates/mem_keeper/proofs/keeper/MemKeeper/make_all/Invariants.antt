use Rattle.std.proofs.Common.{◌≡◌, ◌≤◌, ◌++◌}
use Rattle.std.specs.Vec.Iter.{into_iter_items}
use Rattle.name_core.specs.Namespace.{after_changes}
use Rattle.filer_keeper.specs.Commit.{MayBeMade, put_count}
use Rattle.mem_keeper.proofs.keeper.MemKeeper.make_all.Given as goal

-- The changes so far are made, and there is room for the others, which may be made.
abbrev pub invariant-loop-change : goal.invariant-loop-change
invariant-loop-change l = record {
  names : l.self.names ≡ after_changes l.yielded l.fn.self.names;
  changes : l.fn.changes ≡ l.yielded ++ into_iter_items l.change-iterator;
  spare : put_count (into_iter_items l.change-iterator) ≤ l.self.spares;
  may : MayBeMade (into_iter_items l.change-iterator);
}
