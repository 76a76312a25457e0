use Rattle.std.proofs.Common.{◌≡◌, ◌++◌, false, map}
use Rattle.std.specs.Vec.Iter.{into_iter_items}
use Rattle.name_plans.specs.Moving.{moved_put, outgrows}
use Rattle.name_plans.specs.Paging.{last_path}
use Rattle.name_plans.proofs.moving.push_page.Given as goal

-- A put for each item so far is there, and the last one's path is kept.
abbrev pub invariant-loop-path : goal.invariant-loop-path
invariant-loop-path l = record {
  page : l.fn.page.items ≡ l.yielded ++ into_iter_items l.path-iterator;
  pushed : l.changes.items ≡ l.fn.changes.items ++ map (moved_put l.from l.to) l.yielded;
  within : outgrows l.from l.to l.yielded ≡ false;
  last : l.last ≡ last_path l.yielded;
}
