use Rattle.std.proofs.Common.{◌≡◌}
use Rattle.name_plans.proofs.Ways.{MakesFront}
use Rattle.name_plans.proofs.way.way_to.Given as goal

-- The fronts so far have new directories where they are missing.
abbrev pub invariant-loop-depth : goal.invariant-loop-depth
invariant-loop-depth g l = record {
  map : g.V.Names.map l.view ≡ g.V.Names.map l.fn.view;
  faults : g.V.Names.faults l.view ≡ g.V.Names.faults l.fn.view;
  beside : g.V.Names.beside l.view ≡ g.V.Names.beside l.fn.view;
  front : MakesFront (g.V.Names.map l.fn.view) l.time l.directory l.depth l.changes.items;
}
