use Rattle.std.proofs.Common.{◌≡◌}
use Rattle.name_core.proofs.PlanLoop.{PlansFront}
use Rattle.name_core.proofs.planning.new_directories.Given as goal

abbrev pub invariant-loop-depth : goal.invariant-loop-depth
invariant-loop-depth g l = record {
  map : g.V.Names.map l.view ≡ g.V.Names.map l.fn.view;
  faults : g.V.Names.faults l.view ≡ g.V.Names.faults l.fn.view;
  beside : g.V.Names.beside l.view ≡ g.V.Names.beside l.fn.view;
  front : PlansFront (g.V.Names.map l.fn.view) l.time l.path l.depth l.changes.items;
}
