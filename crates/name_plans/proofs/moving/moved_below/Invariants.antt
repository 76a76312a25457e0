use Rattle.std.proofs.Common.{◌≡◌, ◌-◌, ◌^◌, length}
use Rattle.name_plans.specs.Makeable.{AreMakeable}
use Rattle.name_plans.proofs.PageLoop.{MovesFront}
use Rattle.name_plans.proofs.moving.moved_below.Given as goal

-- What is below, up to a path, has its puts.
abbrev pub invariant-loop-after : goal.invariant-loop-after
invariant-loop-after g l = record {
  map : g.V.Names.map l.view ≡ g.V.Names.map l.fn.view;
  faults : g.V.Names.faults l.view ≡ g.V.Names.faults l.fn.view;
  beside : g.V.Names.beside l.view ≡ g.V.Names.beside l.fn.view;
  front : MovesFront (g.V.Names.map l.fn.view) l.from l.to l.after l.changes.items;
  makeable : AreMakeable l.changes.items;
}

-- Each page but the last adds changes, and a list of them has an end.
abbrev pub decreases-loop-after : goal.decreases-loop-after
decreases-loop-after g l = 2 ^ 63 - length l.changes.items
