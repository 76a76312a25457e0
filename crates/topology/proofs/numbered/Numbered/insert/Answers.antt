use Rattle.std.proofs.Common.{ap, ◌∙◌}
use Rattle.std.specs.FinMap.{insert}
use Rattle.topology.proofs.TreeMaps.{insert-table}
use Rattle.topology.proofs.numbered.Numbered.insert.Goals as goal

pub returns-clause-ok : goal.returns-clause-ok
returns-clause-ok g c =
    insert-table c.self.inside.map c.insert.new.self c.args.number c.args.value c.in_ok-insert.ensures.updates
    ∙ ap (λ table. insert table c.args.number c.args.value) c.self.view_is
