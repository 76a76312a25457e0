use Rattle.std.proofs.Common.{sym, ap, ◌∙◌}
use Rattle.std.specs.FinMap.{get}
use Rattle.topology.proofs.TreeMaps.{get-table}
use Rattle.topology.proofs.numbered.Numbered.get.Goals as goal

pub returns : goal.returns
returns g c =
    c.get.ensures.value ∙ sym (get-table c.self.inside.map c.args.number) ∙ ap (λ table. get table c.args.number) c.self.view_is
