use Rattle.std.proofs.Common.{sym, ap, ◌∙◌}
use Rattle.std.specs.FinMap.{values}
use Rattle.topology.proofs.TreeMaps.{values-table}
use Rattle.topology.proofs.numbered.Numbered.values.Goals as goal

pub returns : goal.returns
returns g c = c.values.ensures.rest ∙ sym (values-table c.self.inside.map c.values.ensures.ordered) ∙ ap values c.self.view_is
