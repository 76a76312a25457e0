use Rattle.std.proofs.Common.{sym, ap, ◌∙◌}
use Rattle.std.specs.FinMap.{len}
use Rattle.topology.proofs.TreeMaps.{len-table}
use Rattle.topology.proofs.numbered.Numbered.len.Goals as goal

pub returns : goal.returns
returns g c = c.len.ensures.len ∙ sym (len-table c.self.inside.map c.len.ensures.ordered) ∙ ap len c.self.view_is
