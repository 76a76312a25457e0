use Rattle.std.proofs.Common.{sym, ap, ◌∙◌}
use Rattle.std.specs.FinMap.{entries}
use Rattle.topology.proofs.TreeMaps.{entries-sorted}
use Rattle.topology.proofs.numbered.Numbered.entries.Goals as goal

pub returns : goal.returns
returns g c = c.iter.ensures.rest ∙ sym (entries-sorted c.self.inside.map.entries c.iter.ensures.ordered) ∙ ap entries c.self.view_is
