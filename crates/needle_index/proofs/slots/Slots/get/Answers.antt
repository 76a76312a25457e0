use Rattle.std.proofs.Common.{◌∙◌}
use Rattle.needle_index.proofs.Maps.{looked_up}
use Rattle.needle_index.proofs.slots.Slots.get.Goals as goal

pub returns : goal.returns
returns c = rw (← c.self.view_is) (c.copied.ensures ∙ c.get.ensures.value ∙ looked_up c.args.key c.self.inside.map.entries)
