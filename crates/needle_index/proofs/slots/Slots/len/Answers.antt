use Rattle.std.proofs.Common.{◌∙◌, sym}
use Rattle.needle_index.proofs.Maps.{len-distinct}
use Rattle.needle_index.proofs.slots.Slots.len.Goals as goal

pub returns : goal.returns
returns c = rw (← c.self.view_is) (c.len.ensures.len ∙ sym (len-distinct c.self.inside.map.entries c.len.ensures.unique))
