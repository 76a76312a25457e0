use Rattle.std.proofs.Common.{◌∙◌}
use Rattle.needle_index.proofs.Maps.{looked_up, removed}
use Rattle.needle_index.proofs.slots.Slots.remove.Goals as goal

pub returns-clause-former : goal.returns-clause-former
returns-clause-former c = rw (← c.self.view_is) (c.remove.ensures.value ∙ looked_up c.args.key c.self.inside.map.entries)

pub returns-clause-spots : goal.returns-clause-spots
returns-clause-spots c = rw (← c.self.view_is) (removed c.self.inside.map.entries c.remove.new.self.entries c.args.key c.remove.ensures.updates.0)
