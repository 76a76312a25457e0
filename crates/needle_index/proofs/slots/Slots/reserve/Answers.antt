use Rattle.needle_index.proofs.Maps.{same_entries}
use Rattle.needle_index.proofs.slots.Slots.reserve.Goals as goal

pub returns-clause-spots : goal.returns-clause-spots
returns-clause-spots c = rw (← c.self.view_is) (same_entries c.self.inside.map.entries c.reserve.new.self.entries c.reserve.ensures.entries.2)
