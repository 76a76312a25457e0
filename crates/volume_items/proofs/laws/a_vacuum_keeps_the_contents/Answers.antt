use Rattle.volume_items.proofs.Living.{vacuumed}
use Rattle.volume_items.proofs.laws.a_vacuum_keeps_the_contents.Goals as goal

pub returns : goal.returns
returns c = vacuumed
