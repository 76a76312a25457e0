use Rattle.needle.proofs.Verdicts.{read_exactly}
use Rattle.needle.proofs.laws.items_are_read.Goals as goal

pub returns : goal.returns
returns c = read_exactly
