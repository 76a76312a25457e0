use Rattle.name_core.proofs.MadeLemmas.{made_are_there, unmade_are_there}
use Rattle.name_core.proofs.laws.made_directories_are_there.Goals as goal

pub returns-clause-made : goal.returns-clause-made
returns-clause-made c = made_are_there

pub returns-clause-there : goal.returns-clause-there
returns-clause-there c = unmade_are_there
