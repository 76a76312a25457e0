use Rattle.name_plans.proofs.Moves.{move_keeps}
use Rattle.name_plans.proofs.laws.moves_keep_names_well_formed.Goals as goal

pub returns : goal.returns
returns c = move_keeps
