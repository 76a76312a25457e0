use Rattle.name_plans.proofs.Keeps.{write_keeps}
use Rattle.name_plans.proofs.laws.writes_keep_names_well_formed.Goals as goal

pub returns : goal.returns
returns c = write_keeps
