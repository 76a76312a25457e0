use Rattle.name_plans.proofs.Drops.{removal_keeps}
use Rattle.name_plans.proofs.laws.removals_keep_names_well_formed.Goals as goal

pub returns : goal.returns
returns c = removal_keeps
