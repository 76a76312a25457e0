use Rattle.name_plans.proofs.Plans.{plan_keeps}
use Rattle.name_plans.proofs.laws.plans_keep_names_well_formed.Goals as goal

pub returns : goal.returns
returns c = plan_keeps
