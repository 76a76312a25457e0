use Rattle.name_core.proofs.PlanLemmas.{plan_keeps_names}
use Rattle.name_core.proofs.laws.plans_keep_names_well_formed.Goals as goal

pub returns : goal.returns
returns c = plan_keeps_names
