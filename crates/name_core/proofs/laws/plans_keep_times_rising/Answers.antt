use Rattle.name_core.proofs.PlanLemmas.{plan_times_rise}
use Rattle.name_core.proofs.laws.plans_keep_times_rising.Goals as goal

pub returns : goal.returns
returns c = plan_times_rise
