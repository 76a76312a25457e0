use Rattle.name_core.proofs.PlanLemmas.{plan_makes_directories}
use Rattle.name_core.proofs.planning.plan.Goals as goal

pub returns-clause-directories : goal.returns-clause-directories
returns-clause-directories g c = plan_makes_directories _ _ _ _ c.in_ok-changes.ensures.directories c.record_of_changes.ensures.made
