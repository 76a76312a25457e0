use Rattle.name_core.proofs.PlanLemmas.{IsSound-push, fold-push}
use Rattle.name_core.proofs.laws.plans_keep_logs_sound.Goals as goal

pub returns-clause-sound : goal.returns-clause-sound
returns-clause-sound c = IsSound-push

pub returns-clause-folds : goal.returns-clause-folds
returns-clause-folds c = fold-push
