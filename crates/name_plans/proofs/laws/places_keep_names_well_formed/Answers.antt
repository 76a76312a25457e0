use Rattle.name_plans.proofs.Keeps.{place_keeps}
use Rattle.name_plans.proofs.laws.places_keep_names_well_formed.Goals as goal

pub returns : goal.returns
returns c = place_keeps
