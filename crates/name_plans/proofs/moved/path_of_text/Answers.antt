use Rattle.std.proofs.Common.{sym, ◌∙◌}
use Rattle.name_plans.proofs.MovedTexts.{read_fits}
use Rattle.name_plans.proofs.moved.path_of_text.Goals as goal

pub returns-in-Ok-clause-read : goal.returns-in-Ok-clause-read
returns-in-Ok-clause-read c parts same are = read_fits parts c.in-Ok.path are c.in-Ok.ensures.found.0 (sym same ∙ c.in-Ok.ensures.found.1)
