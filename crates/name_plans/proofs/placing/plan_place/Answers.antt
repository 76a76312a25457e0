use Rattle.std.proofs.Common.{◌∙◌}
use Rattle.name_plans.proofs.Ways.{placed_makeable}
use Rattle.name_plans.proofs.placing.plan_place.Goals as goal

pub returns-clause-makeable : goal.returns-clause-makeable
returns-clause-makeable g c = placed_makeable _ _ c.args.path.now _ c.args.entry.now (λ none. c.if-depth-eq0.false (c.depth.ensures.depth ∙ none)) c.requires c.in_ok-way.ensures.makeable c.in_ok-placed_behind.ensures
