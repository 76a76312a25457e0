use Rattle.name_plans.proofs.Makes.{move_makeable}
use Rattle.name_plans.proofs.moving.plan_move.Goals as goal

pub returns-clause-makeable : goal.returns-clause-makeable
returns-clause-makeable g c =
    move_makeable c.args.time _ _ _ c.args.from.now c.args.to.now _ c.in_ok-parents.ensures.directories c.in_ok-entry.ensures.from_filled c.in_ok-entry.ensures.to_filled c.in_ok-entry.ensures.valid
    c.in_ok-moved.ensures.makeable c.in_ok-all_changes.ensures
