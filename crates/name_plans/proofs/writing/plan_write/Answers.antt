use Rattle.name_plans.proofs.Makes.{put_makeable}
use Rattle.name_plans.proofs.writing.plan_write.Goals as goal

pub returns-clause-makeable : goal.returns-clause-makeable
returns-clause-makeable g c =
    put_makeable c.args.time _ _ c.args.path.now _ c.in_ok-parents.ensures.directories c.in_ok-file.ensures.rootless c.in_ok-file.ensures.valid c.in_ok-with_put.ensures
