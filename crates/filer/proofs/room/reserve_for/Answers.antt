use Rattle.std.proofs.Common.{length, List, arith, ap}
use Rattle.std.proofs.lemmas.Result.{on_ok_weaker}
use Rattle.name_core.specs.declared.change.Change.{Change}
use Rattle.filer.proofs.Applying.{put_count-few}
use Rattle.filer.proofs.room.reserve_for.Goals as goal

pub returns-in-Ok-clause-spare : goal.returns-in-Ok-clause-spare
returns-in-Ok-clause-spare g c =
    let few = put_count-few c.args.step.now.changes in
    let whole = ap (λ (changes : List Change). length changes) c.as_slice.ensures in
    let puts = c.in-Ok.ensures in
    on_ok_weaker c.reserve.result (λ room. omega (arith, few, whole, puts.1, room)) c.reserve.ensures.spare
