use Rattle.std.proofs.Common.{◌≡◌, [], ◌∷◌, ◌++◌, ◌∙◌, ap, sym, append_assoc, arith}
use Rattle.std.specs.Vec.Iter.{into_iter_items}
use Rattle.name_core.specs.Namespace.{step}
use Rattle.name_core.proofs.NamespaceLemmas.{after_changes-append}
use Rattle.filer_keeper.specs.Commit.{put_count}
use Rattle.mem_keeper.proofs.CommitLemmas.{put_count_more, may_later}
use Rattle.mem_keeper.proofs.keeper.MemKeeper.make_all.Goals as goal

pub loop-change-preserved : goal.loop-change-preserved
loop-change-preserved c =
    let at = c.loop-change in
    let one = c.in-Some.change ∷ [] in
    let rest = into_iter_items c.next.new.self in
    let next : into_iter_items at.change-iterator ≡ c.in-Some.change ∷ rest = c.in-Some.ensures.steps.0 in record {
      names = c.make.ensures.names ∙ ap (step c.in-Some.change) at.invariant.names ∙ sym (after_changes-append at.yielded one c.args.self.now.names);
      changes = at.invariant.changes ∙ ap (λ rest. at.yielded ++ rest) next ∙ sym (append_assoc at.yielded one rest);
      spare = omega (arith, ap put_count next, put_count_more c.in-Some.change rest, at.invariant.spare, c.make.ensures.spare);
      may = may_later c.in-Some.change rest _ next at.invariant.may;
    }
