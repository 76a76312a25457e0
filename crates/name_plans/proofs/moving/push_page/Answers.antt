use Rattle.std.proofs.Common.{Err, ◌≡◌, [], ◌∷◌, ◌++◌, ◌∙◌, ap, sym, append_assoc}
use Rattle.std.specs.Vec.Iter.{into_iter_items}
use Rattle.std.proofs.lemmas.Result.{err_from_is_err_and}
use Rattle.name_plans.proofs.PageLoop.{push_fails, push_one, within_one, last_one, limits_met}
use Rattle.name_plans.proofs.moving.push_page.Goals as goal

pub returns-in_err-path_moved-clause-pushed : goal.returns-in_err-path_moved-clause-pushed
returns-in_err-path_moved-clause-pushed c =
    let fails = err_from_is_err_and c.from_residual.result c.from_residual.ensures.1 in
    let rest = into_iter_items c.next.new.self in
    let next : into_iter_items c.loop-path.path-iterator ≡ (c.in-Some.path, c.in-Some.entry) ∷ rest = c.in-Some.ensures.steps.0 in
    push_fails c.args.from.now c.args.to.now c.args.page.items _ _ c.loop-path.yielded (c.in-Some.path, c.in-Some.entry) rest _ c.in_err-path_moved.field-0.0 (fails.1 ∙ ap Err fails.2)
    (c.loop-path.invariant.page ∙ ap (λ rest. c.loop-path.yielded ++ rest) next) c.in_err-path_moved.ensures.moved

pub loop-path-preserved : goal.loop-path-preserved
loop-path-preserved c =
    let rest = into_iter_items c.next.new.self in
    let next : into_iter_items c.loop-path.path-iterator ≡ (c.in-Some.path, c.in-Some.entry) ∷ rest = c.in-Some.ensures.steps.0 in
    let met = limits_met _ c.in_ok-path_moved.field-0 c.in_ok-path_moved.ensures.moved in record {
      page = c.loop-path.invariant.page ∙ ap (λ rest. c.loop-path.yielded ++ rest) next ∙ sym (append_assoc c.loop-path.yielded ((c.in-Some.path, c.in-Some.entry) ∷ []) rest);
      pushed = push_one c.args.from.now c.args.to.now c.loop-path.yielded c.in-Some.path c.in-Some.entry c.in_ok-path_moved.field-0 _ _ _ c.loop-path.invariant.pushed c.in_ok-push.ensures.items met.1;
      within = within_one c.args.from.now c.args.to.now c.loop-path.yielded (c.in-Some.path, c.in-Some.entry) c.loop-path.invariant.within met.0;
      last = sym (last_one c.loop-path.yielded (c.in-Some.path, c.in-Some.entry));
    }
