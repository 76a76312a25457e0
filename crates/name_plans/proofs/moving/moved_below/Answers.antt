use Rattle.std.proofs.Common.{◌≡◌, ◌∙◌, List, Ok, Err, Some, refl, sym, ap, subst}
use Rattle.std.proofs.lemmas.Result.{err_from_is_err_and}
use Rattle.std.specs.Prelude.{IfSome}
use Rattle.name_core.specs.declared.change.Change.{Change}
use Rattle.name_core.specs.Pages.{page_of, is_below_past}
use Rattle.name_plans.specs.Commands.{below}
use Rattle.name_plans.specs.Moving.{puts_moved}
use Rattle.name_plans.specs.Makeable.{AreMakeable}
use Rattle.name_plans.proofs.Makes.{none_makeable}
use Rattle.name_plans.proofs.PageLoop.{front_begins, front_moves, front_ends, page_fails, page_makeable}
use Rattle.name_plans.proofs.moving.moved_below.Goals as goal

pub loop-after-init : goal.loop-after-init
loop-after-init g c =
    let told = g.V.Names.map c.args.view.now in record {
      map = refl;
      faults = refl;
      beside = refl;
      front = rw c.new-changes.ensures.items (rw c.in_ok-after.ensures (front_begins told c.args.from.now c.args.to.now));
      makeable = subst AreMakeable (sym c.new-changes.ensures.items) none_makeable;
    }

pub returns-in_err-last-clause-changes : goal.returns-in_err-last-clause-changes
returns-in_err-last-clause-changes g c =
    let fails = err_from_is_err_and c.from_residual-in_err-last.result c.from_residual-in_err-last.ensures.1 in
    let told = g.V.Names.map c.args.view.now in
    let page : IfSome told (λ names. c.in_ok-page.page.items ≡ page_of names 1024 (is_below_past c.args.from.now (Some c.loop-after.after))) =
    subst (λ told. IfSome told (λ names. c.in_ok-page.page.items ≡ page_of names 1024 (is_below_past c.args.from.now (Some c.loop-after.after)))) c.loop-after.invariant.map c.in_ok-page.ensures.first in
    page_fails told c.args.from.now c.args.to.now c.loop-after.after c.in_ok-page.page.items c.loop-after.changes.items c.push_page.new.changes.items c.in_err-last.field-0.0 _ (fails.1 ∙ ap Err fails.2) page
    c.loop-after.invariant.front c.in_err-last.ensures.pushed

pub loop-after-preserved : goal.loop-after-preserved
loop-after-preserved g c =
    let told = g.V.Names.map c.args.view.now in
    let page : IfSome told (λ names. c.in_ok-page.page.items ≡ page_of names 1024 (is_below_past c.args.from.now (Some c.loop-after.after))) =
    subst (λ told. IfSome told (λ names. c.in_ok-page.page.items ≡ page_of names 1024 (is_below_past c.args.from.now (Some c.loop-after.after)))) c.loop-after.invariant.map c.in_ok-page.ensures.first in
    let pushed = c.in_ok-last.ensures.pushed in record {
      map = c.below_after.ensures.map ∙ c.loop-after.invariant.map;
      faults = c.in_ok-page.ensures.cause.quiet (λ failed. cc) ∙ c.loop-after.invariant.faults;
      beside = c.below_after.ensures.beside ∙ c.loop-after.invariant.beside;
      front = front_moves told c.args.from.now c.args.to.now c.loop-after.after c.in-Some.last c.in_ok-page.page.items c.loop-after.changes.items c.push_page.new.changes.items page c.loop-after.invariant.front pushed.0 pushed.1 (sym c.in-Some.is ∙ pushed.2);
      makeable = page_makeable c.args.from.now c.args.to.now c.loop-after.after c.in_ok-page.page.items c.loop-after.changes.items c.push_page.new.changes.items c.requires.to_filled c.in_ok-page.ensures.page.each c.loop-after.invariant.makeable pushed.0;
    }

pub returns-in-None-clause-changes : goal.returns-in-None-clause-changes
returns-in-None-clause-changes g c =
    let told = g.V.Names.map c.args.view.now in
    let page : IfSome told (λ names. c.in_ok-page.page.items ≡ page_of names 1024 (is_below_past c.args.from.now (Some c.loop-after.after))) =
    subst (λ told. IfSome told (λ names. c.in_ok-page.page.items ≡ page_of names 1024 (is_below_past c.args.from.now (Some c.loop-after.after)))) c.loop-after.invariant.map c.in_ok-page.ensures.first in
    let pushed = c.in_ok-last.ensures.pushed in
    subst (λ (changes : List Change). IfSome told (λ names. puts_moved c.args.from.now c.args.to.now (below names c.args.from.now) ≡ Ok changes)) (sym c.of.ensures)
    (front_ends told c.args.from.now c.args.to.now c.loop-after.after c.in_ok-page.page.items c.loop-after.changes.items c.push_page.new.changes.items page c.loop-after.invariant.front pushed.0 (sym c.in-None.is ∙ pushed.2))

pub returns-in-None-clause-makeable : goal.returns-in-None-clause-makeable
returns-in-None-clause-makeable g c =
    let pushed = c.in_ok-last.ensures.pushed in
    subst AreMakeable (sym c.of.ensures)
    (page_makeable c.args.from.now c.args.to.now c.loop-after.after c.in_ok-page.page.items c.loop-after.changes.items c.push_page.new.changes.items c.requires.to_filled c.in_ok-page.ensures.page.each c.loop-after.invariant.makeable pushed.0)
