use Rattle.std.proofs.Common.{◌-◌, sym, ◌∙◌, subst, arith}
use Rattle.std.proofs.lemmas.Result.{err_from_is_err_and}
use Rattle.meta_log.specs.Kept.{front_of}
use Rattle.meta_log.specs.RecordPlaces.{AreNext}
use Rattle.filer.specs.Taken.{TakesMany, HoldsTaken}
use Rattle.filer.proofs.Takings.{damaged_on, no_names, takes_both, all_taken}
use Rattle.filer.proofs.taking.refill.Goals as goal

pub returns-in_err-page-clause-damaged : goal.returns-in_err-page-clause-damaged
returns-in_err-page-clause-damaged g c =
    let p = err_from_is_err_and c.from_residual-in_err-page.result c.from_residual-in_err-page.ensures.1 in
    let same = c.take_first.ensures.looks.files in
    let rest = c.in_ok-rest.rest in
    let names = g.K.Names.map c.take_first.new.keeper in
    damaged_on _ _ c.from_residual-in_err-page.result p.0 c.in_err-page.field-0.0 p.1 p.2
    (λ file at undamaged held. sym same ∙ undamaged names rest.count
    (subst (λ o. HoldsTaken o c.args.log.now names rest.place rest.count) (sym same) (c.in_ok-rest.ensures.taken held (no_names (g.K.Names.map c.args.keeper.now) _ c.in_ok-clear.ensures.map)))
    (omega arith))
    c.in_err-page.ensures.damaged

pub returns-clause-all : goal.returns-clause-all
returns-clause-all g c =
    let first = c.in_ok-rest.ensures.all in
    takes_both ((front_of c.args.log.now).count - c.in_ok-rest.rest.count) c.in_ok-rest.rest.count _ c.in_ok-page.page.texts _ (g.K.Names.map c.take_first.new.keeper) (g.K.Names.map c.take_page.new.keeper)
    (subst (λ o. TakesMany ((front_of c.args.log.now).count - c.in_ok-rest.rest.count) o (g.K.Names.map c.take_first.new.keeper)) c.in_ok-clear.ensures.map first.1) c.in_ok-page.ensures.taken c.in_ok-page.ensures.full (omega (arith, first.0))

pub returns-clause-taken : goal.returns-clause-taken
returns-clause-taken g c held =
    let told = g.D.Disk.files c.args.disk.now in
    all_taken told c.args.log.now (g.K.Names.map c.take_first.new.keeper) (g.K.Names.map c.take_page.new.keeper) c.in_ok-rest.rest.place c.in_ok-page.page.behind c.in_ok-rest.rest.count c.in_ok-page.page.texts
    (c.in_ok-rest.ensures.taken held (no_names (g.K.Names.map c.args.keeper.now) _ c.in_ok-clear.ensures.map))
    (subst (λ o. AreNext o c.args.log.now c.in_ok-rest.rest.place c.in_ok-rest.rest.count c.in_ok-page.page.texts c.in_ok-page.page.behind) c.take_first.ensures.looks.files c.in_ok-page.ensures.next) c.in_ok-page.ensures.taken
