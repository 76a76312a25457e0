use Rattle.std.proofs.Common.{subst}
use Rattle.std.proofs.lemmas.Result.{err_from_is_err_and}
use Rattle.filer.specs.Taken.{AreUnreadable}
use Rattle.filer.proofs.Takings.{damaged_on, untold_unread}
use Rattle.filer.proofs.taking.take_page.Goals as goal

pub returns-in_err-take_texts-clause-damaged : goal.returns-in_err-take_texts-clause-damaged
returns-in_err-take_texts-clause-damaged g c =
    let p = err_from_is_err_and c.from_residual-in_err-take_texts.result c.from_residual-in_err-take_texts.ensures.1 in
    damaged_on _ _ c.from_residual-in_err-take_texts.result p.0 c.in_err-take_texts.field-0.0 p.1 p.2
    (λ file at unread names left taken most.
    untold_unread (g.D.Disk.files c.args.disk.now) c.args.log.now names c.args.place c.in_ok-page.page.behind left c.args.room c.in_ok-page.page.texts taken c.in_ok-page.ensures.next
    (subst AreUnreadable c.as_slice.ensures unread))
    c.in_err-take_texts.ensures.damaged
