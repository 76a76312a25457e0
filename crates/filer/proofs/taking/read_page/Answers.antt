use Rattle.std.proofs.Common.{◌≡◌, List, ℕ, length, ◌∙◌, ap, arith}
use Rattle.std.proofs.lemmas.Bool.Decides.{nat_tests}
use Rattle.std.proofs.lemmas.Result.{err_from_is_err_and}
use Rattle.filer.proofs.Takings.{log_damaged_on, taken_keeps, untold_short}
use Rattle.filer.proofs.taking.read_page.Goals as goal

pub returns-in_err-texts-clause-damaged : goal.returns-in_err-texts-clause-damaged
returns-in_err-texts-clause-damaged g c =
    let p = err_from_is_err_and c.from_residual.result c.from_residual.ensures.1 in
    log_damaged_on _ _ c.from_residual.result p.0 c.in_err-texts.field-0.0 p.1 p.2
    (λ file at undamaged names left taken most. undamaged (taken_keeps (g.D.Disk.files c.args.disk.now) c.args.log.now names c.args.place left taken))
    c.in_err-texts.ensures.damaged

pub returns-then-as_slice-room-clause-damaged : goal.returns-then-as_slice-room-clause-damaged
returns-then-as_slice-room-clause-damaged g c =
    rw c.unreadable.ensures (λ names left taken most.
    untold_short (g.D.Disk.files c.args.disk.now) c.args.log.now names c.args.place c.in_ok-texts.behind left c.args.room c.in_ok-texts.texts taken most c.in_ok-texts.ensures.next
    (λ full. let whole = ap (λ (l : List (List ℕ)). length l) c.as_slice.ensures in let same : length c.as_slice.result.now ≡ c.args.room = whole ∙ full in grind (arith, nat_tests, same, c.if-as_slice-room.true)))
