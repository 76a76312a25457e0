use Rattle.std.proofs.Common.{◌+◌, ◌++◌, ℕ, List, length, ap, sym, ◌∙◌, subst}
use Rattle.meta_log.specs.declared.front.Front.{Front}
use Rattle.filer.proofs.Openings.{begun, leaves_opened, opens}
use Rattle.filer.proofs.opening.begin.Goals as goal

pub returns-in_err-outlet-clause-leaves : goal.returns-in_err-outlet-clause-leaves
returns-in_err-outlet-clause-leaves g c =
    let opened = c.open.ensures in
    leaves_opened g.D.Disk c.args.disk.now c.open.new.disk c.refill.new.disk opened.kept opened.files opened.others opened.atomic c.refill.ensures.looks

pub returns-clause-leaves : goal.returns-clause-leaves
returns-clause-leaves g c =
    let opened = c.open.ensures in
    leaves_opened g.D.Disk c.args.disk.now c.open.new.disk c.refill.new.disk opened.kept opened.files opened.others opened.atomic c.refill.ensures.looks

pub returns-clause-opened : goal.returns-clause-opened
returns-clause-opened g c =
    let log = c.in_ok-log.log in
    let names = g.K.Names.map c.refill.new.keeper in
    let Stands = g.O.Outlet.StandsFor c.in_ok-outlet.outlet in
    let texts = c.in_ok-texts.texts in
    let count = ap (λ (f : Front). f.count) c.front.ensures.front in
    opens g.D.Disk _ log c.args.disk.now c.open.new.disk c.refill.new.disk c.refill.ensures.looks c.in_ok-log.ensures.settled c.open.ensures.others c.in_ok-log.ensures.opened c.in_ok-log.ensures.held
    (begun names Stands log (g.D.Disk.files c.open.new.disk) texts (c.in_ok-texts.ensures.taken c.in_ok-log.ensures.held)
    (λ ahead whole. subst (λ (l : List (List ℕ)). Stands (ahead ++ l)) c.as_slice.ensures
    (c.in_ok-outlet.ensures.stands ahead (ap (λ (l : List (List ℕ)). length ahead + length l) c.as_slice.ensures ∙ whole ∙ sym count))))
