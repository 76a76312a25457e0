use Rattle.std.proofs.Common.{Ok, Err, ap, sym, ◌∙◌, subst}
use Rattle.std.proofs.lemmas.Result.{err_from_is_err_and}
use Rattle.http_wire.specs.Inbox.{left_of}
use Rattle.http_bodies.specs.Found.{TakesMark}
use Rattle.http_bodies.specs.Read.{PassesMark}
use Rattle.http_bodies.proofs.ReadLemmas.{mark_refused, mark_passed, mark_cut}
use Rattle.http_bodies.proofs.read.pass_mark.Goals as goal

pub returns-in_err-take_mark-clause-passed : goal.returns-in_err-take_mark-clause-passed
returns-in_err-take_mark-clause-passed g c =
    let p = err_from_is_err_and c.from_residual.result c.from_residual.ensures.1 in
    let fault = c.in_err-take_mark.field-0.0 in
    let told = g.S.Source.left c.loop-inbox.from in
    let left = left_of c.args.inbox.now (g.S.Source.left c.args.from.now) in
    subst (λ r. PassesMark r c.args.body.now c.take_mark.new.body left (left_of c.take_mark.new.inbox told)) (sym (p.1 ∙ ap Err p.2))
    (mark_refused fault c.args.body.now c.loop-inbox.body c.take_mark.new.body left told c.loop-inbox.inbox c.take_mark.new.inbox c.loop-inbox.invariant.body c.loop-inbox.invariant.left c.in_err-take_mark.ensures)

pub returns-then-branch-clause-passed : goal.returns-then-branch-clause-passed
returns-then-branch-clause-passed g c =
    let told = g.S.Source.left c.loop-inbox.from in
    let left = left_of c.args.inbox.now (g.S.Source.left c.args.from.now) in
    let takes = subst (λ o. TakesMark (Ok o) c.loop-inbox.body c.take_mark.new.body c.loop-inbox.inbox c.take_mark.new.inbox) c.if-branch.true c.in_ok-take_mark.ensures in
    mark_passed c.args.body.now c.loop-inbox.body c.take_mark.new.body left told c.loop-inbox.inbox c.take_mark.new.inbox c.loop-inbox.invariant.body c.loop-inbox.invariant.left takes

pub returns-then-branch-eq0-clause-passed : goal.returns-then-branch-eq0-clause-passed
returns-then-branch-eq0-clause-passed g c =
    let told = g.S.Source.left c.loop-inbox.from in
    let later = g.S.Source.left c.fill.new.from in
    let left = left_of c.args.inbox.now (g.S.Source.left c.args.from.now) in
    let takes = subst (λ o. TakesMark (Ok o) c.loop-inbox.body c.take_mark.new.body c.loop-inbox.inbox c.take_mark.new.inbox) c.if-branch.false c.in_ok-take_mark.ensures in
    mark_cut c.args.body.now c.loop-inbox.body c.take_mark.new.body left told later c.loop-inbox.inbox c.take_mark.new.inbox c.fill.new.self c.in_ok-fill.field-0 c.loop-inbox.invariant.body c.loop-inbox.invariant.left takes c.if-branch-eq0.true c.in_ok-fill.ensures.bytes
