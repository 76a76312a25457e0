use Rattle.std.proofs.Common.{Ok, Err, ap, sym, ◌∙◌, subst}
use Rattle.std.proofs.lemmas.Result.{err_from_is_err_and}
use Rattle.http_wire.specs.Inbox.{left_of}
use Rattle.http_whole.specs.Whole.{ReadsPiece, ReadsAll}
use Rattle.http_whole.proofs.WholeLemmas.{grows_on}
use Rattle.http_whole.proofs.whole.read_all.Goals as goal

pub returns-in_err-read_piece-clause-read : goal.returns-in_err-read_piece-clause-read
returns-in_err-read_piece-clause-read g c =
    let p = err_from_is_err_and c.from_residual.result c.from_residual.ensures.1 in
    let left = left_of c.args.inbox.now (g.S.Source.left c.args.from.now) in
    let mid = left_of c.loop.inbox (g.S.Source.left c.loop.from) in
    let new = left_of c.read_piece.new.inbox (g.S.Source.left c.read_piece.new.from) in
    let piece = c.in_err-read_piece.ensures.read in
    subst (λ r. ReadsAll r c.args.body.now c.read_piece.new.body left new c.args.held.now.items c.read_piece.new.held.items) (sym (p.1 ∙ ap Err p.2)) (
      grows_on c.args.body.now c.loop.body c.read_piece.new.body left mid new c.args.held.now.items c.loop.held.items c.read_piece.new.held.items c.loop.invariant.grows piece.0,
      piece.1,
    )

pub loop-preserved : goal.loop-preserved
loop-preserved g c =
    let left = left_of c.args.inbox.now (g.S.Source.left c.args.from.now) in
    let mid = left_of c.loop.inbox (g.S.Source.left c.loop.from) in
    let new = left_of c.read_piece.new.inbox (g.S.Source.left c.read_piece.new.from) in
    let before = c.loop.invariant in
    let passed = c.in_ok-read_piece.ensures in
    let piece = subst (λ o. ReadsPiece (Ok o) c.loop.body c.read_piece.new.body mid new c.loop.held.items c.read_piece.new.held.items) c.if-branch.true passed.read in
    record {
      grows = grows_on c.args.body.now c.loop.body c.read_piece.new.body left mid new c.args.held.now.items c.loop.held.items c.read_piece.new.held.items before.grows piece.0;
      faults = passed.cause.quiet (λ failed. cc) ∙ before.faults;
      beside = passed.beside ∙ before.beside;
      course = λ start was. passed.course start (before.course start was);
    }

pub returns-clause-read : goal.returns-clause-read
returns-clause-read g c =
    let left = left_of c.args.inbox.now (g.S.Source.left c.args.from.now) in
    let mid = left_of c.loop.inbox (g.S.Source.left c.loop.from) in
    let new = left_of c.read_piece.new.inbox (g.S.Source.left c.read_piece.new.from) in
    let piece = subst (λ o. ReadsPiece (Ok o) c.loop.body c.read_piece.new.body mid new c.loop.held.items c.read_piece.new.held.items) c.if-branch.false c.in_ok-read_piece.ensures.read in (
      grows_on c.args.body.now c.loop.body c.read_piece.new.body left mid new c.args.held.now.items c.loop.held.items c.read_piece.new.held.items c.loop.invariant.grows piece.0,
      piece.1,
    )
