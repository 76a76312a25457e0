use Rattle.std.proofs.Common.{◌∙◌, ◌++◌, Ok, Err, subst, sym, ap, length, arith}
use Rattle.std.proofs.lemmas.List.{length-take}
use Rattle.std.proofs.lemmas.Result.{err_from_is_err_and}
use Rattle.http_client.specs.AnswerFront.{ReadsFront}
use Rattle.http_client.specs.declared.front.AnswerFront.TheVariants.{Whole, Open, Never}
use Rattle.http_client.specs.AnswerNext.{TakesFront}
use Rattle.http_client.proofs.AnswerNextLemmas.{head_in_front, takes_whole, refuses_front, never_front, long_front, open_front}
use Rattle.http_client.proofs.next.take_front.Goals as goal

pub read_answer_front-requires : goal.read_answer_front-requires
read_answer_front-requires c = omega (arith, ap length c.window.ensures, length-take 16384 c.args.inbox.now)

pub returns-in_err-head : goal.returns-in_err-head
returns-in_err-head c =
    let p = err_from_is_err_and c.from_residual.result c.from_residual.ensures.1 in
    let pending = c.args.inbox.now in
    let fault = c.in_err-head.field-0.0 in
    let reason = subst (λ bytes. ReadsFront bytes (Err fault)) c.window.ensures c.in_err-head.ensures in
    subst (λ r. TakesFront r pending pending) (sym (p.1 ∙ ap Err p.2)) (refuses_front pending fault reason)

pub advance-requires : goal.advance-requires
advance-requires c =
    let held = subst (λ front. ReadsFront c.window.result.now (Ok front)) c.in-Whole.is c.in_ok-head.ensures in
    (head_in_front 16384 c.args.inbox.now c.in-Whole.count (Ok c.in-Whole.head) (omega arith) (subst (λ bytes. ReadsFront bytes (Ok (Whole c.in-Whole.head c.in-Whole.count))) c.window.ensures held)).1

pub returns-in-Whole : goal.returns-in-Whole
returns-in-Whole c =
    let held = subst (λ front. ReadsFront c.window.result.now (Ok front)) c.in-Whole.is c.in_ok-head.ensures in
    let takes = takes_whole c.args.inbox.now c.in-Whole.count c.in-Whole.head (subst (λ bytes. ReadsFront bytes (Ok (Whole c.in-Whole.head c.in-Whole.count))) c.window.ensures held) in
    (takes.0, takes.1, takes.2 ∙ ap (λ xs. takes.0 ++ xs) (sym c.advance.ensures))

pub returns-in-Open : goal.returns-in-Open
returns-in-Open c =
    let held = subst (λ front. ReadsFront c.window.result.now (Ok front)) c.in-Open.is c.in_ok-head.ensures in
    let front = subst (λ bytes. ReadsFront bytes (Ok Open)) c.window.ensures held in
    long_front c.args.inbox.now (omega (arith, c.if-pending-gt-MAX_HEAD.true, ap length c.pending.ensures)) front.0 front.1

pub returns-in-Open-2 : goal.returns-in-Open-2
returns-in-Open-2 c =
    let held = subst (λ front. ReadsFront c.window.result.now (Ok front)) c.in-Open.is c.in_ok-head.ensures in
    let front = subst (λ bytes. ReadsFront bytes (Ok Open)) c.window.ensures held in
    open_front c.args.inbox.now (omega (arith, c.if-pending-gt-MAX_HEAD.false, ap length c.pending.ensures)) front.0

pub returns-in-Never : goal.returns-in-Never
returns-in-Never c =
    let held = subst (λ front. ReadsFront c.window.result.now (Ok front)) c.in-Never.is c.in_ok-head.ensures in
    never_front c.args.inbox.now (subst (λ bytes. ReadsFront bytes (Ok Never)) c.window.ensures held)
