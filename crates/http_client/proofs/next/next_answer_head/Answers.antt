use Rattle.std.proofs.Common.{Ok, List, ℕ, Option, IfSome, length, ap, sym, subst, ◌∙◌, arith}
use Rattle.httparse.specs.Grammar.{HasNoResponse}
use Rattle.http_head.specs.declared.fault.HeadFault.TheVariants.{Bad}
use Rattle.http_wire.specs.Inbox.{left_of}
use Rattle.http_client.specs.AnswerNext.{IsRefused, TakesFront}
use Rattle.http_wire.proofs.InboxLemmas.{left_of_adds, ended_before}
use Rattle.http_client.proofs.AnswerNextLemmas.{finds_end}
use Rattle.http_client.proofs.next.next_answer_head.Goals as goal

pub returns-then-branch-eq0-clause-head : goal.returns-then-branch-eq0-clause-head
returns-then-branch-eq0-clause-head g c =
    let pending = c.take_front.new.inbox in
    let after = c.fill.new.self in
    let left = g.S.Source.left c.loop-head.from in
    let later = g.S.Source.left c.fill.new.from in
    let adds = c.in_ok-fill.ensures.bytes in
    let invariant = c.loop-head.invariant in
    let open_one = subst (λ o. TakesFront (Ok o) c.loop-head.inbox pending) c.in_default.is c.in_ok-head.ensures in
    let ended = ended_before pending after left later c.in_ok-fill.field-0 c.if-branch-eq0.true adds in
    let size = ap length open_one.2 in
    let refused = finds_end pending left (omega (arith, size, open_one.0)) (subst HasNoResponse (sym open_one.2) open_one.1) ended in
    let same = ap (λ xs. left_of xs left) open_one.2 ∙ invariant.left in (
      subst (λ (old : Option (List ℕ)). IfSome old (IsRefused Bad)) same refused,
      left_of_adds pending after left later c.in_ok-fill.field-0 adds ∙ same,
    )
