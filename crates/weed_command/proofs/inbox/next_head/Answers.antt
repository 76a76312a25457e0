use Rattle.std.proofs.Common.{List, ℕ, Option, ◌<◌, ◌≤◌, length, ap, subst, ◌∙◌, IfSome, arith}
use Rattle.std.proofs.lemmas.List.{length-append}
use Rattle.weed_command.specs.HeadEnd.{HasNoEndBelow, IsHeadLength}
use Rattle.weed_command.specs.Inbox.{FindsHead, IsNoRequest, left_of}
use Rattle.weed_command.proofs.HeadLemmas.{end_fits}
use Rattle.weed_command.proofs.InboxLemmas.{finds_head, none_long, none_at_end, left_of_adds, ended_before, none_more}
use Rattle.weed_command.proofs.inbox.next_head.Goals as goal

pub take_head-requires : goal.take_head-requires
take_head-requires g c =
    let pending = c.loop-count.inbox.pending in
    let head : IsHeadLength pending c.in-Some.count = subst (λ xs. IsHeadLength xs c.in-Some.count) c.pending.ensures c.in-Some.ensures.found in
    omega (arith, head.ends, end_fits pending head.place head.stands)

pub returns-in-Some-clause-head : goal.returns-in-Some-clause-head
returns-in-Some-clause-head g c =
    let left = g.S.Source.left c.loop-count.from in
    let after = c.take_head.new.self in
    let head = subst (λ xs. IsHeadLength xs c.in-Some.count) c.pending.ensures c.in-Some.ensures.found in
    let found = finds_head c.take_head.result c.loop-count.inbox after c.in-Some.count left head c.take_head.ensures in
    subst (λ (old : Option (List ℕ)). FindsHead c.take_head.result old (left_of after.pending left) after.target) c.loop-count.invariant.left found

pub returns-then-count-ge-MAX_HEAD-clause-head : goal.returns-then-count-ge-MAX_HEAD-clause-head
returns-then-count-ge-MAX_HEAD-clause-head g c =
    let pending = c.loop-count.inbox.pending in
    let none : HasNoEndBelow pending (length pending) = subst (λ xs. HasNoEndBelow xs (length xs)) c.pending.ensures c.in_default.ensures.none in
    let long : 16384 ≤ length pending = omega (arith, ap length c.pending-count.ensures) in
    let nothing = none_long pending (g.S.Source.left c.loop-count.from) none long in
    (subst (λ (old : Option (List ℕ)). IfSome old IsNoRequest) c.loop-count.invariant.left nothing, c.loop-count.invariant.left)

pub returns-else-count-eq0-clause-head : goal.returns-else-count-eq0-clause-head
returns-else-count-eq0-clause-head g c =
    let pending = c.loop-count.inbox.pending in
    let after = c.fill.new.self.pending in
    let left = g.S.Source.left c.loop-count.from in
    let later = g.S.Source.left c.fill.new.from in
    let adds = c.in_ok-fill.ensures.bytes in
    let none : HasNoEndBelow pending (length pending) = subst (λ xs. HasNoEndBelow xs (length xs)) c.pending.ensures c.in_default.ensures.none in
    let filled : 0 < length pending = omega (arith, ap length c.pending-count.ensures) in
    let ended = ended_before pending after left later c.in_ok-fill.field-0 c.if-branch-eq0.true adds in
    let nothing = none_at_end pending left none filled ended in (
      subst (λ (old : Option (List ℕ)). IfSome old IsNoRequest) c.loop-count.invariant.left nothing,
      left_of_adds pending after left later c.in_ok-fill.field-0 adds ∙ c.loop-count.invariant.left,
    )

pub loop-count-preserved : goal.loop-count-preserved
loop-count-preserved g c =
    let pending = c.loop-count.inbox.pending in
    let after = c.fill.new.self.pending in
    let adds = c.in_ok-fill.ensures.bytes in
    let none : HasNoEndBelow pending (length pending) = subst (λ xs. HasNoEndBelow xs (length xs)) c.pending.ensures c.in_default.ensures.none in
    let count = ap length c.pending-count.ensures in
    let grown = ap length adds.2 ∙ length-append pending adds.0 in
    record {
      within = omega (arith, c.saturating_sub-searched.ensures, count, grown);
      none = λ place below. none_more pending after adds.0 none adds.2 place (omega (arith, c.saturating_sub-searched.ensures, count));
      left = left_of_adds pending after (g.S.Source.left c.loop-count.from) (g.S.Source.left c.fill.new.from) c.in_ok-fill.field-0 adds ∙ c.loop-count.invariant.left;
      faults = c.in_ok-fill.ensures.cause.quiet (λ failed. cc) ∙ c.loop-count.invariant.faults;
    }
