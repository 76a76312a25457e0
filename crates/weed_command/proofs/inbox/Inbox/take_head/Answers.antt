use Rattle.std.proofs.Common.{List, ℕ, ◌≡◌, ◌+◌, ◌-◌, ◌≤◌, length, take, drop, sym, ap, refl, subst, ◌∙◌, arith}
use Rattle.std.proofs.lemmas.List.{length-take}
use Rattle.weed_command.specs.Request.{IsRequest}
use Rattle.weed_command.proofs.InboxLemmas.{part-drop, taken_target}
use Rattle.weed_command.proofs.inbox.Inbox.take_head.Goals as goal

pub returns-in_default : goal.returns-in_default
returns-in_default c =
    let P = λ (bytes : List ℕ). (target : List ℕ) → ¬ IsRequest (take c.args.count bytes) target in
    (subst P c.pending.ensures c.in_default.ensures.none, refl)

pub returns : goal.returns
returns c =
    let bytes = c.self.inside.buffer.items in
    let span = c.self.inside.pending in
    let pending = c.args.self.now.pending in
    let target = c.in-Some.target.now in
    let part : take (span.end - span.start) (drop span.start bytes) ≡ pending = ap (λ inbox. inbox.pending) c.self.view_is in
    let P = λ (bytes : List ℕ). IsRequest (take c.args.count bytes) target in
    let request : IsRequest (take c.args.count pending) target = subst P c.pending.ensures c.in-Some.ensures.found in
    let within : span.start + c.args.count ≤ span.end =
    omega (arith, c.requires, c.self.invariant.3, ap length part, length-take (span.end - span.start) (drop span.start bytes)) in
    let Q = λ (found : List ℕ). IsRequest (take c.args.count pending) found in (
      subst Q (sym (taken_target bytes pending target span.start span.end c.args.count part request)) request,
      part-drop span.start span.end c.args.count bytes within ∙ ap (drop c.args.count) part,
    )
