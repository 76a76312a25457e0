use Rattle.std.proofs.Common.{◌≡◌, ◌+◌, ◌-◌, ◌≤◌, length, take, drop, ap, ◌∙◌, arith}
use Rattle.std.proofs.lemmas.List.{length-take}
use Rattle.http_wire.proofs.InboxLemmas.{part-drop}
use Rattle.http_wire.proofs.inbox.Inbox.advance.Goals as goal

pub returns : goal.returns
returns c =
    let bytes = c.self.inside.buffer.items in
    let span = c.self.inside.pending in
    let part : take (span.end - span.start) (drop span.start bytes) ≡ c.args.self.now = c.self.view_is in
    let within : span.start + c.args.count ≤ span.end =
    omega (arith, c.requires, c.self.invariant.1, ap length part, length-take (span.end - span.start) (drop span.start bytes)) in
    part-drop span.start span.end c.args.count bytes within ∙ ap (drop c.args.count) part
