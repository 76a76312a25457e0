use Rattle.std.proofs.Common.{◌∙◌, sym, ap, length, arith}
use Rattle.std.proofs.lemmas.List.{length-take, take_all}
use Rattle.http_wire.proofs.inbox.Inbox.window.Goals as goal

pub slice_bounds-result-end : goal.slice_bounds-result-end
slice_bounds-result-end c = omega (arith, c.if-pending-gt-MAX_HEAD.true, length-take 16384 c.pending-pending.result.now)

pub returns-else-pending-gt-MAX_HEAD : goal.returns-else-pending-gt-MAX_HEAD
returns-else-pending-gt-MAX_HEAD c = c.pending-pending.ensures ∙ sym (take_all 16384 c.args.self.now (omega (arith, c.if-pending-gt-MAX_HEAD.false, ap length c.pending-pending.ensures)))
