use Rattle.std.proofs.Common.{sym, ◌∙◌, arith}
use Rattle.meta_log.proofs.Lefts.{told_none_left, told_meets, never_closed}
use Rattle.meta_log.proofs.Stands.{told_head_at, told_at_gate}
use Rattle.meta_log.proofs.left.left_head.Goals as goal

pub returns-then-at-gate-clause-meets : goal.returns-then-at-gate-clause-meets
returns-then-at-gate-clause-meets g c = told_none_left (g.D.Disk.files c.args.disk.now) c.args.name.now c.args.gate c.at.result c.args.reading.now.at c.if-at-gate.true c.at.ensures.at

pub returns-then-at-gate-clause-here : goal.returns-then-at-gate-clause-here
returns-then-at-gate-clause-here g c = told_at_gate (g.D.Disk.files c.args.disk.now) c.args.name.now c.args.gate c.at.result c.args.reading.now.at c.if-at-gate.true c.at.ensures.at

pub returns-clause-here : goal.returns-clause-here
returns-clause-here g c =
    told_head_at (g.D.Disk.files c.args.disk.now) c.args.name.now c.args.gate c.at.result c.args.reading.now.at c.in_ok-next_head.field-0 c.item_or_broken.result c.next_head.new.reading c.if-at-gate.false c.at.ensures.at
    c.item_or_broken.ensures c.in_ok-next_head.ensures.next

pub returns-clause-meets : goal.returns-clause-meets
returns-clause-meets g c =
    told_meets (g.D.Disk.files c.args.disk.now) c.args.name.now c.args.gate c.at.result c.args.reading.now.at c.in_ok-next_head.field-0 c.item_or_broken.result c.next_head.new.reading c.if-at-gate.false c.at.ensures.at
    c.item_or_broken.ensures c.in_ok-next_head.ensures.next

pub returns-clause-closed : goal.returns-clause-closed
returns-clause-closed g c = (
  λ same. absurd (never_closed c.in_ok-next_head.field-0 (sym c.item_or_broken.ensures ∙ same)),
  λ over. absurd (omega (arith, over, c.if-at-gate.false, c.at.ensures.at, c.in_ok-next_head.ensures.place.0)),
)
