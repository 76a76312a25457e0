use Rattle.std.proofs.Common.{length, arith, ap}
use Rattle.meta_log.proofs.Heads.{told_item}
use Rattle.meta_log.proofs.scan.next_head.Goals as goal

pub returns-clause-next : goal.returns-clause-next
returns-clause-next g c =
    told_item (g.D.Disk.files c.args.disk.now) (g.D.Disk.files c.fill.new.disk) c.args.name.now c.held.result.now c.fill.new.self c.fill-2.new.self c.args.reading.now.at c.in-Item.size
    c.fill.ensures.looks.files c.in_ok-fill.ensures.place.0 c.in_ok-fill-2.ensures.place.0 c.held.ensures.held c.in-Item.ensures c.in_ok-fill.ensures.filled c.in_ok-fill-2.ensures.filled
    (omega (arith, c.if-held-size.false, ap length c.held-2.ensures.held))
