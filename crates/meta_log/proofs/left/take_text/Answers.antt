use Rattle.std.proofs.Common.{arith, subst}
use Rattle.meta_log.proofs.Stands.{told_closed_at, told_no_item, told_stands}
use Rattle.meta_log.specs.Head.{HasItem}
use Rattle.meta_log.proofs.Lefts.{told_closed, told_broken, told_skipped, told_taken}
use Rattle.meta_log.proofs.left.take_text.Goals as goal

pub returns-in-Closed-clause-takes : goal.returns-in-Closed-clause-takes
returns-in-Closed-clause-takes g c = told_closed (g.D.Disk.files c.args.disk.now) c.args.name.now c.args.gate c.args.reading.now.at c.in_ok-left_head.field-0 c.in-Closed.is c.in_ok-left_head.ensures.meets

pub returns-in-Closed-clause-ended : goal.returns-in-Closed-clause-ended
returns-in-Closed-clause-ended g c = λ none. c.in_ok-left_head.ensures.closed.0 c.in-Closed.is

pub returns-in-Broken-clause-damaged : goal.returns-in-Broken-clause-damaged
returns-in-Broken-clause-damaged g c = rw c.damaged_here.ensures (told_broken (g.D.Disk.files c.args.disk.now) c.args.name.now c.args.gate c.args.reading.now.at c.in_ok-left_head.field-0 c.in-Broken.is c.in_ok-left_head.ensures.meets)

pub returns-in_ok-text-in-Item-clause-of : goal.returns-in_ok-text-in-Item-clause-of
returns-in_ok-text-in-Item-clause-of g c =
    told_skipped (g.D.Disk.files c.args.disk.now) c.args.name.now c.left_head.new.reading c.skip.new.self _ c.skip.ensures (subst (HasItem c.left_head.new.reading.held) c.in-Item.is c.in_ok-left_head.ensures.there) c.in_ok-left_head.ensures.of

pub returns-in_ok-text-in-Item-clause-takes : goal.returns-in_ok-text-in-Item-clause-takes
returns-in_ok-text-in-Item-clause-takes g c =
    told_taken (g.D.Disk.files c.args.disk.now) c.args.name.now c.args.gate c.left_head.new.reading c.skip.new.self c.args.reading.now.at c.in-Item.size _ c.in_ok-left_head.field-0 c.in_ok-text-in-Item.text c.held.result.now
    c.in-Item.is c.in_ok-left_head.ensures.place.0 (omega arith) (subst (HasItem c.left_head.new.reading.held) c.in-Item.is c.in_ok-left_head.ensures.there) c.held.ensures.held c.in_ok-text-in-Item.ensures c.skip.ensures c.in_ok-left_head.ensures.of c.in_ok-left_head.ensures.meets

pub returns-in-Closed-clause-stands : goal.returns-in-Closed-clause-stands
returns-in-Closed-clause-stands g c = told_closed_at (g.D.Disk.files c.args.disk.now) c.args.name.now c.args.gate c.args.reading.now.at c.in_ok-left_head.field-0 c.in-Closed.is c.in_ok-left_head.ensures.here

pub returns-in-Broken-clause-breaks : goal.returns-in-Broken-clause-breaks
returns-in-Broken-clause-breaks g c =
    let place = c.in_ok-left_head.ensures.place.0 in
    rw c.damaged_here.ensures (place, told_no_item (g.D.Disk.files c.args.disk.now) c.args.name.now c.args.gate c.args.reading.now.at c.left_head.new.reading.at c.in_ok-left_head.field-0 c.in-Broken.is place c.in_ok-left_head.ensures.here)

pub returns-in_ok-text-in-Item-clause-stands : goal.returns-in_ok-text-in-Item-clause-stands
returns-in_ok-text-in-Item-clause-stands g c =
    told_stands (g.D.Disk.files c.args.disk.now) c.args.name.now c.args.gate c.left_head.new.reading c.args.reading.now.at c.in-Item.size _ c.in_ok-left_head.field-0 c.in_ok-text-in-Item.text c.held.result.now
    c.in-Item.is c.in_ok-left_head.ensures.place.0 (omega arith) (subst (HasItem c.left_head.new.reading.held) c.in-Item.is c.in_ok-left_head.ensures.there) c.held.ensures.held c.in_ok-text-in-Item.ensures c.in_ok-left_head.ensures.of c.in_ok-left_head.ensures.here
