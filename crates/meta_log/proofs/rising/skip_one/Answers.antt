use Rattle.std.proofs.Common.{◌+◌, ◌-◌, take, drop, arith, ap, refl, subst}
use Rattle.meta_log.specs.Stretch.{Stretch}
use Rattle.meta_log.specs.Head.{HasItem}
use Rattle.meta_log.proofs.Lefts.{told_closed, told_broken, told_skipped, told_taken}
use Rattle.meta_log.proofs.Skipped.{told_skipped_one, told_stays, told_empties, told_unread, told_none_ahead, late_time}
use Rattle.meta_log.proofs.Stands.{told_closed_at, told_no_item, told_stands}
use Rattle.meta_log.proofs.Passed.{told_passes_one, told_stops_late, told_stops_gate, told_unread_there, told_none_there}
use Rattle.meta_log.proofs.rising.skip_one.Goals as goal

pub returns-in-Closed-clause-skips : goal.returns-in-Closed-clause-skips
returns-in-Closed-clause-skips g c =
    told_empties (g.D.Disk.files c.args.disk.now) c.args.name.now c.args.gate c.args.after c.args.reading.now.at c.left_head.new.reading.at c.in_ok-left_head.ensures.place.0
    (told_closed (g.D.Disk.files c.args.disk.now) c.args.name.now c.args.gate c.args.reading.now.at c.in_ok-left_head.field-0 c.in-Closed.is c.in_ok-left_head.ensures.meets)

pub returns-in-Broken-clause-damaged : goal.returns-in-Broken-clause-damaged
returns-in-Broken-clause-damaged g c =
    rw c.damaged_here.ensures (told_none_ahead (g.D.Disk.files c.args.disk.now) c.args.name.now c.args.gate c.args.after c.args.reading.now.at
    (told_broken (g.D.Disk.files c.args.disk.now) c.args.name.now c.args.gate c.args.reading.now.at c.in_ok-left_head.field-0 c.in-Broken.is c.in_ok-left_head.ensures.meets))

pub returns-in-Some-clause-of : goal.returns-in-Some-clause-of
returns-in-Some-clause-of g c =
    told_skipped (g.D.Disk.files c.args.disk.now) c.args.name.now c.left_head.new.reading c.skip.new.self _ c.skip.ensures (subst (HasItem c.left_head.new.reading.held) c.in-Item.is c.in_ok-left_head.ensures.there) c.in_ok-left_head.ensures.of

pub returns-in-Some-clause-skips : goal.returns-in-Some-clause-skips
returns-in-Some-clause-skips g c =
    let taken = told_taken (g.D.Disk.files c.args.disk.now) c.args.name.now c.args.gate c.left_head.new.reading c.skip.new.self c.args.reading.now.at c.in-Item.size _ c.in_ok-left_head.field-0 _ c.held.result.now
    c.in-Item.is c.in_ok-left_head.ensures.place.0 (omega arith) (subst (HasItem c.left_head.new.reading.held) c.in-Item.is c.in_ok-left_head.ensures.there) c.held.ensures.held refl c.skip.ensures c.in_ok-left_head.ensures.of c.in_ok-left_head.ensures.meets in
    told_skipped_one (g.D.Disk.files c.args.disk.now) c.args.name.now c.args.gate c.args.after c.args.reading.now.at c.skip.new.self.at (take (5 + c.in-Item.size - 5) (drop 5 c.held.result.now)) c.in_ok-time.field-0 c.in-Some.time c.in-Some.is c.if-time-after.true c.in_ok-time.ensures taken

pub returns-in-Some-2-clause-skips : goal.returns-in-Some-2-clause-skips
returns-in-Some-2-clause-skips g c =
    let reading = c.left_head.new.reading in
    let text = take (5 + c.in-Item.size - 5) (drop 5 c.held.result.now) in
    let behind : Stretch = record { at = reading.at + (5 + c.in-Item.size); held = drop (5 + c.in-Item.size) reading.held; size = reading.size } in
    let taken = told_taken (g.D.Disk.files c.args.disk.now) c.args.name.now c.args.gate reading behind c.args.reading.now.at c.in-Item.size _ c.in_ok-left_head.field-0 _ c.held.result.now
    c.in-Item.is c.in_ok-left_head.ensures.place.0 (omega arith) (subst (HasItem reading.held) c.in-Item.is c.in_ok-left_head.ensures.there) c.held.ensures.held refl refl c.in_ok-left_head.ensures.of c.in_ok-left_head.ensures.meets in
    told_stays (g.D.Disk.files c.args.disk.now) c.args.name.now c.args.gate c.args.after c.args.reading.now.at reading.at behind.at text c.in_ok-left_head.ensures.place.0
    (late_time text c.in_ok-time.field-0 c.in-Some.time c.args.after c.in-Some.is c.if-time-after.false c.in_ok-time.ensures) taken

pub returns-in-None-clause-damaged : goal.returns-in-None-clause-damaged
returns-in-None-clause-damaged g c =
    let reading = c.left_head.new.reading in
    let text = take (5 + c.in-Item.size - 5) (drop 5 c.held.result.now) in
    let behind : Stretch = record { at = reading.at + (5 + c.in-Item.size); held = drop (5 + c.in-Item.size) reading.held; size = reading.size } in
    let taken = told_taken (g.D.Disk.files c.args.disk.now) c.args.name.now c.args.gate reading behind c.args.reading.now.at c.in-Item.size _ c.in_ok-left_head.field-0 _ c.held.result.now
    c.in-Item.is c.in_ok-left_head.ensures.place.0 (omega arith) (subst (HasItem reading.held) c.in-Item.is c.in_ok-left_head.ensures.there) c.held.ensures.held refl refl c.in_ok-left_head.ensures.of c.in_ok-left_head.ensures.meets in
    rw c.damaged_here-in-None.ensures (told_unread (g.D.Disk.files c.args.disk.now) c.args.name.now c.args.gate c.args.after c.args.reading.now.at behind.at text c.in_ok-time.field-0 c.in-None.is c.in_ok-time.ensures taken)

pub returns-in-Closed-clause-passes : goal.returns-in-Closed-clause-passes
returns-in-Closed-clause-passes g c =
    told_stops_gate (g.D.Disk.files c.args.disk.now) c.args.name.now c.args.gate c.args.after c.args.reading.now.at c.left_head.new.reading.at c.in_ok-left_head.ensures.place.0
    (told_closed_at (g.D.Disk.files c.args.disk.now) c.args.name.now c.args.gate c.args.reading.now.at c.in_ok-left_head.field-0 c.in-Closed.is c.in_ok-left_head.ensures.here)

pub returns-in-Broken-clause-breaks : goal.returns-in-Broken-clause-breaks
returns-in-Broken-clause-breaks g c =
    let place = c.in_ok-left_head.ensures.place.0 in
    rw c.damaged_here.ensures (
      place,
      told_none_there (g.D.Disk.files c.args.disk.now) c.args.name.now c.left_head.new.reading.at
          (told_no_item (g.D.Disk.files c.args.disk.now) c.args.name.now c.args.gate c.args.reading.now.at c.left_head.new.reading.at c.in_ok-left_head.field-0 c.in-Broken.is place c.in_ok-left_head.ensures.here),
    )

pub returns-in-Some-clause-passes : goal.returns-in-Some-clause-passes
returns-in-Some-clause-passes g c =
    let text = take (5 + c.in-Item.size - 5) (drop 5 c.held.result.now) in
    let stands = told_stands (g.D.Disk.files c.args.disk.now) c.args.name.now c.args.gate c.left_head.new.reading c.args.reading.now.at c.in-Item.size _ c.in_ok-left_head.field-0 text c.held.result.now
    c.in-Item.is c.in_ok-left_head.ensures.place.0 (omega arith) (subst (HasItem c.left_head.new.reading.held) c.in-Item.is c.in_ok-left_head.ensures.there) c.held.ensures.held refl c.in_ok-left_head.ensures.of c.in_ok-left_head.ensures.here in
    told_passes_one (g.D.Disk.files c.args.disk.now) c.args.name.now c.args.gate c.args.after c.args.reading.now.at c.skip.new.self.at c.in-Some.time text c.in-Item.size c.in_ok-time.field-0 c.in-Some.is c.if-time-after.true c.in_ok-time.ensures
    (omega arith) (omega (arith, ap (λ (s : Stretch). s.at) c.skip.ensures, c.in_ok-left_head.ensures.place.0)) stands

pub returns-in-Some-2-clause-passes : goal.returns-in-Some-2-clause-passes
returns-in-Some-2-clause-passes g c =
    let text = take (5 + c.in-Item.size - 5) (drop 5 c.held.result.now) in
    let stands = told_stands (g.D.Disk.files c.args.disk.now) c.args.name.now c.args.gate c.left_head.new.reading c.args.reading.now.at c.in-Item.size _ c.in_ok-left_head.field-0 text c.held.result.now
    c.in-Item.is c.in_ok-left_head.ensures.place.0 (omega arith) (subst (HasItem c.left_head.new.reading.held) c.in-Item.is c.in_ok-left_head.ensures.there) c.held.ensures.held refl c.in_ok-left_head.ensures.of c.in_ok-left_head.ensures.here in
    told_stops_late (g.D.Disk.files c.args.disk.now) c.args.name.now c.args.gate c.args.after c.args.reading.now.at c.left_head.new.reading.at c.in-Some.time text c.in_ok-time.field-0 c.in-Some.is c.if-time-after.false c.in_ok-time.ensures
    c.in_ok-left_head.ensures.place.0 stands

pub returns-in-None-clause-breaks : goal.returns-in-None-clause-breaks
returns-in-None-clause-breaks g c =
    let text = take (5 + c.in-Item.size - 5) (drop 5 c.held.result.now) in
    let stands = told_stands (g.D.Disk.files c.args.disk.now) c.args.name.now c.args.gate c.left_head.new.reading c.args.reading.now.at c.in-Item.size _ c.in_ok-left_head.field-0 text c.held.result.now
    c.in-Item.is c.in_ok-left_head.ensures.place.0 (omega arith) (subst (HasItem c.left_head.new.reading.held) c.in-Item.is c.in_ok-left_head.ensures.there) c.held.ensures.held refl c.in_ok-left_head.ensures.of c.in_ok-left_head.ensures.here in
    let place = c.in_ok-left_head.ensures.place.0 in
    rw c.damaged_here-in-None.ensures (place, told_unread_there (g.D.Disk.files c.args.disk.now) c.args.name.now c.args.gate c.args.reading.now.at c.left_head.new.reading.at text c.in_ok-time.field-0 c.in-None.is c.in_ok-time.ensures place stands)
