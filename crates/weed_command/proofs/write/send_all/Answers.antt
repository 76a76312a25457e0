use Rattle.std.proofs.Common.{◌∙◌, take, drop, refl, arith}
use Rattle.std.proofs.lemmas.List.{take_rest}
use Rattle.weed_base.specs.Sent.{bytes_sent}
use Rattle.weed_base.specs.Told.{Appends}
use Rattle.weed_command.proofs.WrittenLemmas.{appends_more, took_some}
use Rattle.weed_command.proofs.HandedLemmas.{sends_nothing, sends_more, bytes_same, bytes_grow, front_grows}
use Rattle.weed_command.proofs.write.send_all.Goals as goal

pub loop-done-init : goal.loop-done-init
loop-done-init g c =
    let host = c.args.host.now in
    record {
      within = omega arith;
      bytes = bytes_same (bytes_sent (g.H.Host.sent host));
      pieces = sends_nothing (g.H.Disk.tick host) (g.H.Host.sent host);
      apart = refl;
      send_faults = refl;
    }

pub loop-done-preserved : goal.loop-done-preserved
loop-done-preserved g c =
    let sent = g.H.Host.sent in
    let tick = g.H.Disk.tick in
    let taken = c.in-Ok.ensures in
    let invariant = c.loop-done.invariant in
    let grown : Appends (bytes_sent (sent c.loop-done.host)) (bytes_sent (sent c.send.new.self)) (take c.in-Ok.count (drop c.loop-done.done c.args.bytes.now)) =
    bytes_grow (sent c.loop-done.host) (sent c.send.new.self) (tick c.loop-done.host) (take c.in-Ok.count (drop c.loop-done.done c.args.bytes.now)) (simp take_rest at taken.pieces.1) in
    record {
      within = omega (arith, taken.pieces.0);
      bytes = appends_more (bytes_sent (sent c.args.host.now)) (bytes_sent (sent c.loop-done.host)) (bytes_sent (sent c.send.new.self)) c.args.bytes.now c.loop-done.done c.in-Ok.count invariant.bytes grown;
      pieces = sends_more (tick c.loop-done.host) (tick c.send.new.self) (sent c.args.host.now) (sent c.loop-done.host) (sent c.send.new.self) _ invariant.pieces
          (g.met.H.Host.sends_keep_tick c.loop-done.host c.send.new.self _ taken.apart refl) taken.pieces.1;
      apart = taken.apart ∙ invariant.apart;
      send_faults = taken.cause.quiet (took_some c.in-Ok.count _ (omega arith)) ∙ invariant.send_faults;
    }

pub returns-in-Ok-eq0-clause-bytes : goal.returns-in-Ok-eq0-clause-bytes
returns-in-Ok-eq0-clause-bytes g c =
    let sent = g.H.Host.sent in
    front_grows _ (sent c.args.host.now) (sent c.loop-done.host) (sent c.send.new.self) (g.H.Disk.tick c.loop-done.host) c.args.bytes.now c.loop-done.done c.loop-done.invariant.bytes
    (simp take_rest at c.in-Ok-eq0.ensures.pieces.1) (omega arith)

pub returns-in-Ok-eq0-clause-pieces : goal.returns-in-Ok-eq0-clause-pieces
returns-in-Ok-eq0-clause-pieces g c =
    let sent = g.H.Host.sent in
    sends_more (g.H.Disk.tick c.loop-done.host) (g.H.Disk.tick c.send.new.self) (sent c.args.host.now) (sent c.loop-done.host) (sent c.send.new.self) _ c.loop-done.invariant.pieces
    (g.met.H.Host.sends_keep_tick c.loop-done.host c.send.new.self _ c.in-Ok-eq0.ensures.apart refl) c.in-Ok-eq0.ensures.pieces.1
