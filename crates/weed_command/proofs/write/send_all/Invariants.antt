use Rattle.std.proofs.Common.{length, ◌-◌, ◌≡◌, ◌≤◌, take}
use Rattle.weed_base.specs.Told.{Appends}
use Rattle.weed_base.specs.Sent.{bytes_sent}
use Rattle.weed_command.specs.Handed.{SendsAt}
use Rattle.weed_command.proofs.write.send_all.Given as goal

abbrev pub invariant-loop-done : goal.invariant-loop-done
invariant-loop-done g l =
    let host = g.H.Host in
    record {
      within : l.done ≤ length l.bytes;
      bytes : Appends (bytes_sent (host.sent l.fn.host)) (bytes_sent (host.sent l.host)) (take l.done l.bytes);
      pieces : SendsAt (g.H.Disk.tick l.host) (host.sent l.fn.host) (host.sent l.host);
      apart : host.apart l.host ≡ host.apart l.fn.host;
      send_faults : host.send_faults l.host ≡ host.send_faults l.fn.host;
    }

abbrev pub decreases-loop-done : goal.decreases-loop-done
decreases-loop-done g l = length l.bytes - l.done
