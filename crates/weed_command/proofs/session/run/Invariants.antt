use Rattle.std.proofs.Common.{◌≡◌, List, length}
use Rattle.weed_base.specs.Files.{BothTold}
use Rattle.weed_base.specs.Sent.{bytes_sent}
use Rattle.name_core.specs.declared.change.Record.{Record}
use Rattle.meta_log.specs.Images.{ImagesHoldRecords}
use Rattle.weed_command.specs.Growth.{GrowsByRecords}
use Rattle.weed_command.specs.Filer.{HoldsFiler}
use Rattle.weed_command.specs.Session.{State, Turns, last_of}
use Rattle.weed_command.specs.Tells.{Tells}
use Rattle.weed_command.proofs.CrashLemmas.{Keeping}
use Rattle.weed_command.proofs.session.run.Given as goal

abbrev pub invariant-loop-turn : goal.invariant-loop-turn
invariant-loop-turn g l =
    let disk = g.H.Disk in
    record {
      held : (records : List Record) × HoldsFiler (disk.files l.world.host) l.session.filer records;
      led : (first : State) → Tells (g.S.Source.left l.fn.world.source) (bytes_sent (g.H.Host.sent l.fn.world.host)) (disk.files l.fn.world.host) (g.C.Clock.moments l.fn.world.clock) l.fn.session first
          → (path : List State) × Tells (g.S.Source.left l.world.source) (bytes_sent (g.H.Host.sent l.world.host)) (disk.files l.world.host) (g.C.Clock.moments l.world.clock) l.session (last_of first path)
          × Turns first path × (length path ≡ l._turn)
          × (ImagesHoldRecords (disk.images l.fn.world.host) first.log → Keeping disk.tick disk.images disk.image_since g.H.Host.sent l.fn.world.host l.world.host first path);
      faults : disk.faults l.world.host ≡ disk.faults l.fn.world.host;
      read_faults : g.S.Source.faults l.world.source ≡ g.S.Source.faults l.fn.world.source;
      send_faults : g.H.Host.send_faults l.world.host ≡ g.H.Host.send_faults l.fn.world.host;
      grows : BothTold GrowsByRecords (disk.files l.fn.world.host) (disk.files l.world.host);
    }
