use Rattle.std.proofs.Common.{◌≡◌, ◌++◌, take}
use Rattle.master.specs.HeartbeatWriting.{volumes_text}
use Rattle.master.proofs.heartbeat_writing.write_volumes.Given as goal

abbrev pub invariant-loop-report : goal.invariant-loop-report
invariant-loop-report l = l.into ≡ l.initial.into ++ volumes_text (take l.report-index l.reports)
