use Rattle.proto_wire.specs.Reading.{bytes_left, fields_left}
use Rattle.master.proofs.Collected.{CollectsSo}
use Rattle.master.proofs.heartbeat_reading.collect_reports.Given as goal

abbrev pub invariant-loop-field : goal.invariant-loop-field
invariant-loop-field l = CollectsSo l.text (fields_left l.reader) l.reports.items

abbrev pub decreases-loop-field : goal.decreases-loop-field
decreases-loop-field l = bytes_left l.reader
