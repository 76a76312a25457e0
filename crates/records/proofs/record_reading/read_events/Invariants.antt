use Rattle.proto_wire.specs.Reading.{bytes_left, fields_left}
use Rattle.records.proofs.ReadingLoop.{FindsSo}
use Rattle.records.proofs.record_reading.read_events.Given as goal

abbrev pub invariant-loop-found : goal.invariant-loop-found
invariant-loop-found l = FindsSo l.text (fields_left l.reader) l.found

abbrev pub decreases-loop-found : goal.decreases-loop-found
decreases-loop-found l = bytes_left l.reader
