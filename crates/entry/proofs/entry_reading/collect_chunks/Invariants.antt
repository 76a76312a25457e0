use Rattle.proto_wire.specs.Reading.{bytes_left, fields_left}
use Rattle.entry.proofs.Collecting.{CollectsSo}
use Rattle.entry.proofs.entry_reading.collect_chunks.Given as goal

abbrev pub invariant-loop-field : goal.invariant-loop-field
invariant-loop-field l = CollectsSo l.text (fields_left l.reader) l.chunks.items

abbrev pub decreases-loop-field : goal.decreases-loop-field
decreases-loop-field l = bytes_left l.reader
