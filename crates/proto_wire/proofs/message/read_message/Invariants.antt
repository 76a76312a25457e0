use Rattle.std.proofs.Common.{◌≡◌, List}
use Rattle.proto_wire.specs.Field.{FieldText, fields_of}
use Rattle.proto_wire.specs.Reading.{bytes_left, fields_left}
use Rattle.proto_wire.proofs.Seen.{with_seen}
use Rattle.proto_wire.proofs.message.read_message.Given as goal

abbrev pub invariant-loop-taken : goal.invariant-loop-taken
invariant-loop-taken g l =
    (seen : List FieldText) × (fields_of l.text ≡ with_seen seen (fields_left l.reader)) × g.M.Message.IsOf seen l.taken

abbrev pub decreases-loop-taken : goal.decreases-loop-taken
decreases-loop-taken g l = bytes_left l.reader
