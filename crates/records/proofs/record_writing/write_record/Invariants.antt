use Rattle.std.proofs.Common.{◌≡◌, ◌++◌, take, All}
use Rattle.std.specs.List.{flat_map}
use Rattle.proto_wire.specs.Text.{varint_field, message_field}
use Rattle.records.specs.RecordText.{change_text, FitsChange}
use Rattle.records.proofs.record_writing.write_record.Given as goal

-- The time and the events so far, whose changes fit their types
abbrev pub invariant-loop-change : goal.invariant-loop-change
invariant-loop-change l = record {
  text : l.text ≡ varint_field 1 l.step.time ++ flat_map (λ change. message_field 2 (change_text change)) (take l.change-index l.change-items);
  fits : All FitsChange (take l.change-index l.change-items);
}
