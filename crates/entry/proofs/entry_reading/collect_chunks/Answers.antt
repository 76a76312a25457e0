use Rattle.std.proofs.Common.{Some, sym, subst}
use Rattle.proto_wire.specs.Field.{field_text}
use Rattle.proto_wire.specs.Reading.{fields_left}
use Rattle.entry.proofs.Collecting.{CollectsSo, first_left, collects_more, collects_other}
use Rattle.entry.proofs.entry_reading.collect_chunks.Goals as goal

pub loop-field-preserved-in_ok-push : goal.loop-field-preserved-in_ok-push
loop-field-preserved-in_ok-push c =
    subst (CollectsSo c.args.text.now (fields_left c.next.new.self)) (sym c.in_ok-push.ensures.items)
    (collects_more _ (fields_left c.loop-field.reader) _ _ (field_text c.in-Ok-Some.field) (Some c.in-Some.chunk) c.loop-field.invariant (first_left _ c.in-Ok-Some.field _ _ c.in-Ok-Some.field-0-is c.in-Ok-Some.ensures.first) c.in-Some.ensures)

pub loop-field-preserved : goal.loop-field-preserved
loop-field-preserved c =
    collects_other _ (fields_left c.loop-field.reader) _ _ (field_text c.in-Ok-Some.field) c.loop-field.invariant (first_left _ c.in-Ok-Some.field _ _ c.in-Ok-Some.field-0-is c.in-Ok-Some.ensures.first) c.in_default-chunk_in.ensures
