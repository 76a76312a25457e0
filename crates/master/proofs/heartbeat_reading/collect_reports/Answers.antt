use Rattle.std.proofs.Common.{sym, subst}
use Rattle.proto_wire.specs.Field.{field_text}
use Rattle.proto_wire.specs.Taken.{text_in}
use Rattle.proto_wire.specs.Reading.{fields_left}
use Rattle.master.specs.HeartbeatReading.{FindsReport}
use Rattle.master.proofs.Collected.{CollectsSo, first_left, collects_more, collects_other}
use Rattle.master.proofs.heartbeat_reading.collect_reports.Goals as goal

pub loop-field-preserved-in_ok-push : goal.loop-field-preserved-in_ok-push
loop-field-preserved-in_ok-push c =
    subst (CollectsSo c.args.text.now (fields_left c.next.new.self)) (sym c.in_ok-push.ensures.items)
    (collects_more _ (fields_left c.loop-field.reader) _ _ (field_text c.in-Ok-Some.field) c.in-Some.report c.loop-field.invariant (first_left _ c.in-Ok-Some.field _ _ c.in-Ok-Some.field-0-is c.in-Ok-Some.ensures.first) (subst (FindsReport (text_in 7 (field_text c.in-Ok-Some.field))) c.in-Some.is c.report_in.ensures))

pub loop-field-preserved : goal.loop-field-preserved
loop-field-preserved c =
    collects_other _ (fields_left c.loop-field.reader) _ _ (field_text c.in-Ok-Some.field) c.loop-field.invariant (first_left _ c.in-Ok-Some.field _ _ c.in-Ok-Some.field-0-is c.in-Ok-Some.ensures.first) (subst (FindsReport (text_in 7 (field_text c.in-Ok-Some.field))) c.in_default-report_in.is c.report_in.ensures)
