use Rattle.std.proofs.Common.{Ok, Err, refl, sym, subst}
use Rattle.std.proofs.lemmas.Result.{err_from_is_err_and}
use Rattle.proto_wire.specs.Field.{field_text}
use Rattle.proto_wire.specs.Reading.{fields_left, TakesFirst}
use Rattle.entry.proofs.Collecting.{first_left}
use Rattle.records.specs.RecordReading.{ReadsRecord, record_with_events}
use Rattle.records.specs.Events.{both, event_means}
use Rattle.records.proofs.ReadingLoop.{FindsSo, reads_none, reads_other, reads_event, reads_fault, reads_all}
use Rattle.records.proofs.record_reading.read_events.Goals as goal

pub loop-found-init : goal.loop-found-init
loop-found-init c =
    subst (λ read. FindsSo c.args.text.now (fields_left read) c.none-found.result) (sym c.new-reader.ensures)
    (record { meant = _; so = reads_none c.args.text.now; collects = c.none-found.ensures })

pub returns-in_err-event : goal.returns-in_err-event
returns-in_err-event c = λ fields whole.
    let first = first_left _ c.in-Some.field _ _ c.in-Some.is c.in_ok-field.ensures.first in
    let p = err_from_is_err_and c.from_residual-in_err-event.result c.from_residual-in_err-event.ensures.1 in
    subst (ReadsRecord (record_with_events c.args.time fields)) (sym p.1)
    (subst (λ fault. ReadsRecord (record_with_events c.args.time fields) (Err fault)) (sym p.2)
    (reads_fault _ _ _ _ fields c.args.time _ _ c.in_err-event.field-0.0 c.loop-found.invariant.so whole first c.in-Some-event_text.ensures (sym c.in_err-event.ensures)))

pub loop-found-preserved-in-Some-event_text : goal.loop-found-preserved-in-Some-event_text
loop-found-preserved-in-Some-event_text c =
    let first = first_left _ c.in-Some.field _ _ c.in-Some.is c.in_ok-field.ensures.first in
    let before = c.loop-found.invariant.meant in
    record {
      meant = both before (event_means c.in_ok-event.event);
      so = reads_event _ _ _ before _ (field_text c.in-Some.field) _ c.in_ok-event.event c.loop-found.invariant.so first c.in-Some-event_text.ensures (sym c.in_ok-event.ensures) refl;
      collects = c.take.ensures before (event_means c.in_ok-event.event) c.loop-found.invariant.collects c.changes_of.ensures;
    }

pub loop-found-preserved : goal.loop-found-preserved
loop-found-preserved c =
    let first = first_left _ c.in-Some.field _ _ c.in-Some.is c.in_ok-field.ensures.first in
    record {
      meant = c.loop-found.invariant.meant;
      so = reads_other _ _ _ _ (field_text c.in-Some.field) c.loop-found.invariant.so first c.in_default-event_text.ensures;
      collects = c.loop-found.invariant.collects;
    }

pub returns : goal.returns
returns c = λ fields whole.
    let none = subst (λ o. TakesFirst (Ok o) (fields_left c.loop-found.reader) (fields_left c.next.new.self)) c.in_default.is c.in_ok-field.ensures.first in
    subst (λ read. ReadsRecord read c.into_record.result) (sym (reads_all _ _ _ fields c.args.time c.loop-found.invariant.so whole none))
    (c.into_record.ensures c.loop-found.invariant.meant c.loop-found.invariant.collects)
