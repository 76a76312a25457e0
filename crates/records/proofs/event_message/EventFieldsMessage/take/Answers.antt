use Rattle.std.proofs.Common.{ap, ◌∙◌}
use Rattle.proto_wire.specs.Field.{value_text, field_text}
use Rattle.records.specs.Messages.{event_fields_in}
use Rattle.records.specs.Steps.{event_with_text}
use Rattle.entry.proofs.MessageLemmas.{field_with, takes, is_no_text}
use Rattle.records.proofs.MessageLemmas.{event_text, event_stays}
use Rattle.records.proofs.event_message.EventFieldsMessage.take.Goals as goal

pub returns-in-Bytes : goal.returns-in-Bytes
returns-in-Bytes c = λ before is.
    takes event_fields_in (event_with_text c.args.field.number c.in-Bytes.text.now) before _ _ _ _ c.take_text.ensures
    (event_text before c.args.field.number c.in-Bytes.text.now) (ap (λ v. field_with c.args.field.number (value_text v)) c.in-Bytes.is) is

pub returns-in-Varint : goal.returns-in-Varint
returns-in-Varint c = λ before is.
    is ∙ event_stays before (field_text c.args.field) (is_no_text c.args.field.value c.in-Varint.is)
