use Rattle.std.proofs.Common.{ap, ◌∙◌}
use Rattle.proto_wire.specs.Field.{value_text, field_text}
use Rattle.records.specs.Messages.{notification_in}
use Rattle.records.specs.Steps.{notification_with_text}
use Rattle.entry.proofs.MessageLemmas.{field_with, takes, is_no_text}
use Rattle.records.proofs.MessageLemmas.{notification_text, notification_stays}
use Rattle.records.proofs.event_message.NotificationFieldsMessage.take.Goals as goal

pub returns-in-Bytes : goal.returns-in-Bytes
returns-in-Bytes c = λ before is.
    takes notification_in (notification_with_text c.args.field.number c.in-Bytes.text.now) before _ _ _ _ c.take_text.ensures
    (notification_text before c.args.field.number c.in-Bytes.text.now) (ap (λ v. field_with c.args.field.number (value_text v)) c.in-Bytes.is) is

pub returns-in-Varint : goal.returns-in-Varint
returns-in-Varint c = λ before is.
    is ∙ notification_stays before (field_text c.args.field) (is_no_text c.args.field.value c.in-Varint.is)
