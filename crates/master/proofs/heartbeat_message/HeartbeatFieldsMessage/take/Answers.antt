use Rattle.std.proofs.Common.{ap, ◌∙◌}
use Rattle.proto_wire.specs.Field.{value_text, field_text}
use Rattle.master.specs.HeartbeatText.{heartbeat_in, heartbeat_with_number, heartbeat_with_text}
use Rattle.master.proofs.Messages.{field_with, takes, is_fixed, heartbeat_number, heartbeat_text, heartbeat_stays}
use Rattle.master.proofs.heartbeat_message.HeartbeatFieldsMessage.take.Goals as goal

pub returns-in-Varint : goal.returns-in-Varint
returns-in-Varint c = λ before is.
    takes heartbeat_in (heartbeat_with_number c.args.field.number c.in-Varint.value) before _ _ _ _ c.take_number.ensures
    (heartbeat_number before c.args.field.number c.in-Varint.value) (ap (λ v. field_with c.args.field.number (value_text v)) c.in-Varint.is) is

pub returns-in-Bytes : goal.returns-in-Bytes
returns-in-Bytes c = λ before is.
    takes heartbeat_in (heartbeat_with_text c.args.field.number c.in-Bytes.text.now) before _ _ _ _ c.take_text.ensures
    (heartbeat_text before c.args.field.number c.in-Bytes.text.now) (ap (λ v. field_with c.args.field.number (value_text v)) c.in-Bytes.is) is

pub returns-in-Fixed64 : goal.returns-in-Fixed64
returns-in-Fixed64 c = λ before is.
    let fixed = is_fixed c.args.field.value c.in-Fixed64.is in is ∙ heartbeat_stays before (field_text c.args.field) fixed.0 fixed.1
