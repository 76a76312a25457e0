use Rattle.std.proofs.Common.{ap, ◌∙◌}
use Rattle.proto_wire.specs.Field.{value_text, field_text}
use Rattle.master.specs.VolumeText.{volume_in, volume_with}
use Rattle.master.proofs.Messages.{field_with, takes, is_no_number, volume_number, volume_stays}
use Rattle.master.proofs.volume_message.VolumeFieldsMessage.take.Goals as goal

pub returns-in-Varint : goal.returns-in-Varint
returns-in-Varint c = λ before is.
    takes volume_in (volume_with c.args.field.number c.in-Varint.value) before _ _ _ _ c.take_number.ensures
    (volume_number before c.args.field.number c.in-Varint.value) (ap (λ v. field_with c.args.field.number (value_text v)) c.in-Varint.is) is

pub returns-in-Bytes : goal.returns-in-Bytes
returns-in-Bytes c = λ before is.
    is ∙ volume_stays before (field_text c.args.field) (is_no_number c.args.field.value c.in-Bytes.is)
