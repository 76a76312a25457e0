use Rattle.std.proofs.Common.{ap, ◌∙◌}
use Rattle.proto_wire.specs.Field.{value_text, field_text}
use Rattle.entry.specs.EntryText.{entry_fields_in}
use Rattle.entry.specs.EntrySteps.{entry_with_number, entry_with_text}
use Rattle.entry.proofs.MessageLemmas.{field_with, takes, is_fixed}
use Rattle.entry.proofs.EntryLemmas.{entry_number, entry_text, entry_stays}
use Rattle.entry.proofs.entry_message.EntryFieldsMessage.take.Goals as goal

pub returns-in-Varint : goal.returns-in-Varint
returns-in-Varint c = λ before is.
    takes entry_fields_in (entry_with_number c.args.field.number c.in-Varint.value) before _ _ _ _ c.take_number.ensures
    (entry_number before c.args.field.number c.in-Varint.value) (ap (λ v. field_with c.args.field.number (value_text v)) c.in-Varint.is) is

pub returns-in-Bytes : goal.returns-in-Bytes
returns-in-Bytes c = λ before is.
    takes entry_fields_in (entry_with_text c.args.field.number c.in-Bytes.text.now) before _ _ _ _ c.take_text.ensures
    (entry_text before c.args.field.number c.in-Bytes.text.now) (ap (λ v. field_with c.args.field.number (value_text v)) c.in-Bytes.is) is

pub returns-in-Fixed64 : goal.returns-in-Fixed64
returns-in-Fixed64 c = λ before is.
    let fixed = is_fixed c.args.field.value c.in-Fixed64.is in is ∙ entry_stays before (field_text c.args.field) fixed.0 fixed.1
