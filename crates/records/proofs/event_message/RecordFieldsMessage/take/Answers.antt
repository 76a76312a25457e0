use Rattle.std.proofs.Common.{ap, ◌∙◌, cond, eqb}
use Rattle.proto_wire.specs.Field.{value_text, field_text}
use Rattle.proto_wire.specs.Taken.{last_number}
use Rattle.proto_wire.proofs.Seen.{number_takes, number_stays}
use Rattle.entry.proofs.MessageLemmas.{field_with, takes, is_no_number}
use Rattle.records.proofs.event_message.RecordFieldsMessage.take.Goals as goal

pub returns-in-Varint : goal.returns-in-Varint
returns-in-Varint c = λ before is.
    takes (last_number 1) (cond (eqb c.args.field.number 1) c.in-Varint.value) before _ _ _ _ c.take_number.ensures
    (number_takes 1 c.args.field.number c.in-Varint.value before) (ap (λ v. field_with c.args.field.number (value_text v)) c.in-Varint.is) is

pub returns-in-Bytes : goal.returns-in-Bytes
returns-in-Bytes c = λ before is.
    is ∙ number_stays 1 before (field_text c.args.field) (is_no_number c.args.field.value c.in-Bytes.is)
