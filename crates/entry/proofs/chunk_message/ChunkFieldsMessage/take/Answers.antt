use Rattle.std.proofs.Common.{ap, ◌∙◌}
use Rattle.proto_wire.specs.Field.{value_text, field_text}
use Rattle.entry.specs.ChunkText.{chunk_in}
use Rattle.entry.specs.ChunkSteps.{chunk_with_number, chunk_with_text}
use Rattle.entry.proofs.MessageLemmas.{field_with, takes, is_fixed}
use Rattle.entry.proofs.ChunkLemmas.{chunk_number, chunk_text, chunk_stays}
use Rattle.entry.proofs.chunk_message.ChunkFieldsMessage.take.Goals as goal

pub returns-in-Varint : goal.returns-in-Varint
returns-in-Varint c = λ before is.
    takes chunk_in (chunk_with_number c.args.field.number c.in-Varint.value) before _ _ _ _ c.take_number.ensures
    (chunk_number before c.args.field.number c.in-Varint.value) (ap (λ v. field_with c.args.field.number (value_text v)) c.in-Varint.is) is

pub returns-in-Bytes : goal.returns-in-Bytes
returns-in-Bytes c = λ before is.
    takes chunk_in (chunk_with_text c.args.field.number c.in-Bytes.text.now) before _ _ _ _ c.take_text.ensures
    (chunk_text before c.args.field.number c.in-Bytes.text.now) (ap (λ v. field_with c.args.field.number (value_text v)) c.in-Bytes.is) is

pub returns-in-Fixed64 : goal.returns-in-Fixed64
returns-in-Fixed64 c = λ before is.
    let fixed = is_fixed c.args.field.value c.in-Fixed64.is in is ∙ chunk_stays before (field_text c.args.field) fixed.0 fixed.1
