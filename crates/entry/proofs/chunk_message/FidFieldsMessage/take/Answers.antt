use Rattle.std.proofs.Common.{ap, ◌∙◌}
use Rattle.proto_wire.specs.Field.{value_text, field_text}
use Rattle.entry.specs.ChunkText.{fid_in}
use Rattle.entry.specs.ChunkSteps.{fid_with_number, fid_with_fixed}
use Rattle.entry.proofs.MessageLemmas.{field_with, takes}
use Rattle.entry.proofs.ChunkLemmas.{fid_number, fid_fixed, fid_stays, is_other}
use Rattle.entry.proofs.chunk_message.FidFieldsMessage.take.Goals as goal

pub returns-in-Varint : goal.returns-in-Varint
returns-in-Varint c = λ before is.
    takes fid_in (fid_with_number c.args.field.number c.in-Varint.value) before _ _ _ _ c.take_number.ensures
    (fid_number before c.args.field.number c.in-Varint.value) (ap (λ v. field_with c.args.field.number (value_text v)) c.in-Varint.is) is

pub returns-in-Fixed32 : goal.returns-in-Fixed32
returns-in-Fixed32 c = λ before is.
    takes fid_in (fid_with_fixed c.args.field.number c.in-Fixed32.value) before _ _ _ _ c.take_fixed.ensures
    (fid_fixed before c.args.field.number c.in-Fixed32.value) (ap (λ v. field_with c.args.field.number (value_text v)) c.in-Fixed32.is) is

pub returns-in-Bytes : goal.returns-in-Bytes
returns-in-Bytes c = λ before is.
    let other = is_other c.args.field.value c.in-Bytes.is in is ∙ fid_stays before (field_text c.args.field) other.0 other.1
