-- The chunks of an entry, one field after another.
use Rattle.std.proofs.Common.{◌≡◌, ℕ, List, [], ◌∷◌, ◌++◌, Option, None, Some, Result, Ok, refl, sym, ap, ◌∙◌, subst, append-nil}
use Rattle.std.specs.Prelude.{filter_map, option_to_list, option_and_then}
use Rattle.std.specs.List.{cons_option}
use Rattle.std.proofs.lemmas.List.Elements.{filter_map-append}
use Rattle.proto_wire.specs.declared.fault.WireFault.{WireFault}
use Rattle.proto_wire.specs.declared.field.Field.{Field}
use Rattle.proto_wire.specs.Field.{FieldText, field_text, fields_of, with_first}
use Rattle.proto_wire.specs.Reading.{TakesFirst}
use Rattle.proto_wire.specs.Taken.{text_in, messages_at}
use Rattle.proto_wire.proofs.Seen.{with_seen, with_seen-none, with_seen-more, messages_at-more}
use Rattle.entry.specs.declared.chunk.Chunk.{Chunk}
use Rattle.entry.specs.EntryText.{chunk_read}
use Rattle.entry.specs.EntryReading.{or_no_fields, chunks_of}

-- What was collected so far: the fields seen, and the chunks of these
pub record CollectsSo (text : List ℕ) (left : Result (List FieldText) WireFault) (chunks : List Chunk) : Type 0 where
  pub seen : List FieldText
  pub parts : fields_of text ≡ with_seen seen left
  pub collected : chunks ≡ filter_map chunk_read (messages_at 3 seen)

pub collects_none : (text : List ℕ) → CollectsSo text (fields_of text) []
collects_none text = record { seen = []; parts = with_seen-none (fields_of text); collected = refl }

abbrev pub one_chunk : FieldText → Option Chunk
one_chunk field = option_and_then chunk_read (text_in 3 field)

read_one : (o : Option (List ℕ)) → filter_map chunk_read (option_to_list o) ≡ option_to_list (option_and_then chunk_read o)
read_one None = refl
read_one (Some text) = elim (chunk_read text) as (λ o. cons_option o [] ≡ option_to_list o) [ None ↦ refl | Some chunk ↦ refl ]

chunks_more : (seen : List FieldText) (field : FieldText) → filter_map chunk_read (messages_at 3 (seen ++ field ∷ [])) ≡ filter_map chunk_read (messages_at 3 seen) ++ option_to_list (one_chunk field)
chunks_more seen field =
    ap (filter_map chunk_read) (messages_at-more 3 seen field)
    ∙ filter_map-append chunk_read (messages_at 3 seen) (option_to_list (text_in 3 field))
    ∙ ap (λ back. filter_map chunk_read (messages_at 3 seen) ++ back) (read_one (text_in 3 field))

-- One field more, with the chunk that it may hold
pub collects_more : (text : List ℕ) (left now : Result (List FieldText) WireFault) (chunks : List Chunk) (field : FieldText) (found : Option Chunk)
    → CollectsSo text left chunks → left ≡ with_first field now → found ≡ one_chunk field → CollectsSo text now (chunks ++ option_to_list found)
collects_more text left now chunks field found so first is = record {
  seen = so.seen ++ field ∷ [];
  parts = so.parts ∙ ap (with_seen so.seen) first ∙ with_seen-more so.seen field now;
  collected = ap (λ front. front ++ option_to_list found) so.collected ∙ ap (λ o. filter_map chunk_read (messages_at 3 so.seen) ++ option_to_list o) is ∙ sym (chunks_more so.seen field);
}

pub collects_other : (text : List ℕ) (left now : Result (List FieldText) WireFault) (chunks : List Chunk) (field : FieldText)
    → CollectsSo text left chunks → left ≡ with_first field now → None ≡ one_chunk field → CollectsSo text now chunks
collects_other text left now chunks field so first is = subst (CollectsSo text now) (append-nil chunks) (collects_more text left now chunks field None so first is)

-- At the end they are all.
pub collects_all : (text : List ℕ) (left : Result (List FieldText) WireFault) (chunks : List Chunk) → CollectsSo text left chunks → left ≡ Ok [] → chunks ≡ chunks_of text
collects_all text left chunks so none =
    let whole : fields_of text ≡ Ok so.seen = so.parts ∙ ap (with_seen so.seen) none ∙ ap Ok (append-nil so.seen) in
    so.collected ∙ ap (λ read. filter_map chunk_read (messages_at 3 (or_no_fields read))) (sym whole)

-- The first of what is left
pub first_left : (found : Option Field) (field : Field) (old now : Result (List FieldText) WireFault) → found ≡ Some field → TakesFirst (Ok found) old now → old ≡ with_first (field_text field) now
first_left found field old now is first = subst (λ o. TakesFirst (Ok o) old now) is first
