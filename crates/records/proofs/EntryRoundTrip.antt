-- An entry that is written is read back.
use Rattle.std.proofs.Common.{◌≡◌, ℕ, suc, ◌+◌, ◌≤◌, ◌<◌, ◌^◌, true, false, cond, ◌||◌, eqb, leb, min, List, [], ◌∷◌, ◌++◌, length, map, Option, None, Some, Ok, Err, refl, ap, ◌∙◌, inl, inr, arith, length-append, append-nil, All}
use Rattle.std.specs.Prelude.{is_some, is_none, unwrap_or, filter_map, option_and_then}
use Rattle.std.specs.List.{last_or, list_all, cons_option}
use Rattle.std.specs.Option.{option_or}
use Rattle.std.specs.Result.{result_err}
use Rattle.std.proofs.lemmas.Bool.{le-leb}
use Rattle.std.proofs.lemmas.Bool.Decides.{eqb_tells}
use Rattle.std.proofs.lemmas.List.Elements.{filter_map-append, All-head, All-tail}
use Rattle.proto_wire.specs.Text.{varint_field, bytes_field, message_field}
use Rattle.proto_wire.specs.Field.{◌>>=◌, Varint, Bytes, FieldText, fields_of}
use Rattle.proto_wire.specs.Taken.{number_in, text_in, messages_at, last_number, last_text, last_message}
use Rattle.proto_wire.proofs.Fields.{fields_of-nil}
use Rattle.proto_wire.proofs.Spells.{Spells, Spells-append, Spells-nil, Spells-message, Spells-number, Spells-bytes, Spells-whole, number_fields, text_fields}
use Rattle.entry.specs.declared.chunk.Chunk.{Chunk}
use Rattle.entry.specs.declared.entry.Entry.{Entry}
use Rattle.entry.specs.declared.entry.Kind.{Kind}
use Rattle.entry.specs.declared.entry.Kind.TheVariants.{Directory, File}
use Rattle.entry.specs.AttributesText.{attributes_in, attributes_text, attributes_of, are_good}
use Rattle.entry.specs.Entry.{IsValid, IsValidChunk}
use Rattle.entry.specs.EntryText.{chunk_read, chunk_fault, taken_fault, chunks_fault, early_fault, entry_fields_in}
use Rattle.entry.specs.EntryParts.{EntryParts}
use Rattle.entry.specs.EntryReading.{behind_fault, or_no_fields, entry_parts, entry_with, entry_at, kind_of, is_entry, chunks_of, entry_of, or_wire, if_entry, entry_read}
use Rattle.entry.specs.declared.entry_fault.EntryFault.TheVariants as faults
use Rattle.entry.specs.EntryWriting.{chunk_text, chunks_text, directory_bit, entry_text, FitsChunk, FitsEntry}
use Rattle.entry.proofs.EntryLemmas.{fault_is}
use Rattle.entry.proofs.MessageLemmas.{field_with}
use Rattle.entry.proofs.RoundTrip.{attributes_fields, spelled_attributes, attributes_in-fields, Spells-attributes, good_again, attributes_again, and_true, inside_message, inside_bytes}
use Rattle.records.proofs.ChunkRoundTrip.{chunk_at-text, chunk_read-text}

-- ---- The fields that are written

abbrev chunk_fields : List Chunk → List FieldText
chunk_fields chunks = map (λ c. field_with 3 (Bytes (chunk_text c))) chunks

abbrev pub entry_fields : List ℕ → Entry → List FieldText
entry_fields name entry =
    text_fields 1 name ++ number_fields 2 (directory_bit entry.kind) ++ chunk_fields entry.chunks ++ (field_with 4 (Bytes (attributes_text entry.attributes)) ∷ [])

Spells-chunks : (chunks : List Chunk) → length (chunks_text chunks) < 2 ^ 64 → Spells (chunks_text chunks) (chunk_fields chunks)
Spells-chunks [] short = Spells-nil
Spells-chunks (c ∷ chunks) short =
    let both : length (chunks_text (c ∷ chunks)) ≡ length (message_field 3 (chunk_text c)) + length (chunks_text chunks) = length-append (message_field 3 (chunk_text c)) (chunks_text chunks) in
    Spells-append _ _ (field_with 3 (Bytes (chunk_text c)) ∷ []) (chunk_fields chunks)
    (Spells-message 3 (chunk_text c) (record { low = omega arith; high = omega arith }) (omega (arith, inside_message 3 (chunk_text c))))
    (Spells-chunks chunks (omega arith))

-- The lengths of what stands in an entry's text
record Room (name : List ℕ) (entry : Entry) : Type 0 where
  name_fits : length name < 2 ^ 64
  chunks_fit : length (chunks_text entry.chunks) < 2 ^ 64
  attributes_fit : length (attributes_text entry.attributes) < 2 ^ 64

room : (name : List ℕ) (entry : Entry) → length (entry_text name entry) < 2 ^ 64 → Room name entry
room name entry short =
    let first : List ℕ = bytes_field 1 name in
    let second : List ℕ = varint_field 2 (directory_bit entry.kind) in
    let third : List ℕ = chunks_text entry.chunks in
    let last : List ℕ = message_field 4 (attributes_text entry.attributes) in
    let all : length (entry_text name entry) ≡ length first + length second + length third + length last =
    omega (arith, length-append first second, length-append (first ++ second) third, length-append (first ++ second ++ third) last) in
    record {
      name_fits = omega (arith, inside_bytes 1 name);
      chunks_fit = omega arith;
      attributes_fit = omega (arith, inside_message 4 (attributes_text entry.attributes));
    }

bit_is_small : (kind : Kind) → directory_bit kind < 2 ^ 64
bit_is_small Directory = omega arith
bit_is_small File = omega arith

Spells-entry : (name : List ℕ) (entry : Entry) → Room name entry → Spells (entry_text name entry) (entry_fields name entry)
Spells-entry name entry fits =
    Spells-append _ _ _ _
    (Spells-append _ _ _ _
    (Spells-append _ _ _ _ (Spells-bytes 1 name (record { low = omega arith; high = omega arith }) fits.name_fits)
    (Spells-number 2 (directory_bit entry.kind) (record { low = omega arith; high = omega arith }) (bit_is_small entry.kind)))
    (Spells-chunks entry.chunks fits.chunks_fit))
    (Spells-message 4 (attributes_text entry.attributes) (record { low = omega arith; high = omega arith }) fits.attributes_fit)

-- ---- What these fields give

in_four : {Y : Type 0} (h : FieldText → Option Y) (a b c d : List FieldText) → filter_map h (a ++ b ++ c ++ d) ≡ filter_map h a ++ filter_map h b ++ filter_map h c ++ filter_map h d
in_four h a b c d =
    filter_map-append h (a ++ b ++ c) d
    ∙ ap (λ front. front ++ filter_map h d) (filter_map-append h (a ++ b) c ∙ ap (λ front. front ++ filter_map h c) (filter_map-append h a b))

four : {Y : Type 0} (a b c d w x y z : List Y) → a ≡ w → b ≡ x → c ≡ y → d ≡ z → a ++ b ++ c ++ d ≡ w ++ x ++ y ++ z
four a b c d w x y z first second third last = λ i. first i ++ second i ++ third i ++ last i

name_kept : {Y : Type 0} (h : FieldText → Option Y) (name : List ℕ) (kept : List Y) → filter_map h (field_with 1 (Bytes name) ∷ []) ≡ kept → filter_map h (text_fields 1 name) ≡ cond (eqb (length name) 0) [] kept
name_kept h name kept is = elim (eqb (length name) 0) as (λ b. filter_map h (cond b [] (field_with 1 (Bytes name) ∷ [])) ≡ cond b [] kept) [ true ↦ refl | false ↦ is ]

bit_kept : {Y : Type 0} (h : FieldText → Option Y) (kind : Kind) (kept : List Y) → filter_map h (field_with 2 (Varint 1) ∷ []) ≡ kept → filter_map h (number_fields 2 (directory_bit kind)) ≡ cond (eqb (directory_bit kind) 0) [] kept
bit_kept h Directory kept is = is
bit_kept h File kept is = refl

none_of_bit : {Y : Type 0} (h : FieldText → Option Y) (kind : Kind) → filter_map h (field_with 2 (Varint 1) ∷ []) ≡ [] → filter_map h (number_fields 2 (directory_bit kind)) ≡ []
none_of_bit h Directory is = is
none_of_bit h File is = refl

none_of_name : {Y : Type 0} (h : FieldText → Option Y) (name : List ℕ) → filter_map h (field_with 1 (Bytes name) ∷ []) ≡ [] → filter_map h (text_fields 1 name) ≡ []
none_of_name h name is = elim (eqb (length name) 0) as (λ b. filter_map h (cond b [] (field_with 1 (Bytes name) ∷ [])) ≡ []) [ true ↦ refl | false ↦ is ]

chunk_texts : (chunks : List Chunk) → filter_map (text_in 3) (chunk_fields chunks) ≡ map chunk_text chunks
chunk_texts [] = refl
chunk_texts (c ∷ chunks) = ap (λ texts. chunk_text c ∷ texts) (chunk_texts chunks)

no_chunk_name : (chunks : List Chunk) → filter_map (text_in 1) (chunk_fields chunks) ≡ []
no_chunk_name [] = refl
no_chunk_name (c ∷ chunks) = no_chunk_name chunks

no_chunk_number : (chunks : List Chunk) → filter_map (number_in 2) (chunk_fields chunks) ≡ []
no_chunk_number [] = refl
no_chunk_number (c ∷ chunks) = no_chunk_number chunks

no_chunk_attributes : (chunks : List Chunk) → filter_map (text_in 4) (chunk_fields chunks) ≡ []
no_chunk_attributes [] = refl
no_chunk_attributes (c ∷ chunks) = no_chunk_attributes chunks

texts_again : (name : List ℕ) (entry : Entry) → messages_at 3 (entry_fields name entry) ≡ map chunk_text entry.chunks
texts_again name entry =
    in_four (text_in 3) (text_fields 1 name) (number_fields 2 (directory_bit entry.kind)) (chunk_fields entry.chunks) (field_with 4 (Bytes (attributes_text entry.attributes)) ∷ [])
    ∙ four _ _ _ _ [] [] (map chunk_text entry.chunks) [] (none_of_name (text_in 3) name refl) (none_of_bit (text_in 3) entry.kind refl) (chunk_texts entry.chunks) refl
    ∙ append-nil (map chunk_text entry.chunks)

empty : (name : List ℕ) → length name ≡ 0 → [] ≡ name
empty [] is = refl
empty (x ∷ name) is = absurd (omega arith)

short_name : (name : List ℕ) → unwrap_or (last_or None (cond (eqb (length name) 0) [] (name ∷ []))) [] ≡ name
short_name name =
    elim (eqb_tells (length name) 0) [
      | inl none ↦ ap (λ b. unwrap_or (last_or None (cond b [] (name ∷ []))) []) none.0 ∙ empty name none.1
      | inr some ↦ ap (λ b. unwrap_or (last_or None (cond b [] (name ∷ []))) []) some.0
    ]

name_again : (name : List ℕ) (entry : Entry) → last_text 1 (entry_fields name entry) ≡ name
name_again name entry =
    ap (λ texts. unwrap_or (last_or None texts) [])
    (in_four (text_in 1) (text_fields 1 name) (number_fields 2 (directory_bit entry.kind)) (chunk_fields entry.chunks) (field_with 4 (Bytes (attributes_text entry.attributes)) ∷ [])
    ∙ four _ _ _ _ (cond (eqb (length name) 0) [] (name ∷ [])) [] [] [] (name_kept (text_in 1) name (name ∷ []) refl) (none_of_bit (text_in 1) entry.kind refl) (no_chunk_name entry.chunks) refl
    ∙ append-nil _ ∙ append-nil _ ∙ append-nil _)
    ∙ short_name name

last_bit : (kind : Kind) → unwrap_or (last_or None (cond (eqb (directory_bit kind) 0) [] (1 ∷ []))) 0 ≡ directory_bit kind
last_bit Directory = refl
last_bit File = refl

bit_again : (name : List ℕ) (entry : Entry) → last_number 2 (entry_fields name entry) ≡ directory_bit entry.kind
bit_again name entry =
    ap (λ numbers. unwrap_or (last_or None numbers) 0)
    (in_four (number_in 2) (text_fields 1 name) (number_fields 2 (directory_bit entry.kind)) (chunk_fields entry.chunks) (field_with 4 (Bytes (attributes_text entry.attributes)) ∷ [])
    ∙ four _ _ _ _ [] (cond (eqb (directory_bit entry.kind) 0) [] (1 ∷ [])) [] [] (none_of_name (number_in 2) name refl) (bit_kept (number_in 2) entry.kind (1 ∷ []) refl) (no_chunk_number entry.chunks) refl
    ∙ append-nil _ ∙ append-nil _)
    ∙ last_bit entry.kind

last_again : (name : List ℕ) (entry : Entry) → last_message 4 (entry_fields name entry) ≡ Some (attributes_text entry.attributes)
last_again name entry =
    let text : List ℕ = attributes_text entry.attributes in
    ap (last_or None)
    (in_four (text_in 4) (text_fields 1 name) (number_fields 2 (directory_bit entry.kind)) (chunk_fields entry.chunks) (field_with 4 (Bytes text) ∷ [])
    ∙ four _ _ _ _ [] [] [] (text ∷ []) (none_of_name (text_in 4) name refl) (none_of_bit (text_in 4) entry.kind refl) (no_chunk_attributes entry.chunks) refl)

-- ---- No fault is met

neither : {X : Type 0} (a b : Option X) → option_or a b ≡ None → (a ≡ None) × (b ≡ None)
neither None b is = (refl, is)
neither (Some x) b is = absurd cc

faultless-append : (xs ys : List FieldText) → chunks_fault xs ≡ None → chunks_fault ys ≡ None → chunks_fault (xs ++ ys) ≡ None
faultless-append [] ys front back = back
faultless-append (x ∷ xs) ys front back =
    let parts = neither (chunk_fault x) (chunks_fault xs) front in
    ap (λ o. option_or o (chunks_fault (xs ++ ys))) parts.0 ∙ faultless-append xs ys parts.1 back

early_too : (fields : List FieldText) → chunks_fault fields ≡ None → early_fault fields ≡ None
early_too [] none = refl
early_too (field ∷ behind) none =
    let parts = neither (chunk_fault field) (chunks_fault behind) none in
    elim (is_none (last_message 4 behind)) as (λ b. cond b None (option_or (chunk_fault field) (early_fault behind)) ≡ None) [
      | true ↦ refl
      | false ↦ ap (λ o. option_or o (early_fault behind)) parts.0 ∙ early_too behind parts.1
    ]

name_faultless : (name : List ℕ) → chunks_fault (text_fields 1 name) ≡ None
name_faultless name = elim (eqb (length name) 0) as (λ b. chunks_fault (cond b [] (field_with 1 (Bytes name) ∷ [])) ≡ None) [ true ↦ refl | false ↦ refl ]

bit_faultless : (kind : Kind) → chunks_fault (number_fields 2 (directory_bit kind)) ≡ None
bit_faultless Directory = refl
bit_faultless File = refl

chunks_faultless : (chunks : List Chunk) → All IsValidChunk chunks → All FitsChunk chunks → length (chunks_text chunks) < 2 ^ 64 → chunks_fault (chunk_fields chunks) ≡ None
chunks_faultless [] valid fits short = refl
chunks_faultless (c ∷ chunks) valid fits short =
    let both : length (chunks_text (c ∷ chunks)) ≡ length (message_field 3 (chunk_text c)) + length (chunks_text chunks) = length-append (message_field 3 (chunk_text c)) (chunks_text chunks) in
    ap (λ read. option_or (result_err read) (chunks_fault (chunk_fields chunks)))
    (chunk_at-text c (All-head IsValidChunk c chunks valid) (All-head FitsChunk c chunks fits) (omega (arith, inside_message 3 (chunk_text c))))
    ∙ chunks_faultless chunks (All-tail IsValidChunk c chunks valid) (All-tail FitsChunk c chunks fits) (omega arith)

faultless : (name : List ℕ) (entry : Entry) → All IsValidChunk entry.chunks → FitsEntry entry → Room name entry → length entry.attributes.mime < 2 ^ 64 → taken_fault (entry_fields name entry) ≡ None
faultless name entry valid fits space mime =
    let fields : List FieldText = entry_fields name entry in
    let chunks : chunks_fault fields ≡ None =
    faultless-append (text_fields 1 name ++ number_fields 2 (directory_bit entry.kind) ++ chunk_fields entry.chunks) (field_with 4 (Bytes (attributes_text entry.attributes)) ∷ [])
    (faultless-append (text_fields 1 name ++ number_fields 2 (directory_bit entry.kind)) (chunk_fields entry.chunks)
    (faultless-append (text_fields 1 name) (number_fields 2 (directory_bit entry.kind)) (name_faultless name) (bit_faultless entry.kind))
    (chunks_faultless entry.chunks valid fits.chunks space.chunks_fit))
    refl in
    fault_is fields
    ∙ ap (λ o. option_or o (option_or (option_and_then (λ text. result_err (fields_of text)) (last_message 4 fields)) (chunks_fault fields))) (early_too fields chunks)
    ∙ ap (λ o. option_or (option_and_then (λ text. result_err (fields_of text)) o) (chunks_fault fields)) (last_again name entry)
    ∙ ap (λ read. option_or (result_err read) (chunks_fault fields)) (Spells-whole _ _ (Spells-attributes entry.attributes fits.attributes mime))
    ∙ chunks

-- ---- The entry is the one that was written

-- What a text is read as: parts that mean the entry
pub record ReadsBack (text name : List ℕ) (entry : Entry) : Type 0 where
  pub parts : EntryParts
  pub read : entry_at text ≡ Ok parts
  pub good : is_entry parts ≡ true
  pub name_is : parts.fields.name ≡ name
  pub entry_is : entry_of parts ≡ entry

chunks_again : (chunks : List Chunk) → All IsValidChunk chunks → All FitsChunk chunks → length (chunks_text chunks) < 2 ^ 64 → filter_map chunk_read (map chunk_text chunks) ≡ chunks
chunks_again [] valid fits short = refl
chunks_again (c ∷ chunks) valid fits short =
    let both : length (chunks_text (c ∷ chunks)) ≡ length (message_field 3 (chunk_text c)) + length (chunks_text chunks) = length-append (message_field 3 (chunk_text c)) (chunks_text chunks) in
    ap (λ o. cons_option o (filter_map chunk_read (map chunk_text chunks)))
    (chunk_read-text c (All-head IsValidChunk c chunks valid) (All-head FitsChunk c chunks fits) (omega (arith, inside_message 3 (chunk_text c))))
    ∙ ap (λ more. c ∷ more) (chunks_again chunks (All-tail IsValidChunk c chunks valid) (All-tail FitsChunk c chunks fits) (omega arith))

all_are_chunks : (chunks : List Chunk) → All IsValidChunk chunks → All FitsChunk chunks → length (chunks_text chunks) < 2 ^ 64 → list_all (λ text. is_some (chunk_read text)) (map chunk_text chunks) ≡ true
all_are_chunks [] valid fits short = refl
all_are_chunks (c ∷ chunks) valid fits short =
    let both : length (chunks_text (c ∷ chunks)) ≡ length (message_field 3 (chunk_text c)) + length (chunks_text chunks) = length-append (message_field 3 (chunk_text c)) (chunks_text chunks) in
    and_true _ _
    (ap is_some (chunk_read-text c (All-head IsValidChunk c chunks valid) (All-head FitsChunk c chunks fits) (omega (arith, inside_message 3 (chunk_text c)))))
    (all_are_chunks chunks (All-tail IsValidChunk c chunks valid) (All-tail FitsChunk c chunks fits) (omega arith))

length-texts : (chunks : List Chunk) → length (map chunk_text chunks) ≡ length chunks
length-texts [] = refl
length-texts (c ∷ chunks) = ap suc (length-texts chunks)

few_chunks : (n : ℕ) → n ≤ 65536 → min n 65537 ≤ 65536
few_chunks n few = omega arith

bare_or_file : (kind : Kind) (chunks : List Chunk) → (kind ≡ Directory → chunks ≡ []) → (eqb (directory_bit kind) 0 || eqb (min (length (map chunk_text chunks)) 65537) 0) ≡ true
bare_or_file Directory chunks bare = ap (λ cs. eqb (min (length (map chunk_text cs)) 65537) 0) (bare refl)
bare_or_file File chunks bare = refl

kind_again : (kind : Kind) → kind_of (directory_bit kind) ≡ kind
kind_again Directory = refl
kind_again File = refl

-- The text of a valid entry is read back to it.
pub entry_is_read_back : (name : List ℕ) (entry : Entry) → IsValid entry → FitsEntry entry → length (entry_text name entry) < 2 ^ 64 → ReadsBack (entry_text name entry) name entry
entry_is_read_back name entry valid fits short =
    let space : Room name entry = room name entry short in
    let fields : List FieldText = entry_fields name entry in
    let text : List ℕ = entry_text name entry in
    let mime : length entry.attributes.mime < 2 ^ 64 = omega (arith, valid.mime) in
    let whole : fields_of text ≡ Ok fields = Spells-whole _ _ (Spells-entry name entry space) in
    let inner : fields_of (attributes_text entry.attributes) ≡ Ok (attributes_fields entry.attributes) = Spells-whole _ _ (Spells-attributes entry.attributes fits.attributes mime) in
    let last : last_text 4 fields ≡ attributes_text entry.attributes = ap (λ o. unwrap_or o []) (last_again name entry) in
    let attributes : attributes_in (or_no_fields (fields_of (last_text 4 fields))) ≡ spelled_attributes entry.attributes =
    ap (λ t. attributes_in (or_no_fields (fields_of t))) last ∙ ap (λ read. attributes_in (or_no_fields read)) inner ∙ attributes_in-fields entry.attributes in
    let texts : messages_at 3 fields ≡ map chunk_text entry.chunks = texts_again name entry in
    let made : EntryParts = entry_parts text (entry_fields_in fields) (attributes_in (or_no_fields (fields_of (last_text 4 fields)))) in
    let values : are_good made.attributes ≡ true = ap are_good attributes ∙ good_again entry.attributes fits.attributes valid.file_size valid.mime in
    let each : made.fields.chunks.are_good ≡ true = ap (list_all (λ t. is_some (chunk_read t))) texts ∙ all_are_chunks entry.chunks valid.chunks fits.chunks space.chunks_fit in
    let count : made.fields.chunks.count ≡ min (length (map chunk_text entry.chunks)) 65537 = ap (λ ts. min (length ts) 65537) texts in
    let few : leb made.fields.chunks.count 65536 ≡ true =
    ap (λ n. leb n 65536) (count ∙ ap (λ n. min n 65537) (length-texts entry.chunks)) ∙ le-leb _ _ (few_chunks (length entry.chunks) valid.few) in
    let kind : (eqb made.fields.is_directory 0 || eqb made.fields.chunks.count 0) ≡ true =
    ap (λ n. eqb n 0 || eqb made.fields.chunks.count 0) (bit_again name entry) ∙ ap (λ n. eqb (directory_bit entry.kind) 0 || eqb n 0) count ∙ bare_or_file entry.kind entry.chunks valid.bare in
    let chunks : chunks_of text ≡ entry.chunks =
    ap (λ read. filter_map chunk_read (messages_at 3 (or_no_fields read))) whole ∙ ap (filter_map chunk_read) texts ∙ chunks_again entry.chunks valid.chunks fits.chunks space.chunks_fit in
    record {
      parts = made;
      read = ap (λ read. read >>= λ outer. entry_with text outer) whole ∙ ap (λ o. behind_fault o (Ok made)) (faultless name entry valid.chunks fits space mime);
      good = and_true _ _ (and_true _ _ (and_true _ _ values each) few) kind;
      name_is = name_again name entry;
      entry_is = λ i. record {
        kind = (ap kind_of (bit_again name entry) ∙ kind_again entry.kind) i;
        attributes = (ap attributes_of attributes ∙ attributes_again entry.attributes fits.attributes) i;
        chunks = chunks i;
      };
    }

-- An entry of a name alone
pub name_is_read : (name : List ℕ) → length name < 2 ^ 64 → (parts : EntryParts) × (entry_at (bytes_field 1 name) ≡ Ok parts) × (is_entry parts ≡ true) × (parts.fields.name ≡ name)
name_is_read name short =
    let fields : List FieldText = text_fields 1 name in
    let text : List ℕ = bytes_field 1 name in
    let whole : fields_of text ≡ Ok fields = Spells-whole _ _ (Spells-bytes 1 name (record { low = omega arith; high = omega arith }) short) in
    let none : last_message 4 fields ≡ None = ap (last_or None) (none_of_name (text_in 4) name refl) in
    let last : last_text 4 fields ≡ [] = ap (λ o. unwrap_or o []) none in
    let attributes : attributes_in (or_no_fields (fields_of (last_text 4 fields))) ≡ attributes_in [] =
    ap (λ t. attributes_in (or_no_fields (fields_of t))) last ∙ ap (λ read. attributes_in (or_no_fields read)) fields_of-nil in
    let made : EntryParts = entry_parts text (entry_fields_in fields) (attributes_in (or_no_fields (fields_of (last_text 4 fields)))) in
    let texts : messages_at 3 fields ≡ [] = none_of_name (text_in 3) name refl in
    let chunks : chunks_fault fields ≡ None = name_faultless name in
    let no_fault : taken_fault fields ≡ None =
    fault_is fields
    ∙ ap (λ o. option_or o (option_or (option_and_then (λ t. result_err (fields_of t)) (last_message 4 fields)) (chunks_fault fields))) (early_too fields chunks)
    ∙ ap (λ o. option_or (option_and_then (λ t. result_err (fields_of t)) o) (chunks_fault fields)) none ∙ chunks in
    let each : made.fields.chunks.are_good ≡ true = ap (list_all (λ t. is_some (chunk_read t))) texts in
    let count : made.fields.chunks.count ≡ 0 = ap (λ ts. min (length ts) 65537) texts in
    let kind : made.fields.is_directory ≡ 0 = ap (λ numbers. unwrap_or (last_or None numbers) 0) (none_of_name (number_in 2) name refl) in (
      made,
      ap (λ read. read >>= λ outer. entry_with text outer) whole ∙ ap (λ o. behind_fault o (Ok made)) no_fault,
      and_true _ _ (and_true _ _ (and_true _ _ (ap are_good attributes) each) (ap (λ n. leb n 65536) count)) (ap (λ n. eqb n 0 || eqb made.fields.chunks.count 0) kind),
      ap (λ texts. unwrap_or (last_or None texts) []) (name_kept (text_in 1) name (name ∷ []) refl) ∙ short_name name,
    )

pub entry_is_read : (name : List ℕ) (entry : Entry) → IsValid entry → FitsEntry entry → length (entry_text name entry) < 2 ^ 64 → entry_read (entry_text name entry) ≡ Ok (name, entry)
entry_is_read name entry valid fits short =
    let back : ReadsBack (entry_text name entry) name entry = entry_is_read_back name entry valid fits short in
    ap (λ read. or_wire read if_entry) back.read
    ∙ ap (λ b. cond b (Ok (back.parts.fields.name, entry_of back.parts)) (Err faults.BadEntry)) back.good
    ∙ ap (λ n. Ok (n, entry_of back.parts)) back.name_is
    ∙ ap (λ e. Ok (name, e)) back.entry_is
