-- What one field more makes of an entry's message, and which of its faults is the first.
use Rattle.std.proofs.Common.{◌≡◌, ℕ, ◌+◌, Bool, true, false, cond, eqb, ◌&&◌, List, [], ◌∷◌, ◌++◌, length, min, nat_lt, Option, None, Some, Result, Ok, Err, refl, sym, ap, ◌∙◌, arith, ◌⊎◌, inl, inr, length-append}
use Rattle.std.specs.Prelude.{is_some, is_none, option_to_list, option_and_then, unwrap_or, filter_map}
use Rattle.std.specs.List.{list_all, last_or, cons_option}
use Rattle.std.specs.Option.{option_or}
use Rattle.std.specs.Result.{result_err}
use Rattle.std.proofs.lemmas.Bool.Decides.{eqb_tells, nat_tests}
use Rattle.std.proofs.lemmas.List.Folds.{list_all-append}
use Rattle.proto_wire.specs.declared.fault.WireFault.{WireFault}
use Rattle.proto_wire.specs.Field.{◌>>=◌, Varint, Bytes, FieldText, fields_of}
use Rattle.proto_wire.proofs.Fields.{fields_of-nil}
use Rattle.proto_wire.specs.Taken.{varint_of, bytes_of, text_in, last_message, last_text, messages_at}
use Rattle.proto_wire.proofs.Seen.{number_takes, text_takes, number_stays, text_stays, messages_at-more, last_message-more}
use Rattle.entry.specs.declared.chunks_seen.ChunksSeen.{ChunksSeen}
use Rattle.entry.specs.ChunkReading.{chunk_at}
use Rattle.entry.specs.EntryText.{chunk_read, chunk_fault, attributes_fault, taken_fault, chunks_fault, early_fault, chunks_seen_in, EntryFieldsText, entry_fields_in}
use Rattle.entry.specs.AttributesText.{attributes_in}
use Rattle.entry.specs.EntryReading.{behind_fault, or_no_fields, entry_parts, entry_with, entry_at, entry_in_turn, attributes_at}
use Rattle.entry.specs.EntrySteps.{seen_with, seen_before, entry_with_number, entry_with_text}
use Rattle.entry.proofs.MessageLemmas.{field_with}

-- ---- Values that may be there

or_none : {X : Type 0} (o : Option X) → o ≡ option_or o None
or_none None = refl
or_none (Some x) = refl

or_assoc : {X : Type 0} (a b c : Option X) → option_or a (option_or b c) ≡ option_or (option_or a b) c
or_assoc None b c = refl
or_assoc (Some x) b c = refl

-- ---- The faults of chunks, with one field more

chunks_fault-more : (fields : List FieldText) (field : FieldText) → chunks_fault (fields ++ field ∷ []) ≡ option_or (chunks_fault fields) (chunk_fault field)
chunks_fault-more [] field = sym (or_none (chunk_fault field))
chunks_fault-more (first ∷ fields) field =
    ap (option_or (chunk_fault first)) (chunks_fault-more fields field) ∙ or_assoc (chunk_fault first) (chunks_fault fields) (chunk_fault field)

fault_some : (before : List FieldText) (field : FieldText) (text : List ℕ) → text_in 3 field ≡ Some text → option_or (chunks_fault before) (result_err (chunk_at text)) ≡ chunks_fault (before ++ field ∷ [])
fault_some before field text is =
    ap (λ o. option_or (chunks_fault before) (option_and_then (λ t. result_err (chunk_at t)) o)) (sym is) ∙ sym (chunks_fault-more before field)

fault_none : (before : List FieldText) (field : FieldText) → text_in 3 field ≡ None → chunks_fault before ≡ chunks_fault (before ++ field ∷ [])
fault_none before field is =
    or_none (chunks_fault before)
    ∙ ap (λ o. option_or (chunks_fault before) (option_and_then (λ t. result_err (chunk_at t)) o)) (sym is) ∙ sym (chunks_fault-more before field)

early_none : (before : List FieldText) (field : FieldText) → text_in 4 field ≡ None → early_fault before ≡ early_fault (before ++ field ∷ [])
early_none [] field is = refl
early_none (first ∷ before) field is =
    ap (λ o. cond (is_none o) None (option_or (chunk_fault first) (early_fault before))) (ap (λ o. option_or o (last_message 4 before)) (sym is) ∙ sym (last_message-more 4 before field))
    ∙ ap (λ o. cond (is_none (last_message 4 (before ++ field ∷ []))) None (option_or (chunk_fault first) o)) (early_none before field is)

early_some : (before : List FieldText) (field : FieldText) (text : List ℕ) → text_in 4 field ≡ Some text → chunks_fault before ≡ early_fault (before ++ field ∷ [])
early_some [] field text is = refl
early_some (first ∷ before) field text is =
    ap (option_or (chunk_fault first)) (early_some before field text is)
    ∙ ap (λ o. cond (is_none o) None (option_or (chunk_fault first) (early_fault (before ++ field ∷ [])))) (ap (λ o. option_or o (last_message 4 before)) (sym is) ∙ sym (last_message-more 4 before field))

-- ---- What is seen of chunks, with one field more

count_one_more : (n : ℕ) → cond (nat_lt (min n 65537) 65537) (min n 65537 + 1) (min n 65537) ≡ min (n + 1) 65537
count_one_more n = grind (arith, nat_tests)

append_none : {X : Type 0} (xs : List X) → xs ≡ xs ++ []
append_none [] = refl
append_none (x ∷ xs) = ap (λ ys. x ∷ ys) (append_none xs)

texts_some : (before : List FieldText) (field : FieldText) (text : List ℕ) → text_in 3 field ≡ Some text → messages_at 3 before ++ text ∷ [] ≡ messages_at 3 (before ++ field ∷ [])
texts_some before field text is = ap (λ o. messages_at 3 before ++ option_to_list o) (sym is) ∙ sym (messages_at-more 3 before field)

texts_none : (before : List FieldText) (field : FieldText) → text_in 3 field ≡ None → messages_at 3 before ≡ messages_at 3 (before ++ field ∷ [])
texts_none before field is = append_none (messages_at 3 before) ∙ ap (λ o. messages_at 3 before ++ option_to_list o) (sym is) ∙ sym (messages_at-more 3 before field)

and_one : (a b : Bool) → (a && b) ≡ (a && (b && true))
and_one true true = refl
and_one true false = refl
and_one false b = refl

abbrev is_chunk : List ℕ → Bool
is_chunk text = is_some (chunk_read text)

seen_chunk : (before : List FieldText) (field : FieldText) (text : List ℕ) → text_in 3 field ≡ Some text → text_in 4 field ≡ None → seen_with text (chunks_seen_in before) ≡ chunks_seen_in (before ++ field ∷ [])
seen_chunk before field text here there = λ i. record {
  fault = fault_some before field text here i;
  early = early_none before field there i;
  count = (count_one_more (length (messages_at 3 before)) ∙ ap (λ n. min n 65537) (sym (length-append (messages_at 3 before) (text ∷ []))) ∙ ap (λ texts. min (length texts) 65537) (texts_some before field text here)) i;
  are_good = (and_one (list_all is_chunk (messages_at 3 before)) (is_chunk text) ∙ sym (list_all-append is_chunk (messages_at 3 before) (text ∷ [])) ∙ ap (list_all is_chunk) (texts_some before field text here)) i;
}

seen_attributes : (before : List FieldText) (field : FieldText) (text : List ℕ) → text_in 3 field ≡ None → text_in 4 field ≡ Some text → seen_before (chunks_seen_in before) ≡ chunks_seen_in (before ++ field ∷ [])
seen_attributes before field text here there = λ i. record {
  fault = fault_none before field here i;
  early = early_some before field text there i;
  count = min (length (texts_none before field here i)) 65537;
  are_good = list_all is_chunk (texts_none before field here i);
}

seen_other : (before : List FieldText) (field : FieldText) → text_in 3 field ≡ None → text_in 4 field ≡ None → chunks_seen_in before ≡ chunks_seen_in (before ++ field ∷ [])
seen_other before field here there = λ i. record {
  fault = fault_none before field here i;
  early = early_none before field there i;
  count = min (length (texts_none before field here i)) 65537;
  are_good = list_all is_chunk (texts_none before field here i);
}

-- ---- Entry

no_text : (k : ℕ) (field : FieldText) → bytes_of field.value ≡ None → text_in k field ≡ None
no_text k field none = elim (eqb field.number k) as (λ b. cond b (bytes_of field.value) None ≡ None) [ true ↦ none | false ↦ refl ]

seen_text : (before : List FieldText) (number : ℕ) (text : List ℕ)
    → cond (eqb number 3) (seen_with text (chunks_seen_in before)) (cond (eqb number 4) (seen_before (chunks_seen_in before)) (chunks_seen_in before)) ≡ chunks_seen_in (before ++ field_with number (Bytes text) ∷ [])
seen_text before number text =
    let field : FieldText = field_with number (Bytes text) in
    let some : (b : Bool) → b ≡ true → cond b (Some text) None ≡ Some text = λ b is. ap (λ c. cond c (Some text) None) is in
    let none : (b : Bool) → b ≡ false → cond b (Some text) None ≡ None = λ b is. ap (λ c. cond c (Some text) None) is in
    let seen : ChunksSeen = chunks_seen_in before in
    elim (eqb_tells number 3) [
      | inl third ↦
          ap (λ b. cond b (seen_with text seen) (cond (eqb number 4) (seen_before seen) seen)) third.0
          ∙ seen_chunk before field text (some _ third.0) (none _ (ap (λ n. eqb n 4) third.1))
      | inr other ↦
          ap (λ b. cond b (seen_with text seen) (cond (eqb number 4) (seen_before seen) seen)) other.0
          ∙ elim (eqb_tells number 4) [
            | inl fourth ↦ ap (λ b. cond b (seen_before seen) seen) fourth.0 ∙ seen_attributes before field text (none _ other.0) (some _ fourth.0)
            | inr neither ↦ ap (λ b. cond b (seen_before seen) seen) neither.0 ∙ seen_other before field (none _ other.0) (none _ neither.0)
          ]
    ]

pub entry_number : (before : List FieldText) (number value : ℕ) → entry_with_number number value (entry_fields_in before) ≡ entry_fields_in (before ++ field_with number (Varint value) ∷ [])
entry_number before number value =
    let field : FieldText = field_with number (Varint value) in
    λ i. record {
      name = text_stays 1 before field refl i;
      is_directory = number_takes 2 number value before i;
      attributes = text_stays 4 before field refl i;
      chunks = seen_other before field (no_text 3 field refl) (no_text 4 field refl) i;
    }

pub entry_text : (before : List FieldText) (number : ℕ) (text : List ℕ) → entry_with_text number text (entry_fields_in before) ≡ entry_fields_in (before ++ field_with number (Bytes text) ∷ [])
entry_text before number text =
    let field : FieldText = field_with number (Bytes text) in
    λ i. record {
      name = text_takes 1 number text before i;
      is_directory = number_stays 2 before field refl i;
      attributes = text_takes 4 number text before i;
      chunks = seen_text before number text i;
    }

pub entry_stays : (before : List FieldText) (field : FieldText) → varint_of field.value ≡ None → bytes_of field.value ≡ None → entry_fields_in before ≡ entry_fields_in (before ++ field ∷ [])
entry_stays before field no_number none = λ i. record {
  name = text_stays 1 before field none i;
  is_directory = number_stays 2 before field no_number i;
  attributes = text_stays 4 before field none i;
  chunks = seen_other before field (no_text 3 field none) (no_text 4 field none) i;
}

-- ---- The first fault of the messages that are taken

-- The fault of the last attributes
abbrev pub last_attributes_fault : List FieldText → Option WireFault
last_attributes_fault fields = option_and_then (λ text. result_err (fields_of text)) (last_message 4 fields)

kept : {X : Type 0} (a : Option X) (x : X) (o : Option X) → option_or a (Some x) ≡ option_or (option_or a (Some x)) o
kept None x o = refl
kept (Some y) x o = refl

last_start : {X : Type 0} (xs : List X) (o : Option X) → last_or o xs ≡ option_or (last_or None xs) o
last_start [] o = refl
last_start (x ∷ xs) o = last_start xs (Some x) ∙ kept (last_or None xs) x o ∙ ap (λ p. option_or p o) (sym (last_start xs (Some x)))

last_front : {X : Type 0} (o : Option X) (xs : List X) → last_or None (cons_option o xs) ≡ option_or (last_or None xs) o
last_front None xs = or_none (last_or None xs)
last_front (Some x) xs = last_start xs (Some x)

last_attributes : (field : FieldText) (behind : List FieldText) → last_message 4 (field ∷ behind) ≡ option_or (last_message 4 behind) (text_in 4 field)
last_attributes field behind = last_front (text_in 4 field) (filter_map (text_in 4) behind)

or_is_none : {X : Type 0} (a b : Option X) → option_or a b ≡ None → a ≡ None
or_is_none None b is = refl
or_is_none (Some x) b is = is

early_needs_last : (fields : List FieldText) → last_message 4 fields ≡ None → early_fault fields ≡ None
early_needs_last [] none = refl
early_needs_last (field ∷ behind) none =
    ap (λ o. cond (is_none o) None (option_or (chunk_fault field) (early_fault behind)))
    (or_is_none (last_message 4 behind) (text_in 4 field) (sym (last_attributes field behind) ∙ none))

not_both : (field : FieldText) → (chunk_fault field ≡ None) ⊎ (text_in 4 field ≡ None)
not_both field =
    elim (eqb_tells field.number 3) [
      | inl third ↦ inr (ap (λ n. cond (eqb n 4) (bytes_of field.value) None) third.1)
      | inr other ↦ inl (ap (λ b. option_and_then (λ text. result_err (chunk_at text)) (cond b (bytes_of field.value) None)) other.0)
    ]

first_of : {T E : Type 0} (fault : T → Option E) (chunk early chunks : Option E) (last here : Option T) → (last ≡ None → early ≡ None) → ((chunk ≡ None) ⊎ (here ≡ None))
    → option_or chunk (option_or (cond (is_none last) (option_and_then fault here) None) (option_or early (option_or (option_and_then fault last) chunks)))
    ≡ option_or (cond (is_none last) None (option_or chunk early)) (option_or (option_and_then fault (option_or last here)) (option_or chunk chunks))
first_of fault chunk early chunks None here none (inl is) =
    ap (λ e. option_or chunk (option_or (option_and_then fault here) (option_or e chunks))) (none refl)
    ∙ ap (λ c. option_or c (option_or (option_and_then fault here) chunks)) is
    ∙ ap (λ c. option_or (option_and_then fault here) (option_or c chunks)) (sym is)
first_of fault chunk early chunks None here none (inr is) =
    ap (λ e. option_or chunk (option_or (option_and_then fault here) (option_or e chunks))) (none refl)
    ∙ ap (λ h. option_or chunk (option_or (option_and_then fault h) chunks)) is
    ∙ ap (λ h. option_or (option_and_then fault h) (option_or chunk chunks)) (sym is)
first_of fault None early chunks (Some last) here none either = refl
first_of fault (Some x) early chunks (Some last) here none either = refl

-- The first fault is one of a chunk before the last attributes, else one of these, else one of a chunk.
pub fault_is : (fields : List FieldText) → taken_fault fields ≡ option_or (early_fault fields) (option_or (last_attributes_fault fields) (chunks_fault fields))
fault_is [] = refl
fault_is (field ∷ behind) =
    ap (λ o. option_or (chunk_fault field) (option_or (cond (is_none (last_message 4 behind)) (attributes_fault field) None) o)) (fault_is behind)
    ∙ first_of (λ text. result_err (fields_of text)) (chunk_fault field) (early_fault behind) (chunks_fault behind) (last_message 4 behind) (text_in 4 field) (early_needs_last behind) (not_both field)
    ∙ ap (λ o. option_or (early_fault (field ∷ behind)) (option_or (option_and_then (λ text. result_err (fields_of text)) o) (chunks_fault (field ∷ behind)))) (sym (last_attributes field behind))

-- Missing attributes have no fault, as empty ones.
fault_or_none : (o : Option (List ℕ)) → option_and_then (λ text. result_err (fields_of text)) o ≡ result_err (fields_of (unwrap_or o []))
fault_or_none None = ap result_err (sym fields_of-nil)
fault_or_none (Some text) = refl

in_turn : (early chunks : Option WireFault) (read : Result (List FieldText) WireFault) (fields : EntryFieldsText) (text : List ℕ)
    → behind_fault (option_or early (option_or (result_err read) chunks)) (Ok (entry_parts text fields (attributes_in (or_no_fields read))))
    ≡ (behind_fault early (read >>= λ inner. behind_fault chunks (Ok (attributes_in inner))) >>= λ a. Ok (entry_parts text fields a))
in_turn None None (Ok inner) fields text = refl
in_turn None (Some fault) (Ok inner) fields text = refl
in_turn None chunks (Err fault) fields text = refl
in_turn (Some fault) chunks read fields text = refl

turn_from : (text : List ℕ) (outer : List FieldText) → entry_with text outer ≡ (attributes_at (entry_fields_in outer) >>= λ a. Ok (entry_parts text (entry_fields_in outer) a))
turn_from text outer =
    ap (λ o. behind_fault o (Ok (entry_parts text (entry_fields_in outer) (attributes_in (or_no_fields (fields_of (last_text 4 outer)))))))
    (fault_is outer ∙ ap (λ o. option_or (early_fault outer) (option_or o (chunks_fault outer))) (fault_or_none (last_message 4 outer)))
    ∙ in_turn (early_fault outer) (chunks_fault outer) (fields_of (last_text 4 outer)) (entry_fields_in outer) text

turn_after : (text : List ℕ) (read : Result (List FieldText) WireFault) → (read >>= λ outer. entry_with text outer) ≡ (read >>= λ outer. attributes_at (entry_fields_in outer) >>= λ a. Ok (entry_parts text (entry_fields_in outer) a))
turn_after text (Ok outer) = turn_from text outer
turn_after text (Err fault) = refl

-- What is read in turn is the entry, or its first fault.
pub turn_is : (text : List ℕ) → entry_in_turn text ≡ entry_at text
turn_is text = sym (turn_after text (fields_of text))
