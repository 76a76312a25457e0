-- What one field more makes of a chunk's messages.
use Rattle.std.proofs.Common.{◌≡◌, ℕ, Bool, true, false, cond, eqb, List, [], ◌∷◌, ◌++◌, Option, None, Some, ◌⊎◌, inl, inr, Bor, refl, sym, ap, ◌∙◌}
use Rattle.std.specs.Prelude.{unwrap_or}
use Rattle.std.specs.Option.{option_or}
use Rattle.proto_wire.specs.declared.field.Value.{Value}
use Rattle.proto_wire.specs.declared.field.Value.TheVariants as values
use Rattle.proto_wire.specs.Field.{Varint, Bytes, Fixed32, FieldText, value_text}
use Rattle.proto_wire.specs.Taken.{varint_of, bytes_of}
use Rattle.proto_wire.proofs.Seen.{last-more, number_takes, text_takes, message_takes, number_stays, text_stays, message_stays}
use Rattle.entry.specs.ChunkText.{fixed_of, fixed_in, last_fixed, fid_in, chunk_in}
use Rattle.entry.specs.ChunkSteps.{fid_with_number, fid_with_fixed, chunk_with_number, chunk_with_text}
use Rattle.entry.proofs.MessageLemmas.{field_with}

unwrap-or : {Y : Type 0} (o before : Option Y) (d : Y) → unwrap_or (option_or o before) d ≡ unwrap_or o (unwrap_or before d)
unwrap-or None before d = refl
unwrap-or (Some y) before d = refl

last_fixed-more : (number : ℕ) (fields : List FieldText) (field : FieldText) → last_fixed number (fields ++ field ∷ []) ≡ unwrap_or (fixed_in number field) (last_fixed number fields)
last_fixed-more number fields field = ap (λ o. unwrap_or o 0) (last-more (fixed_in number) fields field) ∙ unwrap-or (fixed_in number field) _ 0

choose_some : {Y : Type 0} (b : Bool) (y d : Y) → cond b y d ≡ unwrap_or (cond b (Some y) None) d
choose_some true y d = refl
choose_some false y d = refl

choose_none : {Y : Type 0} (b : Bool) (o : Option Y) (d : Y) → o ≡ None → d ≡ unwrap_or (cond b o None) d
choose_none true o d none = ap (λ p. unwrap_or p d) (sym none)
choose_none false o d none = refl

fixed_takes : (k number value : ℕ) (before : List FieldText) → cond (eqb number k) value (last_fixed k before) ≡ last_fixed k (before ++ field_with number (Fixed32 value) ∷ [])
fixed_takes k number value before = choose_some (eqb number k) value _ ∙ sym (last_fixed-more k before (field_with number (Fixed32 value)))

fixed_stays : (k : ℕ) (before : List FieldText) (field : FieldText) → fixed_of field.value ≡ None → last_fixed k before ≡ last_fixed k (before ++ field ∷ [])
fixed_stays k before field none = choose_none (eqb field.number k) (fixed_of field.value) _ none ∙ sym (last_fixed-more k before field)

-- A value that is neither a number nor four bytes
pub is_other : (v : Value) → ((x : Bor (List ℕ)) × (v ≡ values.Bytes x)) ⊎ ((x : ℕ) × (v ≡ values.Fixed64 x)) → (varint_of (value_text v) ≡ None) × (fixed_of (value_text v) ≡ None)
is_other v (inl text) = (ap (λ w. varint_of (value_text w)) text.1, ap (λ w. fixed_of (value_text w)) text.1)
is_other v (inr fixed) = (ap (λ w. varint_of (value_text w)) fixed.1, ap (λ w. fixed_of (value_text w)) fixed.1)

-- FileId
pub fid_number : (before : List FieldText) (number value : ℕ) → fid_with_number number value (fid_in before) ≡ fid_in (before ++ field_with number (Varint value) ∷ [])
fid_number before number value =
    let field : FieldText = field_with number (Varint value) in
    λ i. record {
      volume = number_takes 1 number value before i;
      key = number_takes 2 number value before i;
      cookie = fixed_stays 3 before field refl i;
    }

pub fid_fixed : (before : List FieldText) (number value : ℕ) → fid_with_fixed number value (fid_in before) ≡ fid_in (before ++ field_with number (Fixed32 value) ∷ [])
fid_fixed before number value =
    let field : FieldText = field_with number (Fixed32 value) in
    λ i. record {
      volume = number_stays 1 before field refl i;
      key = number_stays 2 before field refl i;
      cookie = fixed_takes 3 number value before i;
    }

pub fid_stays : (before : List FieldText) (field : FieldText) → varint_of field.value ≡ None → fixed_of field.value ≡ None → fid_in before ≡ fid_in (before ++ field ∷ [])
fid_stays before field no_number no_fixed = λ i. record {
  volume = number_stays 1 before field no_number i;
  key = number_stays 2 before field no_number i;
  cookie = fixed_stays 3 before field no_fixed i;
}

-- FileChunk
pub chunk_number : (before : List FieldText) (number value : ℕ) → chunk_with_number number value (chunk_in before) ≡ chunk_in (before ++ field_with number (Varint value) ∷ [])
chunk_number before number value =
    let field : FieldText = field_with number (Varint value) in
    λ i. record {
      offset = number_takes 2 number value before i;
      size = number_takes 3 number value before i;
      modified = number_takes 4 number value before i;
      fid = message_stays 7 before field refl i;
      cipher_key = text_stays 9 before field refl i;
      is_compressed = number_takes 10 number value before i;
      is_manifest = number_takes 11 number value before i;
    }

pub chunk_text : (before : List FieldText) (number : ℕ) (text : List ℕ) → chunk_with_text number text (chunk_in before) ≡ chunk_in (before ++ field_with number (Bytes text) ∷ [])
chunk_text before number text =
    let field : FieldText = field_with number (Bytes text) in
    λ i. record {
      offset = number_stays 2 before field refl i;
      size = number_stays 3 before field refl i;
      modified = number_stays 4 before field refl i;
      fid = message_takes 7 number text before i;
      cipher_key = text_takes 9 number text before i;
      is_compressed = number_stays 10 before field refl i;
      is_manifest = number_stays 11 before field refl i;
    }

pub chunk_stays : (before : List FieldText) (field : FieldText) → varint_of field.value ≡ None → bytes_of field.value ≡ None → chunk_in before ≡ chunk_in (before ++ field ∷ [])
chunk_stays before field no_number no_text = λ i. record {
  offset = number_stays 2 before field no_number i;
  size = number_stays 3 before field no_number i;
  modified = number_stays 4 before field no_number i;
  fid = message_stays 7 before field no_text i;
  cipher_key = text_stays 9 before field no_text i;
  is_compressed = number_stays 10 before field no_number i;
  is_manifest = number_stays 11 before field no_number i;
}
