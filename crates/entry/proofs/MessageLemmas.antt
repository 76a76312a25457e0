-- What one field more makes of a message.
use Rattle.std.proofs.Common.{◌≡◌, ℕ, List, [], ◌∷◌, ◌++◌, None, ◌⊎◌, inl, inr, Bor, refl, sym, ap, ◌∙◌}
use Rattle.proto_wire.specs.declared.field.Value.{Value}
use Rattle.proto_wire.specs.declared.field.Value.TheVariants as values
use Rattle.proto_wire.specs.Field.{ValueText, Varint, Bytes, FieldText, value_text}
use Rattle.proto_wire.specs.Taken.{varint_of, bytes_of}
use Rattle.proto_wire.proofs.Seen.{number_takes, text_takes, number_stays, text_stays}
use Rattle.entry.specs.AttributesText.{attributes_in}
use Rattle.entry.specs.Steps.{attributes_with_number, attributes_with_text}

-- A field of a number and a value
abbrev pub field_with : ℕ → ValueText → FieldText
field_with number value = record { number = number; value = value }

-- A field more, by what it does to the message
pub takes : {S : Type 0} (made_of : List FieldText → S) (step : S → S) (before : List FieldText) (old new : S) (field taken : FieldText) → new ≡ step old → (step (made_of before) ≡ made_of (before ++ taken ∷ [])) → field ≡ taken → old ≡ made_of before → new ≡ made_of (before ++ field ∷ [])
takes made_of step before old new field taken stepped more same is = stepped ∙ ap step is ∙ more ∙ ap (λ f. made_of (before ++ f ∷ [])) (sym same)

-- A value that is no number and no text
pub is_fixed : (v : Value) → ((x : ℕ) × (v ≡ values.Fixed64 x)) ⊎ ((x : ℕ) × (v ≡ values.Fixed32 x)) → (varint_of (value_text v) ≡ None) × (bytes_of (value_text v) ≡ None)
is_fixed v (inl fixed) = (ap (λ w. varint_of (value_text w)) fixed.1, ap (λ w. bytes_of (value_text w)) fixed.1)
is_fixed v (inr fixed) = (ap (λ w. varint_of (value_text w)) fixed.1, ap (λ w. bytes_of (value_text w)) fixed.1)

-- A value that is no text
pub is_no_text : (v : Value) → ((x : ℕ) × (v ≡ values.Varint x)) ⊎ (((x : ℕ) × (v ≡ values.Fixed64 x)) ⊎ ((x : ℕ) × (v ≡ values.Fixed32 x))) → bytes_of (value_text v) ≡ None
is_no_text v (inl number) = ap (λ w. bytes_of (value_text w)) number.1
is_no_text v (inr fixed) = (is_fixed v fixed).1

-- A value that is no number
pub is_no_number : (v : Value) → ((x : Bor (List ℕ)) × (v ≡ values.Bytes x)) ⊎ (((x : ℕ) × (v ≡ values.Fixed64 x)) ⊎ ((x : ℕ) × (v ≡ values.Fixed32 x))) → varint_of (value_text v) ≡ None
is_no_number v (inl text) = ap (λ w. varint_of (value_text w)) text.1
is_no_number v (inr fixed) = (is_fixed v fixed).0

-- FuseAttributes
pub attributes_number : (before : List FieldText) (number value : ℕ) → attributes_with_number number value (attributes_in before) ≡ attributes_in (before ++ field_with number (Varint value) ∷ [])
attributes_number before number value =
    let field : FieldText = field_with number (Varint value) in
    λ i. record {
      file_size = number_takes 1 number value before i;
      mtime = number_takes 2 number value before i;
      mode = number_takes 3 number value before i;
      uid = number_takes 4 number value before i;
      gid = number_takes 5 number value before i;
      crtime = number_takes 6 number value before i;
      mime = text_stays 7 before field refl i;
      ttl_sec = number_takes 10 number value before i;
      md5 = text_stays 14 before field refl i;
    }

pub attributes_text : (before : List FieldText) (number : ℕ) (text : List ℕ) → attributes_with_text number text (attributes_in before) ≡ attributes_in (before ++ field_with number (Bytes text) ∷ [])
attributes_text before number text =
    let field : FieldText = field_with number (Bytes text) in
    λ i. record {
      file_size = number_stays 1 before field refl i;
      mtime = number_stays 2 before field refl i;
      mode = number_stays 3 before field refl i;
      uid = number_stays 4 before field refl i;
      gid = number_stays 5 before field refl i;
      crtime = number_stays 6 before field refl i;
      mime = text_takes 7 number text before i;
      ttl_sec = number_stays 10 before field refl i;
      md5 = text_takes 14 number text before i;
    }

pub attributes_stays : (before : List FieldText) (field : FieldText) → varint_of field.value ≡ None → bytes_of field.value ≡ None → attributes_in before ≡ attributes_in (before ++ field ∷ [])
attributes_stays before field no_number no_text = λ i. record {
  file_size = number_stays 1 before field no_number i;
  mtime = number_stays 2 before field no_number i;
  mode = number_stays 3 before field no_number i;
  uid = number_stays 4 before field no_number i;
  gid = number_stays 5 before field no_number i;
  crtime = number_stays 6 before field no_number i;
  mime = text_stays 7 before field no_text i;
  ttl_sec = number_stays 10 before field no_number i;
  md5 = text_stays 14 before field no_text i;
}
