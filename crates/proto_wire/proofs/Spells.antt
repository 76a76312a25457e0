-- Texts that were written, as the fields that are read of them.
use Rattle.std.proofs.Common.{◌≡◌, ℕ, ◌<◌, ◌^◌, cond, eqb, List, [], ◌∷◌, ◌++◌, length, Result, Ok, Err, refl, sym, ap, ◌∙◌, subst, inl, inr, arith, append_assoc, append-nil}
use Rattle.std.proofs.lemmas.Bool.Decides.{eqb_tells}
use Rattle.proto_wire.specs.declared.fault.WireFault.{WireFault}
use Rattle.proto_wire.specs.Text.{IsFieldNumber, tag_text, varint_text, varint_field, bytes_field, message_field}
use Rattle.proto_wire.specs.Field.{ValueText, Varint, Bytes, FieldText, IsField, fields_of}
use Rattle.proto_wire.proofs.Words.{IsField-varint, IsField-message}
use Rattle.proto_wire.proofs.Fields.{fields_of-nil, fields_of-field}
use Rattle.proto_wire.proofs.Seen.{with_seen, with_seen-none}

-- The text is read as these fields, whatever stands behind it.
pub record Spells (text : List ℕ) (fields : List FieldText) : Type 0 where
  pub reads : (rest : List ℕ) → fields_of (text ++ rest) ≡ with_seen fields (fields_of rest)

with_seen-append : (xs ys : List FieldText) (left : Result (List FieldText) WireFault) → with_seen xs (with_seen ys left) ≡ with_seen (xs ++ ys) left
with_seen-append xs ys (Ok fields) = ap Ok (sym (append_assoc xs ys fields))
with_seen-append xs ys (Err fault) = refl

pub Spells-nil : Spells [] []
Spells-nil = record { reads = λ rest. with_seen-none (fields_of rest) }

pub Spells-append : (a b : List ℕ) (xs ys : List FieldText) → Spells a xs → Spells b ys → Spells (a ++ b) (xs ++ ys)
Spells-append a b xs ys front back = record {
  reads = λ rest.
      ap fields_of (append_assoc a b rest) ∙ front.reads (b ++ rest) ∙ ap (with_seen xs) (back.reads rest) ∙ with_seen-append xs ys (fields_of rest);
}

Spells-field : (text : List ℕ) (number : ℕ) (value : ValueText) → IsField text number value → Spells text (record { number = number; value = value } ∷ [])
Spells-field text number value field = record { reads = λ rest. fields_of-field text rest number value field }

pub Spells-message : (number : ℕ) (bytes : List ℕ) → IsFieldNumber number → length bytes < 2 ^ 64 → Spells (message_field number bytes) (record { number = number; value = Bytes bytes } ∷ [])
Spells-message number bytes numbered fits = Spells-field _ number (Bytes bytes) (IsField-message number bytes numbered fits)

-- The field of a number, and of bytes, where they are written
abbrev pub number_fields : ℕ → ℕ → List FieldText
number_fields number value = cond (eqb value 0) [] (record { number = number; value = Varint value } ∷ [])

abbrev pub text_fields : ℕ → List ℕ → List FieldText
text_fields number bytes = cond (eqb (length bytes) 0) [] (record { number = number; value = Bytes bytes } ∷ [])

pub Spells-number : (number value : ℕ) → IsFieldNumber number → value < 2 ^ 64 → Spells (varint_field number value) (number_fields number value)
Spells-number number value numbered fits =
    elim (eqb_tells value 0) [
      | inl zero ↦ subst (λ b. Spells (cond b [] (tag_text number 0 ++ varint_text value)) (cond b [] (record { number = number; value = Varint value } ∷ []))) (sym zero.0) Spells-nil
      | inr some ↦
          subst (λ b. Spells (varint_field number value) (cond b [] (record { number = number; value = Varint value } ∷ []))) (sym some.0)
          (Spells-field (varint_field number value) number (Varint value) (IsField-varint number value numbered (omega (arith, some.1)) fits))
    ]

pub Spells-bytes : (number : ℕ) (bytes : List ℕ) → IsFieldNumber number → length bytes < 2 ^ 64 → Spells (bytes_field number bytes) (text_fields number bytes)
Spells-bytes number bytes numbered fits =
    elim (eqb_tells (length bytes) 0) [
      | inl zero ↦ subst (λ b. Spells (cond b [] (message_field number bytes)) (cond b [] (record { number = number; value = Bytes bytes } ∷ []))) (sym zero.0) Spells-nil
      | inr some ↦ subst (λ b. Spells (cond b [] (message_field number bytes)) (cond b [] (record { number = number; value = Bytes bytes } ∷ []))) (sym some.0) (Spells-message number bytes numbered fits)
    ]

pub Spells-whole : (text : List ℕ) (fields : List FieldText) → Spells text fields → fields_of text ≡ Ok fields
Spells-whole text fields spells =
    ap fields_of (sym (append-nil text)) ∙ spells.reads [] ∙ ap (with_seen fields) fields_of-nil ∙ ap Ok (append-nil fields)
