-- The words that a writer adds are fields of the grammar.
use Rattle.std.proofs.Common.{◌≡◌, ℕ, zero, suc, ◌+◌, ◌*◌, ◌/◌, ◌%◌, ◌^◌, ◌<◌, List, ◌++◌, length, refl, sym, subst, append_assoc, arith, inl, inr}
use Rattle.std.specs.Int.{w32, to_le_bytes}
use Rattle.std.proofs.lemmas.Bool.{lt-ltb, le-ltb, ne_eqb, cases_lt, cond-true, cond-false}
use Rattle.proto_wire.specs.Text.{IsFieldNumber, groups, varint_text, tag_text, varint_field, fixed32_field, message_field, bytes_field}
use Rattle.proto_wire.specs.Field.{ValueText, Varint, Bytes, Fixed32, StandsFor, IsVarint, kind_of, IsField}
use Rattle.proto_wire.proofs.Varint.{length-varint_text}
use Rattle.proto_wire.proofs.Grammar.{StandsFor-more}

StandsFor-groups : (most n : ℕ) → n < 128 ^ suc most → StandsFor (groups (suc most) n) n
StandsFor-groups zero n below =
    let small : n < 128 = omega arith in
    subst (λ (t : List ℕ). StandsFor t n) (sym (cond-true _ _ _ (lt-ltb n 128 small))) (small, refl)
StandsFor-groups (suc most) n below =
    elim (cases_lt n 128) [
      | inl small ↦ subst (λ (t : List ℕ). StandsFor t n) (sym (cond-true _ _ _ (lt-ltb n 128 small))) (small, refl)
      | inr large ↦
          let rest = StandsFor-groups most (n / 128) (grind arith) in
          subst (λ (t : List ℕ). StandsFor t n) (sym (cond-false _ _ _ (le-ltb n 128 large)))
          (StandsFor-more (n % 128 + 128) (groups (suc most) (n / 128)) n (n / 128) (omega arith) (omega arith) (omega arith) rest)
    ]

pub IsVarint-text : (n : ℕ) → n < 2 ^ 64 → IsVarint (varint_text n) n
unfolding varint_text
IsVarint-text n fits = record { spelled = StandsFor-groups 9 n (omega arith); short = length-varint_text n; fits = fits }

IsVarint-tag : (number : ℕ) (value : ValueText) → IsFieldNumber number → kind_of value < 8 → IsVarint (tag_text number (kind_of value)) (number * 8 + kind_of value)
IsVarint-tag number value numbered small = IsVarint-text (number * 8 + kind_of value) (omega (arith, numbered.high))

not_zero : (n : ℕ) → 0 < n → n ≡ 0 → ⊥
not_zero n positive is = omega arith

pub IsField-varint : (number value : ℕ) → IsFieldNumber number → 0 < value → value < 2 ^ 64 → IsField (varint_field number value) number (Varint value)
IsField-varint number value numbered positive fits =
    subst (λ (t : List ℕ). IsField t number (Varint value)) (sym (cond-false _ _ _ (ne_eqb value 0 (not_zero value positive))))
    (record { tag = tag_text number 0; payload = varint_text value; parts = refl; numbered = numbered; tagged = IsVarint-tag number (Varint value) numbered (omega arith); valued = IsVarint-text value fits })

pub IsField-fixed32 : (number value : ℕ) → IsFieldNumber number → 0 < value → value < 2 ^ 32 → IsField (fixed32_field number value) number (Fixed32 value)
IsField-fixed32 number value numbered positive fits =
    subst (λ (t : List ℕ). IsField t number (Fixed32 value)) (sym (cond-false _ _ _ (ne_eqb value 0 (not_zero value positive))))
    (record { tag = tag_text number 5; payload = to_le_bytes w32 value; parts = refl; numbered = numbered; tagged = IsVarint-tag number (Fixed32 value) numbered (omega arith); valued = (fits, refl) })

pub IsField-message : (number : ℕ) (bytes : List ℕ) → IsFieldNumber number → length bytes < 2 ^ 64 → IsField (message_field number bytes) number (Bytes bytes)
IsField-message number bytes numbered fits =
    record {
      tag = tag_text number 2;
      payload = varint_text (length bytes) ++ bytes;
      parts = append_assoc (tag_text number 2) (varint_text (length bytes)) bytes;
      numbered = numbered;
      tagged = IsVarint-tag number (Bytes bytes) numbered (omega arith);
      valued = record { front = varint_text (length bytes); counts = IsVarint-text (length bytes) fits; parts = refl };
    }

pub IsField-bytes : (number : ℕ) (bytes : List ℕ) → IsFieldNumber number → 0 < length bytes → length bytes < 2 ^ 64 → IsField (bytes_field number bytes) number (Bytes bytes)
IsField-bytes number bytes numbered some fits =
    subst (λ (t : List ℕ). IsField t number (Bytes bytes)) (sym (cond-false _ _ _ (ne_eqb (length bytes) 0 (not_zero (length bytes) some))))
    (IsField-message number bytes numbered fits)
