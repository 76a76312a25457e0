-- All fields of a text, one after another.
use Rattle.std.proofs.Common.{◌≡◌, ℕ, zero, suc, ◌+◌, ◌-◌, ◌*◌, ◌/◌, ◌%◌, ◌^◌, ◌<◌, ◌≤◌, cond, ltb, leb, eqb, ◌&&◌, List, [], ◌∷◌, ◌++◌, length, drop, take, Result, Ok, Err, refl, ap, subst, ◌∙◌, arith, inl, inr}
use Rattle.std.specs.Int.{Width, w32, w64, byte_len, from_le_bytes}
use Rattle.std.proofs.lemmas.List.{length-drop}
use Rattle.proto_wire.specs.declared.fault.WireFault.{WireFault}
use Rattle.proto_wire.specs.declared.fault.WireFault.TheVariants.{Truncated, BadVarint, BadTag}
use Rattle.proto_wire.specs.Field.{ValueText, Varint, Fixed64, Bytes, Fixed32, FieldText, IsField, ◌>>=◌, number_within, varint_at, fixed_at, bytes_at, value_at, field_at, with_first, fields_within, fields_of}
use Rattle.proto_wire.proofs.Grammar.{ok_is, bind_ok, guard_ok, holds_ok, chosen, field_again}

-- what is left is shorter
number_shortens : (most : ℕ) (bytes : List ℕ) (x : ℕ × List ℕ) → number_within most bytes ≡ Ok x → length x.1 < length bytes
number_shortens zero bytes x e = absurd cc
number_shortens (suc most) [] x e = absurd cc
number_shortens (suc most) (b ∷ bytes) x e =
    elim (chosen (ltb b 128) (Ok (b, bytes)) (number_within most bytes >>= λ high. Ok (b - 128 + 128 * high.0, high.1)) (Ok x) e) [
      | inl w ↦ let is = ap (λ (y : ℕ × List ℕ). length y.1) (ok_is (b, bytes) x w.1) in omega arith
      | inr w ↦
          let a = bind_ok (number_within most bytes) (λ high. Ok (b - 128 + 128 * high.0, high.1)) x w.1 in
          let rest = number_shortens most bytes a.0 a.1 in
          let is = ap (λ (y : ℕ × List ℕ). length y.1) (ok_is (b - 128 + 128 * a.0.0, a.0.1) x a.2) in
          omega arith
    ]

varint_shortens : (bytes : List ℕ) (x : ℕ × List ℕ) → varint_at bytes ≡ Ok x → length x.1 < length bytes
unfolding varint_at
varint_shortens bytes x e =
    let a = bind_ok (number_within 10 bytes) (λ n. cond (ltb n.0 (2 ^ 64)) (Ok n) (Err BadVarint)) x e in
    let g = holds_ok (ltb a.0.0 (2 ^ 64)) BadVarint (Ok a.0) x a.2 in
    let rest = number_shortens 10 bytes a.0 a.1 in
    subst (λ (y : ℕ × List ℕ). length y.1 < length bytes) (ok_is a.0 x g.1) rest

fixed_shortens : (w : Width) (bytes : List ℕ) (x : ℕ × List ℕ) → fixed_at w bytes ≡ Ok x → length x.1 ≤ length bytes
unfolding fixed_at
fixed_shortens w bytes x e =
    let g = guard_ok (ltb (length bytes) (byte_len w)) Truncated (from_le_bytes w (take (byte_len w) bytes), drop (byte_len w) bytes) x e in
    subst (λ (y : ℕ × List ℕ). length y.1 ≤ length bytes) g.1 (omega (arith, length-drop (byte_len w) bytes))

bytes_shorten : (bytes : List ℕ) (x : List ℕ × List ℕ) → bytes_at bytes ≡ Ok x → length x.1 ≤ length bytes
unfolding bytes_at
bytes_shorten bytes x e =
    let a = bind_ok (varint_at bytes) (λ n. cond (ltb (length n.1) n.0) (Err Truncated) (Ok (take n.0 n.1, drop n.0 n.1))) x e in
    let g = guard_ok (ltb (length a.0.1) a.0.0) Truncated (take a.0.0 a.0.1, drop a.0.0 a.0.1) x a.2 in
    let rest = varint_shortens bytes a.0 a.1 in
    subst (λ (y : List ℕ × List ℕ). length y.1 ≤ length bytes) g.1 (omega (arith, length-drop a.0.0 a.0.1))

value_shortens : (kind : ℕ) (bytes : List ℕ) (x : ValueText × List ℕ) → value_at kind bytes ≡ Ok x → length x.1 ≤ length bytes
unfolding value_at
value_shortens kind bytes x e =
    let P : ValueText × List ℕ → Type 0 = λ y. length y.1 ≤ length bytes in
    elim (chosen (eqb kind 0) _ _ _ e) [
      | inl w ↦
          let a = bind_ok (varint_at bytes) (λ n. Ok (Varint n.0, n.1)) x w.1 in
          let rest = varint_shortens bytes a.0 a.1 in
          subst P (ok_is (Varint a.0.0, a.0.1) x a.2) (omega arith)
      | inr v ↦ elim (chosen (eqb kind 1) _ _ _ v.1) [
        | inl w ↦
            let a = bind_ok (fixed_at w64 bytes) (λ n. Ok (Fixed64 n.0, n.1)) x w.1 in
            subst P (ok_is (Fixed64 a.0.0, a.0.1) x a.2) (fixed_shortens w64 bytes a.0 a.1)
        | inr u ↦ elim (chosen (eqb kind 2) _ _ _ u.1) [
          | inl w ↦
              let a = bind_ok (bytes_at bytes) (λ b. Ok (Bytes b.0, b.1)) x w.1 in
              subst P (ok_is (Bytes a.0.0, a.0.1) x a.2) (bytes_shorten bytes a.0 a.1)
          | inr s ↦ elim (chosen (eqb kind 5) _ _ _ s.1) [
            | inl w ↦
                let a = bind_ok (fixed_at w32 bytes) (λ n. Ok (Fixed32 n.0, n.1)) x w.1 in
                subst P (ok_is (Fixed32 a.0.0, a.0.1) x a.2) (fixed_shortens w32 bytes a.0 a.1)
            | inr w ↦ absurd (let bad = w.1 in cc)
          ]
        ]
      ]
    ]

pub field_shortens : (bytes : List ℕ) (x : FieldText × List ℕ) → field_at bytes ≡ Ok x → length x.1 < length bytes
unfolding field_at
field_shortens bytes x e =
    let a = bind_ok (varint_at bytes) (λ tag. cond (ltb 0 (tag.0 / 8) && leb (tag.0 / 8) 536870911) (value_at (tag.0 % 8) tag.1 >>= λ value. Ok (record { number = tag.0 / 8; value = value.0 }, value.1)) (Err BadTag)) x e in
    let g = holds_ok (ltb 0 (a.0.0 / 8) && leb (a.0.0 / 8) 536870911) BadTag (value_at (a.0.0 % 8) a.0.1 >>= λ value. Ok (record { number = a.0.0 / 8; value = value.0 }, value.1)) x a.2 in
    let b = bind_ok (value_at (a.0.0 % 8) a.0.1) (λ value. Ok (record { number = a.0.0 / 8; value = value.0 }, value.1)) x g.1 in
    let made : FieldText × List ℕ = (record { number = a.0.0 / 8; value = b.0.0 }, b.0.1) in
    let front = varint_shortens bytes a.0 a.1 in
    let rest = value_shortens (a.0.0 % 8) a.0.1 b.0 b.1 in
    subst (λ (y : FieldText × List ℕ). length y.1 < length bytes) (ok_is made x b.2) (omega arith)

same_after : {A B : Type 0} (read : Result A WireFault) (f g : A → Result B WireFault) → ((x : A) → read ≡ Ok x → f x ≡ g x) → (read >>= f) ≡ (read >>= g)
same_after (Ok x) f g same = same x refl
same_after (Err fault) f g same = refl

-- any bound from the length on gives the same
enough : (most more : ℕ) (bytes : List ℕ) → length bytes ≤ most → length bytes ≤ more → fields_within most bytes ≡ fields_within more bytes
enough zero zero bytes low high = refl
enough zero (suc more) [] low high = refl
enough zero (suc more) (b ∷ bytes) low high = absurd (omega arith)
enough (suc most) zero [] low high = refl
enough (suc most) zero (b ∷ bytes) low high = absurd (omega arith)
enough (suc most) (suc more) [] low high = refl
enough (suc most) (suc more) (b ∷ bytes) low high =
    same_after (field_at (b ∷ bytes)) (λ first. with_first first.0 (fields_within most first.1)) (λ first. with_first first.0 (fields_within more first.1))
    (λ x e. let shorter = field_shortens (b ∷ bytes) x e in ap (with_first x.0) (enough most more x.1 (omega arith) (omega arith)))

pub fields_of-nil : fields_of [] ≡ Ok []
unfolding fields_of
fields_of-nil = refl

fields_of-more : (bytes : List ℕ) → 0 < length bytes → fields_of bytes ≡ (field_at bytes >>= λ first. with_first first.0 (fields_of first.1))
unfolding fields_of
fields_of-more [] some = absurd (omega arith)
fields_of-more (b ∷ bytes) some =
    same_after (field_at (b ∷ bytes)) (λ first. with_first first.0 (fields_within (length bytes) first.1)) (λ first. with_first first.0 (fields_within (length first.1) first.1))
    (λ x e. let shorter = field_shortens (b ∷ bytes) x e in ap (with_first x.0) (enough (length bytes) (length x.1) x.1 (omega arith) (omega arith)))

abbrev from_first : Result (FieldText × List ℕ) WireFault → Result (List FieldText) WireFault
from_first read = read >>= λ first. with_first first.0 (fields_of first.1)

-- The first field, and all those behind it.
pub fields_of-first : (bytes rest : List ℕ) (field : FieldText) → field_at bytes ≡ Ok (field, rest) → fields_of bytes ≡ with_first field (fields_of rest)
fields_of-first bytes rest field read =
    let shorter = field_shortens bytes (field, rest) read in
    fields_of-more bytes (omega arith) ∙ ap from_first read

pub fields_of-fault : (bytes : List ℕ) (fault : WireFault) → 0 < length bytes → field_at bytes ≡ Err fault → fields_of bytes ≡ Err fault
fields_of-fault bytes fault some read = fields_of-more bytes some ∙ ap from_first read

pub fields_of-field : (text rest : List ℕ) (number : ℕ) (value : ValueText) → IsField text number value
    → fields_of (text ++ rest) ≡ with_first (record { number = number; value = value }) (fields_of rest)
fields_of-field text rest number value field = fields_of-first (text ++ rest) rest (record { number = number; value = value }) (field_again text number value rest field)
