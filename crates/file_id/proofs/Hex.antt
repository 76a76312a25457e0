-- The number that the hexadecimal digits of bytes write.
use Rattle.std.proofs.Common.{◌≡◌, ℕ, zero, suc, ◌+◌, ◌*◌, ◌/◌, ◌%◌, ◌^◌, ◌<◌, ◌≤◌, List, [], ◌∷◌, length, drop, refl, sym, ap, ◌∙◌, arith, Bool, true, false, ◌&&◌, nat_eq, cond, slice_index, inl, inr, w32, w64}
use Rattle.std.specs.Char.{digit_value}
use Rattle.std.specs.Int.{to_be_bytes, from_be_bytes}
use Rattle.std.specs.Int.Digits.{number_from_digits, number_from_digits_after, AllBelowBase}
use Rattle.std.specs.List.{prefix_len}
use Rattle.std.specs.Str.Parse.{AllDigits, digits_value, digits_value_after}
use Rattle.std.proofs.lemmas.Bool.{and_parts, cases_lt, eqb-true, false≢true}
use Rattle.std.proofs.lemmas.Bool.Decides.{eqb_tells}
use Rattle.std.proofs.lemmas.List.{length-drop}
use Rattle.std.proofs.lemmas.Nat.{from_be_bytes-to_be_bytes_8, from_be_bytes-to_be_bytes_4}
use Rattle.hex.specs.Hex.{encode_lower, encode_with, lower_digits}
use Rattle.file_id.specs.FileId.{significant}

abbrev reads_back : ℕ → Bool
reads_back d = nat_eq (digit_value (slice_index lower_digits d)) d

abbrev all_read_back : ℕ → Bool
all_read_back zero = true
all_read_back (suc n) = reads_back n && all_read_back n

all_read_back-at : (n d : ℕ) → all_read_back n ≡ true → d < n → reads_back d ≡ true
all_read_back-at zero d h lt = absurd (omega arith)
all_read_back-at (suc n) d h lt =
    let parts = and_parts (reads_back n) (all_read_back n) h in
    elim (cases_lt d n) [
      | inl below ↦ all_read_back-at n d parts.1 below
      | inr top ↦ let e : d ≡ n = omega arith in rw e parts.0
    ]

-- Each of the sixteen digits writes its place.
digit-place : (d : ℕ) → d < 16 → digit_value (slice_index lower_digits d) ≡ d
digit-place d lt = eqb-true _ _ (all_read_back-at 16 d refl lt)

-- Two digits a byte write the number that the bytes write.
value-encode : (n : ℕ) (bytes : List ℕ) → AllBelowBase 256 bytes
    → digits_value_after 16 n (encode_lower bytes) ≡ number_from_digits_after 256 n bytes
unfolding encode_with
value-encode n [] all = refl
value-encode n (b ∷ bytes) all =
    let fits : b < 256 = all.0 in
    let high : digit_value (slice_index lower_digits (b / 16)) ≡ b / 16 = digit-place (b / 16) (omega arith) in
    let low : digit_value (slice_index lower_digits (b % 16)) ≡ b % 16 = digit-place (b % 16) (omega arith) in
    let both : (n * 16 + digit_value (slice_index lower_digits (b / 16))) * 16 + digit_value (slice_index lower_digits (b % 16)) ≡ n * 256 + b = omega arith in
    ap (λ m. digits_value_after 16 m (encode_lower bytes)) both ∙ value-encode (n * 256 + b) bytes all.1

pub AllDigits-encode : (bytes : List ℕ) → AllBelowBase 256 bytes → AllDigits 16 (encode_lower bytes)
unfolding encode_with
AllDigits-encode [] all = tt
AllDigits-encode (b ∷ bytes) all =
    let fits : b < 256 = all.0 in
    let high : digit_value (slice_index lower_digits (b / 16)) ≡ b / 16 = digit-place (b / 16) (omega arith) in
    let low : digit_value (slice_index lower_digits (b % 16)) ≡ b % 16 = digit-place (b % 16) (omega arith) in
    (omega arith, (omega arith, AllDigits-encode bytes all.1))

skipped : (b : Bool) (k n : ℕ) → b ≡ true → suc k ≤ cond b (1 + n) 0 → k ≤ n
skipped true k n e h = omega arith
skipped false k n e h = absurd (false≢true e)

stopped : (b : Bool) (k n : ℕ) → b ≡ false → suc k ≤ cond b (1 + n) 0 → ⊥
stopped true k n e h = false≢true (sym e)
stopped false k n e h = omega arith

zeros : (b : ℕ) → b ≡ 0 → 0 ≡ 0 + b
zeros b is = omega arith

-- Zeros in front don't count.
value-drop : (k : ℕ) (bytes : List ℕ) → k ≤ prefix_len (λ b. nat_eq b 0) bytes
    → number_from_digits 256 (drop k bytes) ≡ number_from_digits 256 bytes
value-drop zero bytes h = refl
value-drop (suc k) [] h = refl
value-drop (suc k) (b ∷ bytes) h = elim (eqb_tells b 0) [
  | inl is ↦ let shorter : k ≤ prefix_len (λ b. nat_eq b 0) bytes = skipped (nat_eq b 0) k (prefix_len (λ b. nat_eq b 0) bytes) is.0 h in
      value-drop k bytes shorter ∙ ap (λ n. number_from_digits_after 256 n bytes) (zeros b is.1)
  | inr other ↦ absurd (stopped (nat_eq b 0) k (prefix_len (λ b. nat_eq b 0) bytes) other.0 h)
]

below-drop : (k : ℕ) (bytes : List ℕ) → AllBelowBase 256 bytes → AllBelowBase 256 (drop k bytes)
below-drop zero bytes all = all
below-drop (suc k) [] all = tt
below-drop (suc k) (b ∷ bytes) all = below-drop k bytes all.1

eight : (a b c d e f g h : ℕ) → number_from_digits 256 (a ∷ b ∷ c ∷ d ∷ e ∷ f ∷ g ∷ h ∷ []) ≡ from_be_bytes w64 (a ∷ b ∷ c ∷ d ∷ e ∷ f ∷ g ∷ h ∷ [])
eight a b c d e f g h = omega arith

four : (a b c d : ℕ) → number_from_digits 256 (a ∷ b ∷ c ∷ d ∷ []) ≡ from_be_bytes w32 (a ∷ b ∷ c ∷ d ∷ [])
four a b c d = omega arith

-- Eight bytes are bytes.
eight_below : (n : ℕ) → AllBelowBase 256 (to_be_bytes w64 n)
eight_below n = (omega arith, (omega arith, (omega arith, (omega arith, (omega arith, (omega arith, (omega arith, (omega arith, tt))))))))

pub four_below : (n : ℕ) → AllBelowBase 256 (to_be_bytes w32 n)
four_below n = (omega arith, (omega arith, (omega arith, (omega arith, tt))))

-- The digits of a cookie are eight, and write it.
pub of_cookie : (n : ℕ) → n < 2 ^ 32 → digits_value 16 (encode_lower (to_be_bytes w32 n)) ≡ n
of_cookie n fits = value-encode 0 _ (four_below n) ∙ four _ _ _ _ ∙ from_be_bytes-to_be_bytes_4 n fits

pub key_below : (n : ℕ) → AllBelowBase 256 (significant (to_be_bytes w64 n))
key_below n = below-drop _ (to_be_bytes w64 n) (eight_below n)

pub of_key : (n : ℕ) → n < 2 ^ 64 → digits_value 16 (encode_lower (significant (to_be_bytes w64 n))) ≡ n
of_key n fits =
    value-encode 0 _ (key_below n)
    ∙ value-drop _ (to_be_bytes w64 n) (omega arith)
    ∙ eight _ _ _ _ _ _ _ _
    ∙ from_be_bytes-to_be_bytes_8 n fits

-- The key's digits are two to sixteen.
pub key_length : (n : ℕ) → (1 ≤ length (significant (to_be_bytes w64 n))) × (length (significant (to_be_bytes w64 n)) ≤ 8)
key_length n = (omega (arith, length-drop {A = ℕ}), omega (arith, length-drop {A = ℕ}))
