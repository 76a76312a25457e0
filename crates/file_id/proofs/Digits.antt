-- Decimal and hexadecimal digits: how large the number is that they write.
use Rattle.std.proofs.Common.{◌≡◌, lit<, inl, inr, ℕ, zero, suc, ◌^◌, ◌<◌, ◌≤◌, List, [], ◌∷◌, length, take, refl, sym, ap, ◌∙◌, arith, rules, Bool, true, false, cond, nat_lt, Some, None, Result, Ok, Err}
use Rattle.std.specs.Char.{is_ascii_digit, is_digit}
use Rattle.std.specs.List.{list_all}
use Rattle.std.specs.Str.{IsUtf8}
use Rattle.std.specs.Str.Parse.{AllDigits, digits_value, ParsesUnsigned}
use Rattle.std.specs.Result.{OkIff, result_ok}
use Rattle.file_id.specs.Reading.{is_number, number_below}
use Rattle.std.proofs.Math.Nat.{pow-le-pow_right}
use Rattle.std.proofs.lemmas.Bool.{ltb-true, lt-ltb, and_parts, and_from, and_right, cases_Bool, leb-true}
use Rattle.std.proofs.lemmas.Fmt.{IsAscii-from_digits}
use Rattle.std.proofs.lemmas.Int.Digits.{digits_value-lt}
use Rattle.std.proofs.lemmas.List.{length-take}
use Rattle.std.proofs.lemmas.Str.{IsUtf8-from_ascii}
use Rattle.std.proofs.lemmas.Str.Parse.{IsNumeralModel, numerals_by_value, parse_digits}

pub own : IsNumeralModel (λ ds. list_all is_ascii_digit ds ≡ true) (digits_value 10)
own = numerals_by_value _ (search rules)

pub utf8_digits : (ds : List ℕ) → list_all is_ascii_digit ds ≡ true → IsUtf8 ds
utf8_digits ds all = IsUtf8-from_ascii ds (IsAscii-from_digits ds (own.to ds all))

pub AllDigits-from_hex : (ds : List ℕ) → list_all (λ c. is_digit c 16) ds ≡ true → AllDigits 16 ds
AllDigits-from_hex [] all = tt
AllDigits-from_hex (c ∷ cs) all =
    let both = and_parts _ _ all in (ltb-true _ _ both.0, AllDigits-from_hex cs both.1)

pub hex-from_AllDigits : (ds : List ℕ) → AllDigits 16 ds → list_all (λ c. is_digit c 16) ds ≡ true
hex-from_AllDigits [] all = refl
hex-from_AllDigits (c ∷ cs) all = grind (arith, lt-ltb _ _ all.0, hex-from_AllDigits cs all.1)

AllDigits-take : (i : ℕ) (ds : List ℕ) → AllDigits 16 ds → AllDigits 16 (take i ds)
AllDigits-take zero ds all = tt
AllDigits-take (suc i) [] all = tt
AllDigits-take (suc i) (c ∷ cs) all = (all.0, AllDigits-take i cs all.1)

-- There is room for one more of at most sixteen digits.
pub hex_room : (ds : List ℕ) (i : ℕ) → list_all (λ c. is_digit c 16) ds ≡ true → i < length ds → length ds ≤ 16
    → digits_value 16 (take i ds) < 16 ^ 15
hex_room ds i all low few =
    let small : digits_value 16 (take i ds) < 16 ^ length (take i ds) = digits_value-lt 16 (take i ds) (AllDigits-take i ds (AllDigits-from_hex ds all)) in
    let few' : length (take i ds) ≤ 15 = omega (arith, length-take i ds) in
    let short : 16 ^ length (take i ds) ≤ 16 ^ 15 = pow-le-pow_right (lit< tt) few' in
    omega (arith, small, short)

pub eight_fit : (ds : List ℕ) → list_all (λ c. is_digit c 16) ds ≡ true → length ds ≤ 8 → digits_value 16 ds < 2 ^ 32
eight_fit ds all few =
    let small : digits_value 16 ds < 16 ^ length ds = digits_value-lt 16 ds (AllDigits-from_hex ds all) in
    let short : 16 ^ length ds ≤ 16 ^ 8 = pow-le-pow_right (lit< tt) few in
    omega (arith, small, short)

pub chosen : (b : Bool) (n : ℕ) → b ≡ true → cond b (Some n) None ≡ Some n
chosen b n e = rw e refl

left_out : (b : Bool) (n : ℕ) → b ≡ false → cond b (Some n) None ≡ None
left_out b n e = rw e refl

ends_well : {E : Type 0} (text : List ℕ) (r : Result ℕ E) → is_number text ≡ true
    → OkIff r ((0 < length text) × (digits_value 10 text < 2 ^ 64)) (digits_value 10 text)
    → result_ok r ≡ number_below (2 ^ 64) text
ends_well text (Ok x) is h = ap Some h.1 ∙ sym (chosen _ _ (and_from _ _ is (lt-ltb _ _ h.0.1)))
ends_well text (Err e) is h =
    let some : 0 < length text = leb-true _ _ (and_parts _ _ (and_parts _ _ is).1).0 in
    elim (cases_Bool (nat_lt (digits_value 10 text) (2 ^ 64))) [
      | inl small ↦ absurd (h (some, ltb-true _ _ small))
      | inr large ↦ sym (left_out _ _ (and_right _ _ large))
    ]

pub number_parsed : {E : Type 0} (text : List ℕ) (r : Result ℕ E) → is_number text ≡ true → ParsesUnsigned 64 10 text r
    → result_ok r ≡ number_below (2 ^ 64) text
number_parsed text r is h = ends_well text r is (parse_digits own 64 text r h (and_parts _ _ is).0)
