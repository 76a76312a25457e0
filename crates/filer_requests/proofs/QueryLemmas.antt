-- The parts of a query and the digits of a number, one by one.
use Rattle.std.proofs.Common.{◌≡◌, ℕ, ◌+◌, ◌-◌, ◌*◌, ◌^◌, ◌<◌, ◌≤◌, true, List, ◌∷◌, length, take, drop, get_or, Some, None, cond, ap, arith, add-one, drop-cons, ◌∙◌, subst}
use Rattle.std.specs.Prelude.{bytes_eq}
use Rattle.std.specs.List.{list_all}
use Rattle.std.specs.Char.{is_ascii_digit}
use Rattle.std.specs.Str.Parse.{digits_value}
use Rattle.std.proofs.lemmas.Int.Digits.{digits_value_more}
use Rattle.std.proofs.lemmas.Str.Parse.{digits_value-take-le}
use Rattle.std.proofs.lemmas.List.{take_all}
use Rattle.http_head.proofs.NumberLemmas.{digit_is, digit_at}
use Rattle.filer_requests.specs.Query.{value_of, fitting}

pub one_part_more : (name : List ℕ) (query : List (List ℕ × List ℕ)) (part : List ℕ × List ℕ) (i : ℕ) → i < length query
    → value_of name (drop i query) ≡ (cond (bytes_eq (get_or query i part).0 name) (Some (get_or query i part).1) (value_of name (drop (i + 1) query)))
one_part_more name query part i within =
    let cut : drop i query ≡ get_or query i part ∷ drop (i + 1) query = rw add-one (drop-cons query i part within) in
    ap (value_of name) cut

-- One digit more.
pub digits_more : (text : List ℕ) (i value : ℕ) → list_all is_ascii_digit text ≡ true → i < length text → value ≡ digits_value 10 (take i text)
    → value * 10 + (get_or text i 0 - 48) ≡ digits_value 10 (take (i + 1) text)
digits_more text i value all within is =
    let more = digits_value_more 10 text i within in
    let digit = digit_is (get_or text i 0) (digit_at text i all within) in
    omega (arith, more, digit, is)

too_great : (count : ℕ) → 2 ^ 64 ≤ count → None ≡ fitting count
too_great count great = grind (arith)

-- Digits past the greatest number.
pub digits_past : (text : List ℕ) (i value : ℕ) → list_all is_ascii_digit text ≡ true → i < length text → value ≡ digits_value 10 (take i text)
    → 2 ^ 64 ≤ value * 10 + (get_or text i 0 - 48) → None ≡ fitting (digits_value 10 text)
digits_past text i value all within is great =
    let more = digits_more text i value all within is in
    let whole = digits_value-take-le 10 text (i + 1) (omega arith) in
    too_great (digits_value 10 text) (omega (arith, more, whole, great))

fits_so : (count : ℕ) → count < 2 ^ 64 → Some count ≡ fitting count
fits_so count small = grind (arith)

-- All digits, of a number that fits.
pub all_digits : (text : List ℕ) (i value : ℕ) → length text ≤ i → value ≡ digits_value 10 (take i text) → value < 2 ^ 64 → Some value ≡ fitting (digits_value 10 text)
all_digits text i value whole is fits =
    let same : value ≡ digits_value 10 text = is ∙ ap (digits_value 10) (take_all i text whole) in
    subst (λ count. Some value ≡ fitting count) same (fits_so value fits)
