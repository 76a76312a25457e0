-- Decimal numbers as they are written and read.
use Rattle.std.proofs.Common.{◌≡◌, not, ◌||◌, lit<, subst, ℕ, zero, suc, ◌^◌, ◌<◌, ◌≤◌, List, [], ◌∷◌, length, get_or, sym, ap, ◌∙◌, arith, true, nat_eq, Some, decimal}
use Rattle.std.specs.Char.{digit_value}
use Rattle.std.specs.Str.Parse.{AllDigits, digits_value}
use Rattle.std.proofs.lemmas.Bool.{and_parts, and_from, or_left, or_right, lt-ltb, ltb-true, le-leb, leb-true, eq-eqb}
use Rattle.std.proofs.lemmas.Bool.Decides.{nat_tests}
use Rattle.std.proofs.lemmas.Fmt.{digits_decimal, digits_value-decimal, decimal_nonempty, first_decimal, decimal_digit, decimal-digits_value}
use Rattle.std.proofs.lemmas.Option.{cond_some}
use Rattle.file_id.specs.Reading.{is_number, number_below}
use Rattle.file_id.proofs.Cuts.{Lacks}
use Rattle.file_id.proofs.Digits.{own, chosen}

-- A byte that is no digit stands nowhere among digits.
pub Lacks-digits : (radix b : ℕ) → radix ≤ digit_value b → (ds : List ℕ) → AllDigits radix ds → Lacks b ds
Lacks-digits radix b high [] all = tt
Lacks-digits radix b high (c ∷ cs) all = (
  λ e. let low : digit_value b < radix = subst (λ d. digit_value d < radix) e all.0 in omega arith,
  Lacks-digits radix b high cs all.1,
)

above : (a b : ℕ) → b < a → not (nat_eq a b) ≡ true
above a b h = grind (arith, nat_tests)

no_zero_before : (n : ℕ) → n < 2 ^ 64 → (nat_eq (length (decimal n)) 1 || not (nat_eq (get_or (decimal n) 0 0) 48)) ≡ true
no_zero_before zero fits = or_left _ _ (eq-eqb _ _ (ap length (decimal_digit 0 (lit< tt))))
no_zero_before (suc n) fits = or_right _ _ (above _ _ (first_decimal (suc n) (omega arith) fits))

is_number-decimal : (n : ℕ) → n < 2 ^ 64 → is_number (decimal n) ≡ true
is_number-decimal n fits =
    and_from _ _ (digits_decimal own n fits)
    (and_from _ _ (le-leb _ _ (decimal_nonempty n fits)) (no_zero_before n fits))

-- What is written of a number is read as that number.
pub number_below-decimal : (limit n : ℕ) → n < limit → n < 2 ^ 64 → number_below limit (decimal n) ≡ Some n
number_below-decimal limit n low fits =
    let value : digits_value 10 (decimal n) ≡ n = digits_value-decimal own n fits in
    chosen _ _ (and_from _ _ (is_number-decimal n fits) (lt-ltb _ _ (omega arith))) ∙ ap Some value

lone_zero : (first len : ℕ) → (nat_eq len 1 || not (nat_eq first 48)) ≡ true → first ≡ 48 → len ≡ 1
lone_zero first len h is = grind (arith, nat_tests)

-- What is read as a number is what is written of it.
pub decimal-number_below : (limit n : ℕ) (text : List ℕ) → limit ≤ 2 ^ 64 → number_below limit text ≡ Some n → (n < limit) × (text ≡ decimal n)
decimal-number_below limit n text small is =
    let found = cond_some _ _ _ is in
    let both = and_parts _ _ found.0 in
    let digits = and_parts _ _ both.0 in
    let rest = and_parts _ _ digits.1 in
    let low : digits_value 10 text < limit = ltb-true _ _ both.1 in
    let written : decimal (digits_value 10 text) ≡ text =
    decimal-digits_value own text digits.0 (leb-true _ _ rest.0) (lone_zero _ _ rest.1) (omega arith) in
    (omega (arith, found.1), sym written ∙ ap decimal found.1)
