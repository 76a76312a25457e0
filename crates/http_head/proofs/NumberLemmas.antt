-- Decimal digits, one by one.
use Rattle.std.proofs.Common.{◌≡◌, ℕ, ◌+◌, ◌-◌, ◌*◌, ◌^◌, ◌<◌, true, false, List, length, take, get_or, min, refl, arith, ◌∙◌, sym}
use Rattle.std.specs.Char.{is_ascii_digit, digit_value}
use Rattle.std.proofs.lemmas.Int.Digits.{digits_value_more}
use Rattle.std.proofs.lemmas.Bool.Decides.{nat_tests}
use Rattle.std.specs.List.{list_all}
use Rattle.std.proofs.lemmas.List.Folds.{list_all_at}
use Rattle.http_head.specs.Words.{capped_value}

pub digit_is : (c : ℕ) → is_ascii_digit c ≡ true → digit_value c ≡ c - 48
digit_is c digit = grind (arith, nat_tests)

-- Of digits alone each one is a digit.
pub digit_at : (text : List ℕ) (i : ℕ) → list_all is_ascii_digit text ≡ true → i < length text → is_ascii_digit (get_or text i 0) ≡ true
digit_at text i all within =
    elim (is_ascii_digit (get_or text i 0)) as (λ b. is_ascii_digit (get_or text i 0) ≡ b → b ≡ true) [
      | true ↦ λ is. refl
      | false ↦ λ is. sym (list_all_at is_ascii_digit text i 0 within is) ∙ all
    ] refl

-- One digit more.
pub capped_more : (text : List ℕ) (i value : ℕ) → list_all is_ascii_digit text ≡ true → i < length text → value ≡ capped_value (take i text)
    → min (min (value * 10) (2 ^ 64 - 1) + (get_or text i 0 - 48)) (2 ^ 64 - 1) ≡ capped_value (take (i + 1) text)
capped_more text i value all within is =
    let more = digits_value_more 10 text i within in
    let digit = digit_is (get_or text i 0) (digit_at text i all within) in
    omega (arith, more, digit, is)
