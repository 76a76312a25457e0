-- Numbers and their eight digits.
use Rattle.std.proofs.Common.{◌≡◌, ◌≢◌, ℕ, ◌+◌, ◌-◌, ◌*◌, ◌/◌, ◌%◌, ◌≤◌, Bool, true, false, List, [], ◌∷◌, length, refl, sym, ◌∙◌, ap, subst, arith, ◌&&◌, not}
use Rattle.std.specs.Char.{is_ascii_digit}
use Rattle.std.specs.List.{list_all}
use Rattle.std.specs.Str.{bytes_eq}
use Rattle.std.proofs.lemmas.Bool.{eqb-true}
use Rattle.std.proofs.lemmas.Bool.Decides.{nat_tests}
use Rattle.std.proofs.lemmas.Slice.Eq.{bytes_eq-Decides}
use Rattle.std.proofs.Math.Nat.{div-div-eq-div-mul}
use Rattle.meta_log.specs.LogText.{digit, eight_digits}
use Rattle.meta_log.specs.Standing.{IsLaterNumber, is_later_number}

-- the number of eight digits
abbrev pub number_of : ℕ → ℕ → ℕ → ℕ → ℕ → ℕ → ℕ → ℕ → ℕ
number_of a b c d e f g h = 10000000 * a + 1000000 * b + 100000 * c + 10000 * d + 1000 * e + 100 * f + 10 * g + h

cons : (a b : ℕ) (xs ys : List ℕ) → a ≡ b → xs ≡ ys → a ∷ xs ≡ b ∷ ys
cons a b xs ys p q i = p i ∷ q i

module _ (a b c d e f g h : ℕ) (a9 : a ≤ 9) (b9 : b ≤ 9) (c9 : c ≤ 9) (d9 : d ≤ 9) (e9 : e ≤ 9) (f9 : f ≤ 9) (g9 : g ≤ 9) (h9 : h ≤ 9) where
  first : digit (number_of a b c d e f g h / 10000000) ≡ 48 + a
  first = omega arith

  second : digit (number_of a b c d e f g h / 1000000) ≡ 48 + b
  second = omega arith

  third : digit (number_of a b c d e f g h / 100000) ≡ 48 + c
  third = omega arith

  fourth : digit (number_of a b c d e f g h / 10000) ≡ 48 + d
  fourth = omega arith

  fifth : digit (number_of a b c d e f g h / 1000) ≡ 48 + e
  fifth = omega arith

  sixth : digit (number_of a b c d e f g h / 100) ≡ 48 + f
  sixth = omega arith

  seventh : digit (number_of a b c d e f g h / 10) ≡ 48 + g
  seventh = omega arith

  eighth : digit (number_of a b c d e f g h) ≡ 48 + h
  eighth = omega arith

  bounded : number_of a b c d e f g h ≤ 99999999
  bounded = omega arith

  pub eight_digits-number_of : eight_digits (number_of a b c d e f g h) ≡ (48 + a) ∷ (48 + b) ∷ (48 + c) ∷ (48 + d) ∷ (48 + e) ∷ (48 + f) ∷ (48 + g) ∷ (48 + h) ∷ []
  eight_digits-number_of =
      cons _ _ _ _ first (cons _ _ _ _ second (cons _ _ _ _ third (cons _ _ _ _ fourth
      (cons _ _ _ _ fifth (cons _ _ _ _ sixth (cons _ _ _ _ seventh (cons _ _ _ _ eighth refl)))))))

digit_value : (b : ℕ) → is_ascii_digit b ≡ true → (v : ℕ) × (v ≤ 9) × (48 + v ≡ b)
digit_value b is = (b - 48, grind (arith, nat_tests), grind (arith, nat_tests))

is_digit : (n : ℕ) → is_ascii_digit (digit n) ≡ true
is_digit n = grind (arith, nat_tests)

both : (a b : Bool) → (a && b) ≡ true → (a ≡ true) × (b ≡ true)
both true b is = (refl, is)
both false b is = absurd (cc)

-- eight digits are those of a number
pub number_from_digits : (digits : List ℕ) → length digits ≡ 8 → list_all is_ascii_digit digits ≡ true → (number : ℕ) × (number ≤ 99999999) × (digits ≡ eight_digits number)
number_from_digits (a ∷ b ∷ c ∷ d ∷ e ∷ f ∷ g ∷ h ∷ []) long all =
    let pa = both _ _ all in
    let pb = both _ _ pa.1 in
    let pc = both _ _ pb.1 in
    let pd = both _ _ pc.1 in
    let pe = both _ _ pd.1 in
    let pf = both _ _ pe.1 in
    let pg = both _ _ pf.1 in
    let ph = both _ _ pg.1 in
    let va = digit_value a pa.0 in
    let vb = digit_value b pb.0 in
    let vc = digit_value c pc.0 in
    let vd = digit_value d pd.0 in
    let ve = digit_value e pe.0 in
    let vf = digit_value f pf.0 in
    let vg = digit_value g pg.0 in
    let vh = digit_value h ph.0 in (
      number_of va.0 vb.0 vc.0 vd.0 ve.0 vf.0 vg.0 vh.0,
      bounded va.0 vb.0 vc.0 vd.0 ve.0 vf.0 vg.0 vh.0 va.1 vb.1 vc.1 vd.1 ve.1 vf.1 vg.1 vh.1,
      sym (eight_digits-number_of va.0 vb.0 vc.0 vd.0 ve.0 vf.0 vg.0 vh.0 va.1 vb.1 vc.1 vd.1 ve.1 vf.1 vg.1 vh.1
          ∙ cons _ _ _ _ va.2 (cons _ _ _ _ vb.2 (cons _ _ _ _ vc.2 (cons _ _ _ _ vd.2
          (cons _ _ _ _ ve.2 (cons _ _ _ _ vf.2 (cons _ _ _ _ vg.2 (cons _ _ _ _ vh.2 refl)))))))),
    )
number_from_digits digits long all = absurd (omega (arith, long))

all_digits : (number : ℕ) → list_all is_ascii_digit (eight_digits number) ≡ true
all_digits number =
    let p = is_digit in
    simp (p (number / 10000000), p (number / 1000000), p (number / 100000), p (number / 10000), p (number / 1000), p (number / 100), p (number / 10), p number)

-- the digits give the number back
step : (n m : ℕ) → n / m ≡ 10 * (n / (m * 10)) + n / m % 10
step n m = omega (arith, div-div-eq-div-mul n m 10)

same_step : (n k m : ℕ) → n / (m * 10) ≡ k / (m * 10) → n / m % 10 ≡ k / m % 10 → n / m ≡ k / m
same_step n k m high low = omega (arith, step n m, step k m, high, low)

same_head : (a b : ℕ) (xs ys : List ℕ) → (48 + a) ∷ xs ≡ (48 + b) ∷ ys → (a ≡ b) × (xs ≡ ys)
same_head a b xs ys is = let e : 48 + a ≡ 48 + b = cc in (omega (arith, e), cc)

pub number_unique : (n k : ℕ) → n ≤ 99999999 → k ≤ 99999999 → eight_digits n ≡ eight_digits k → n ≡ k
number_unique n k small_n small_k is =
    let a = same_head _ _ _ _ is in
    let b = same_head _ _ _ _ a.1 in
    let c = same_head _ _ _ _ b.1 in
    let d = same_head _ _ _ _ c.1 in
    let e = same_head _ _ _ _ d.1 in
    let f = same_head _ _ _ _ e.1 in
    let g = same_head _ _ _ _ f.1 in
    let h = same_head _ _ _ _ g.1 in
    let top : n / 100000000 ≡ k / 100000000 = omega arith in
    let sa = same_step n k 10000000 top a.0 in
    let sb = same_step n k 1000000 sa b.0 in
    let sc = same_step n k 100000 sb c.0 in
    let sd = same_step n k 10000 sc d.0 in
    let se = same_step n k 1000 sd e.0 in
    let sf = same_step n k 100 se f.0 in
    let sg = same_step n k 10 sf g.0 in
    omega (arith, sg, h.0)

unlike : (n k : ℕ) → n ≤ 99999999 → k ≤ 99999999 → n ≢ k → not (bytes_eq (eight_digits n) (eight_digits k)) ≡ true
unlike n k small_n small_k differ =
    elim (bytes_eq (eight_digits n) (eight_digits k)) as (λ t. bytes_eq (eight_digits n) (eight_digits k) ≡ t → not t ≡ true) [
      | true ↦ λ same. absurd (differ (number_unique n k small_n small_k ((bytes_eq-Decides (eight_digits n) (eight_digits k)).0 same)))
      | false ↦ λ _. refl
    ] refl

-- the test finds the numbers past the first
unlike_text : (a b : List ℕ) → not (bytes_eq a b) ≡ true → a ≢ b
unlike_text a b differ same = let e = (bytes_eq-Decides a b).1 same in absurd (cc)

past_first : (number : ℕ) → number ≢ 0 → number ≢ 1 → 2 ≤ number
past_first number zeroth first = omega arith

pub later_number : (digits : List ℕ) → is_later_number digits ≡ true → IsLaterNumber digits
later_number digits is =
    let p3 = both _ _ is in
    let p2 = both _ _ p3.0 in
    let p1 = both _ _ p2.0 in
    let found = number_from_digits digits (eqb-true _ _ p1.0) p1.1 in
    let not_0 : found.0 ≢ 0 = λ e. unlike_text _ _ p2.1 (found.2 ∙ ap eight_digits e) in
    let not_1 : found.0 ≢ 1 = λ e. unlike_text _ _ p3.1 (found.2 ∙ ap eight_digits e) in
    (found.0, past_first found.0 not_0 not_1, found.1, found.2)

and_true : (a b : Bool) → a ≡ true → b ≡ true → (a && b) ≡ true
and_true a b p q = cc

found_digits : (number : ℕ) → 2 ≤ number → number ≤ 99999999 → is_later_number (eight_digits number) ≡ true
found_digits number low high =
    and_true _ _ (and_true _ _ (and_true _ _ refl (all_digits number))
    (unlike number 0 high (omega arith) (λ e. omega (arith, e)))) (unlike number 1 high (omega arith) (λ e. omega (arith, e)))

pub later_number_found : (digits : List ℕ) → IsLaterNumber digits → is_later_number digits ≡ true
later_number_found digits later =
    let P : List ℕ → Type 0 = λ l. is_later_number l ≡ true in
    subst P (sym later.3) (found_digits later.0 later.1 later.2)
