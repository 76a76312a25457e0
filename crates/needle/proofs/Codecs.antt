-- What a reader takes is what is written of its value, and what is written is read again.
use Rattle.std.proofs.Common.{◌≡◌, ◌≢◌, ℕ, zero, suc, ◌+◌, ◌^◌, ◌<◌, ◌≤◌, Bool, true, false, cond, eqb, ltb, List, [], ◌∷◌, ◌++◌, length, get_or, take, drop, Option, Some, None, refl, sym, ap, subst, ◌∙◌, append_assoc, arith, inl, inr}
use Rattle.std.specs.Prelude.{IfSome, is_some, option_map}
use Rattle.std.specs.Int.{Width, w16, w32, w64, from_be_bytes, to_be_bytes}
use Rattle.std.proofs.lemmas.Bool.{cases_lt, ltb-false, le-ltb, eqb-false, ne_eqb}
use Rattle.std.proofs.Math.Nat.{pos_of_ne-zero}
use Rattle.std.proofs.lemmas.Option.{same_Some, some_pair_parts, none-some}
use Rattle.std.proofs.lemmas.List.{take_at, drop_at, take-append-drop, length-append, length-take, get_or-drop, get_or-take, get_or_past}
use Rattle.std.proofs.lemmas.Nat.{be_bytes_2, be_bytes_4, be_bytes_8, from_be_bytes-to_be_bytes_2, from_be_bytes-to_be_bytes_4, from_be_bytes-to_be_bytes_8}
use Rattle.needle.specs.Item.{part, short_text, long_text, five_bytes}
use Rattle.needle.specs.Reading.{◌>>=◌, bytes_at, short_at, long_at, five_at, body_at, part_at}

abbrev pub IsBytes : List ℕ → Type 0
IsBytes bytes = (i : ℕ) → get_or bytes i 0 < 256

pub IsBytes-drop : (n : ℕ) (bytes : List ℕ) → IsBytes bytes → IsBytes (drop n bytes)
IsBytes-drop n bytes h i = rw get_or-drop (h (n + i))

pub IsBytes-take : (n : ℕ) (bytes : List ℕ) → IsBytes bytes → IsBytes (take n bytes)
IsBytes-take n bytes h i =
    elim (cases_lt i n) [
      | inl lt ↦ rw (get_or-take n bytes i 0 lt) (h i)
      | inr le ↦ rw (get_or_past (take n bytes) i 0 (omega (arith, length-take n bytes))) (omega arith)
    ]

-- a step that gave a value
pub bind_some : {A B : Type 0} (r : Option A) (f : A → Option B) (y : B) → (r >>= f) ≡ Some y → (x : A) × (r ≡ Some x) × (f x ≡ Some y)
bind_some (Some x) f y e = (x, refl, e)
bind_some None f y e = absurd cc

-- a test that let a value through
pub guard_some : {A : Type 0} (b : Bool) (x y : A) → cond b None (Some x) ≡ Some y → (b ≡ false) × (x ≡ y)
guard_some true x y e = absurd cc
guard_some false x y e = (refl, same_Some x y e)

pub record Reads {A : Type 0} (read : List ℕ → Option (A × List ℕ)) (text : A → List ℕ) (Fits : A → Type 0) : Type 0 where
  pub takes : (bytes : List ℕ) (x : A) (rest : List ℕ) → IsBytes bytes → read bytes ≡ Some (x, rest) → (bytes ≡ text x ++ rest) × IsBytes rest × Fits x
  pub again : (x : A) (rest : List ℕ) → Fits x → read (text x ++ rest) ≡ Some (x, rest)

-- ---- a number of bytes

record Taken (count : ℕ) (bytes x rest : List ℕ) : Type 0 where
  parts : bytes ≡ x ++ rest
  front_fits : IsBytes x
  rest_fits : IsBytes rest
  len : length x ≡ count

bytes_take : (count : ℕ) (bytes x rest : List ℕ) → IsBytes bytes → bytes_at count bytes ≡ Some (x, rest) → Taken count bytes x rest
bytes_take count bytes x rest fits e =
    let g = guard_some (ltb (length bytes) count) (take count bytes, drop count bytes) (x, rest) e in
    let long : count ≤ length bytes = ltb-false _ _ g.0 in
    let x-is : take count bytes ≡ x = ap (λ (p : List ℕ × List ℕ). p.0) g.1 in
    let rest-is : drop count bytes ≡ rest = ap (λ (p : List ℕ × List ℕ). p.1) g.1 in
    record {
      parts = rw (← x-is, ← rest-is) (sym (take-append-drop count bytes));
      front_fits = rw (← x-is) (IsBytes-take count bytes fits);
      rest_fits = rw (← rest-is) (IsBytes-drop count bytes fits);
      len = rw (← x-is) (omega (arith, length-take count bytes));
    }

bytes_again : (count : ℕ) (x rest : List ℕ) → length x ≡ count → bytes_at count (x ++ rest) ≡ Some (x, rest)
bytes_again count x rest len =
    let long : ltb (length (x ++ rest)) count ≡ false = le-ltb _ _ (omega (arith, length-append x rest)) in
    rw (long, take_at x rest count len, drop_at x rest count len) refl

pub bytes_reads : (count : ℕ) → Reads (bytes_at count) (λ x. x) (λ x. length x ≡ count)
bytes_reads count = record {
  takes = λ bytes x rest fits e. let t = bytes_take count bytes x rest fits e in (t.parts, t.rest_fits, t.len);
  again = bytes_again count;
}

-- ---- bytes with their length before them

short_take : (bytes x rest : List ℕ) → IsBytes bytes → short_at bytes ≡ Some (x, rest) → (bytes ≡ short_text x ++ rest) × IsBytes rest × (length x < 2 ^ 8)
unfolding short_at
short_take [] x rest fits e = absurd cc
short_take (len ∷ bytes) x rest fits e =
    let t = bytes_take len bytes x rest (λ i. fits (suc i)) e in
    (rw (t.len) (ap (λ (b : List ℕ). len ∷ b) t.parts), t.rest_fits, rw (t.len) (fits 0))

pub short_reads : Reads short_at short_text (λ x. length x < 2 ^ 8)
unfolding short_at
short_reads = record { takes = short_take; again = λ x rest fits. bytes_again (length x) x rest refl }

-- a number of `count` bytes, high byte first
pub record IsWide (w : Width) (count limit : ℕ) : Type 0 where
  pub len : (n : ℕ) → length (to_be_bytes w n) ≡ count
  pub back : (bytes : List ℕ) → length bytes ≡ count → IsBytes bytes → to_be_bytes w (from_be_bytes w bytes) ≡ bytes
  pub again : (n : ℕ) → n < limit → from_be_bytes w (to_be_bytes w n) ≡ n
  pub below : (bytes : List ℕ) → IsBytes bytes → from_be_bytes w bytes < limit

wide16 : IsWide w16 2 (2 ^ 16)
wide16 = record {
  len = λ n. refl;
  back = λ bytes len fits. be_bytes_2 bytes _ len fits refl;
  again = λ n lt. from_be_bytes-to_be_bytes_2 n lt;
  below = λ bytes fits. omega (arith, fits 0, fits 1);
}

pub wide32 : IsWide w32 4 (2 ^ 32)
wide32 = record {
  len = λ n. refl;
  back = λ bytes len fits. be_bytes_4 bytes _ len fits refl;
  again = λ n lt. from_be_bytes-to_be_bytes_4 n lt;
  below = λ bytes fits. omega (arith, fits 0, fits 1, fits 2, fits 3);
}

pub wide64 : IsWide w64 8 (2 ^ 64)
wide64 = record {
  len = λ n. refl;
  back = λ bytes len fits. be_bytes_8 bytes _ len fits refl;
  again = λ n lt. from_be_bytes-to_be_bytes_8 n lt;
  below = λ bytes fits. omega (arith, fits 0, fits 1, fits 2, fits 3, fits 4, fits 5, fits 6, fits 7);
}

-- a length, and that many bytes
prefixed_take : (w : Width) (count limit : ℕ) → IsWide w count limit → (bytes front back x rest : List ℕ) → IsBytes bytes
    → bytes_at count bytes ≡ Some (front, back) → bytes_at (from_be_bytes w front) back ≡ Some (x, rest)
    → (bytes ≡ (to_be_bytes w (length x) ++ x) ++ rest) × IsBytes rest × (length x < limit)
prefixed_take w count limit wide bytes front back x rest fits first second =
    let t = bytes_take count bytes front back fits first in
    let u = bytes_take (from_be_bytes w front) back x rest t.rest_fits second in
    let written : to_be_bytes w (length x) ≡ front = ap (to_be_bytes w) u.len ∙ wide.back front t.len t.front_fits in
    let whole : bytes ≡ (front ++ x) ++ rest = t.parts ∙ ap (λ (b : List ℕ). front ++ b) u.parts ∙ sym (append_assoc front x rest) in
    (whole ∙ ap (λ (f : List ℕ). (f ++ x) ++ rest) (sym written), u.rest_fits, subst (λ (n : ℕ). n < limit) (sym u.len) (wide.below front t.front_fits))

prefixed_again : (w : Width) (count limit : ℕ) → IsWide w count limit → (x rest : List ℕ)
    → bytes_at count ((to_be_bytes w (length x) ++ x) ++ rest) ≡ Some (to_be_bytes w (length x), x ++ rest)
prefixed_again w count limit wide x rest =
    ap (bytes_at count) (append_assoc (to_be_bytes w (length x)) x rest) ∙ bytes_again count (to_be_bytes w (length x)) (x ++ rest) (wide.len (length x))

long_take : (bytes x rest : List ℕ) → IsBytes bytes → long_at bytes ≡ Some (x, rest) → (bytes ≡ long_text x ++ rest) × IsBytes rest × (length x < 2 ^ 16)
unfolding long_at
long_take bytes x rest fits e =
    let b = bind_some (bytes_at 2 bytes) (λ len. bytes_at (from_be_bytes w16 len.0) len.1) (x, rest) e in
    prefixed_take w16 2 (2 ^ 16) wide16 bytes b.0.0 b.0.1 x rest fits b.1 b.2

long_again : (x rest : List ℕ) → length x < 2 ^ 16 → long_at (long_text x ++ rest) ≡ Some (x, rest)
unfolding long_at
long_again x rest fits =
    rw (prefixed_again w16 2 (2 ^ 16) wide16 x rest, wide16.again (length x) fits) (bytes_again (length x) x rest refl)

pub long_reads : Reads long_at long_text (λ x. length x < 2 ^ 16)
long_reads = record { takes = long_take; again = long_again }

-- ---- data, whose length stands in four bytes

abbrev pub body_text : List ℕ → List ℕ
body_text body = to_be_bytes w32 (length body) ++ body

-- data that isn't empty
abbrev pub IsBody : List ℕ → Type 0
IsBody body = (0 < length body) × (length body < 2 ^ 32)

body_take : (bytes x rest : List ℕ) → IsBytes bytes → body_at bytes ≡ Some (x, rest) → (bytes ≡ body_text x ++ rest) × IsBytes rest × IsBody x
unfolding body_at
body_take bytes x rest fits e =
    let b = bind_some (bytes_at 4 bytes) (λ len. cond (eqb (from_be_bytes w32 len.0) 0) None (bytes_at (from_be_bytes w32 len.0) len.1)) (x, rest) e in
    let g = filled (eqb (from_be_bytes w32 b.0.0) 0) (bytes_at (from_be_bytes w32 b.0.0) b.0.1) (x, rest) b.2 in
    let p = prefixed_take w32 4 (2 ^ 32) wide32 bytes b.0.0 b.0.1 x rest fits b.1 g.1 in
    let u = bytes_take (from_be_bytes w32 b.0.0) b.0.1 x rest (bytes_take 4 bytes b.0.0 b.0.1 fits b.1).rest_fits g.1 in
    let some : from_be_bytes w32 b.0.0 ≢ 0 = eqb-false _ _ g.0 in
    (p.0, p.1, (subst (λ (n : ℕ). 0 < n) (sym u.len) (pos_of_ne-zero some), p.2))
  where
    filled : {A : Type 0} (b : Bool) (r : Option A) (y : A) → cond b None r ≡ Some y → (b ≡ false) × (r ≡ Some y)
    filled true r y e = absurd cc
    filled false r y e = (refl, e)

body_again : (x rest : List ℕ) → IsBody x → body_at (body_text x ++ rest) ≡ Some (x, rest)
unfolding body_at
body_again x rest fits =
    let some : eqb (length x) 0 ≡ false = ne_eqb _ _ (λ e. omega (arith, fits.0)) in
    rw (prefixed_again w32 4 (2 ^ 32) wide32 x rest, wide32.again (length x) fits.1, some) (bytes_again (length x) x rest refl)

pub body_reads : Reads body_at body_text IsBody
body_reads = record { takes = body_take; again = body_again }

-- ---- a number of five bytes

zeros_before : (bytes : List ℕ) → IsBytes bytes → IsBytes (0 ∷ 0 ∷ 0 ∷ bytes)
zeros_before bytes fits zero = omega arith
zeros_before bytes fits (suc zero) = omega arith
zeros_before bytes fits (suc (suc zero)) = omega arith
zeros_before bytes fits (suc (suc (suc i))) = fits i

five_take : (bytes : List ℕ) (x : ℕ) (rest : List ℕ) → IsBytes bytes → five_at bytes ≡ Some (x, rest) → (bytes ≡ five_bytes x ++ rest) × IsBytes rest × (x < 2 ^ 40)
unfolding five_at
five_take bytes x rest fits e =
    let b = bind_some (bytes_at 5 bytes) (λ five. Some (from_be_bytes w64 (0 ∷ 0 ∷ 0 ∷ five.0), five.1)) (x, rest) e in
    let t = bytes_take 5 bytes b.0.0 b.0.1 fits b.1 in
    five_parts bytes b.0.0 b.0.1 x rest t (some_pair_parts _ _ _ _ b.2).0 (some_pair_parts _ _ _ _ b.2).1
  where
    five_parts : (bytes five back : List ℕ) (x : ℕ) (rest : List ℕ) → Taken 5 bytes five back → from_be_bytes w64 (0 ∷ 0 ∷ 0 ∷ five) ≡ x → back ≡ rest
        → (bytes ≡ five_bytes x ++ rest) × IsBytes rest × (x < 2 ^ 40)
    five_parts bytes five back x rest t number behind =
        let whole : to_be_bytes w64 x ≡ 0 ∷ 0 ∷ 0 ∷ five = be_bytes_8 (0 ∷ 0 ∷ 0 ∷ five) x (ap (λ (n : ℕ). suc (suc (suc n))) t.len) (zeros_before five t.front_fits) (sym number) in
        let spelled : five ≡ five_bytes x = sym (ap (drop 3) whole) in
        let front = t.front_fits in
        let small : from_be_bytes w64 (0 ∷ 0 ∷ 0 ∷ five) < 2 ^ 40 = omega (arith, front 0, front 1, front 2, front 3, front 4) in
        (t.parts ∙ ap (λ (f : List ℕ). f ++ back) spelled ∙ ap (λ (r : List ℕ). five_bytes x ++ r) behind, subst IsBytes behind t.rest_fits, subst (λ (n : ℕ). n < 2 ^ 40) number small)

five_from : (five rest : List ℕ) (x : ℕ) → length five ≡ 5 → from_be_bytes w64 (0 ∷ 0 ∷ 0 ∷ five) ≡ x → five_at (five ++ rest) ≡ Some (x, rest)
unfolding five_at
five_from five rest x len number =
    ap (λ (r : Option (List ℕ × List ℕ)). r >>= λ five. Some (from_be_bytes w64 (0 ∷ 0 ∷ 0 ∷ five.0), five.1)) (bytes_again 5 five rest len)
    ∙ ap (λ (n : ℕ). Some (n, rest)) number

five_again : (x : ℕ) (rest : List ℕ) → x < 2 ^ 40 → five_at (five_bytes x ++ rest) ≡ Some (x, rest)
five_again x rest fits = five_from (five_bytes x) rest x refl (omega arith)

pub five_reads : Reads five_at five_bytes (λ x. x < 2 ^ 40)
five_reads = record { takes = five_take; again = five_again }

-- ---- a part behind its flag

mapped : {A : Type 0} (r : Option (A × List ℕ)) (y : Option A × List ℕ) → option_map (λ (part : A × List ℕ). (Some part.0, part.1)) r ≡ Some y
    → (x : A × List ℕ) × (r ≡ Some x) × (◌≡◌ {A = Option A × List ℕ} (Some x.0, x.1) y)
mapped (Some x) y e = (x, refl, same_Some _ _ e)
mapped None y e = absurd cc

pub part_takes : {A : Type 0} (read : List ℕ → Option (A × List ℕ)) (text : A → List ℕ) (Fits : A → Type 0) (is_set : Bool) (bytes : List ℕ) (x : Option A) (rest : List ℕ)
    → Reads read text Fits → IsBytes bytes → part_at is_set read bytes ≡ Some (x, rest) → (bytes ≡ part text x ++ rest) × IsBytes rest × IfSome x Fits × (is_some x ≡ is_set)
part_takes {A} read text Fits false bytes None rest reads fits e =
    let p = some_pair_parts _ _ _ _ e in (p.1, subst IsBytes p.1 fits, tt, refl)
part_takes {A} read text Fits false bytes (Some x) rest reads fits e = absurd (none-some x (some_pair_parts _ _ _ _ e).0)
part_takes {A} read text Fits true bytes None rest reads fits e =
    let m = mapped (read bytes) (None, rest) e in absurd (none-some m.0.0 (sym (ap (λ (p : Option A × List ℕ). p.0) m.2)))
part_takes {A} read text Fits true bytes (Some x) rest reads fits e =
    let m = mapped (read bytes) (Some x, rest) e in
    let value : m.0.0 ≡ x = same_Some _ _ (ap (λ (p : Option A × List ℕ). p.0) m.2) in
    let behind : m.0.1 ≡ rest = ap (λ (p : Option A × List ℕ). p.1) m.2 in
    let t = reads.takes bytes m.0.0 m.0.1 fits m.1 in
    (t.0 ∙ ap (λ (v : A). text v ++ m.0.1) value ∙ ap (λ (r : List ℕ). text x ++ r) behind, subst IsBytes behind t.1, subst Fits value t.2, refl)

pub part_again : {A : Type 0} (read : List ℕ → Option (A × List ℕ)) (text : A → List ℕ) (Fits : A → Type 0) (x : Option A) (rest : List ℕ)
    → Reads read text Fits → IfSome x Fits → part_at (is_some x) read (part text x ++ rest) ≡ Some (x, rest)
part_again read text Fits None rest reads fits = refl
part_again read text Fits (Some x) rest reads fits = rw (reads.again x rest fits) refl
