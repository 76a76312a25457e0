-- A number that is read group by group.
use Rattle.std.proofs.Common.{◌≡◌, ℕ, suc, ◌+◌, ◌-◌, ◌*◌, ◌%◌, ◌^◌, ◌<◌, ◌≤◌, List, [], ◌∷◌, length, get_or, drop, Result, Ok, Err, cond, ltb, true, false, refl, sym, ap, ◌∙◌, arith, inl, inr}
use Rattle.std.proofs.Math.Nat.{pow-le-pow_right, mul-le-mul_right, mod-eq_of_lt}
use Rattle.std.proofs.lemmas.Bool.{lt-ltb, le-ltb, cases_lt, cond-true, cond-false}
use Rattle.std.proofs.lemmas.List.{drop_more, drop_all}
use Rattle.std.proofs.lemmas.Nat.{pow-add, pow_pos}
use Rattle.proto_wire.specs.declared.fault.WireFault.{WireFault}
use Rattle.proto_wire.specs.declared.fault.WireFault.TheVariants.{Truncated, BadVarint}
use Rattle.proto_wire.specs.Field.{◌>>=◌, number_within, varint_at}

-- what was read before, and what is still read
abbrev pub shifted : ℕ → ℕ → Result (ℕ × List ℕ) WireFault → Result (ℕ × List ℕ) WireFault
shifted low scale read = read >>= λ high. Ok (low + scale * high.0, high.1)

pub record Scans (bytes : List ℕ) (index value : ℕ) : Type 0 where
  pub within : index ≤ 9
  pub below : value < 2 ^ (7 * index)
  pub so_far : number_within 10 bytes ≡ shifted value (2 ^ (7 * index)) (number_within (10 - index) (drop index bytes))

unshifted : (read : Result (ℕ × List ℕ) WireFault) → read ≡ shifted 0 1 read
unshifted (Ok x) = ap (λ (n : ℕ). Ok (n, x.1)) (omega arith)
unshifted (Err fault) = refl

pub begins : (bytes : List ℕ) → Scans bytes 0 0
begins bytes = record { within = omega arith; below = omega arith; so_far = unshifted (number_within 10 bytes) }

regroup : (low scale part : ℕ) (read : Result (ℕ × List ℕ) WireFault)
    → shifted low scale (read >>= λ high. Ok (part + 128 * high.0, high.1)) ≡ shifted (low + part * scale) (scale * 128) read
regroup low scale part (Ok x) = ap (λ (n : ℕ). Ok (n, x.1)) (grind arith)
regroup low scale part (Err fault) = refl

scale_more : (index : ℕ) → 2 ^ (7 * (index + 1)) ≡ 2 ^ (7 * index) * 128
scale_more index = let e : 7 * (index + 1) ≡ 7 * index + 7 = omega arith in rw e (pow-add 2 (7 * index) 7)

-- a group fits behind the value so far
pub group_fits : (index byte : ℕ) → index ≤ 9 → (index ≡ 9 → byte ≤ 1) → byte % 128 * 2 ^ (7 * index) + 2 ^ (7 * index) ≤ 2 ^ 64
group_fits index byte within last =
    elim (cases_lt index 9) [
      | inl lt ↦
          let small : 2 ^ (7 * index) ≤ 2 ^ 56 = pow-le-pow_right {n = 2} (omega arith) {i = 7 * index} {j = 56} (omega arith) in
          let group : byte % 128 * 2 ^ (7 * index) ≤ 127 * 2 ^ (7 * index) = mul-le-mul_right (2 ^ (7 * index)) (omega arith) in
          omega (arith, small, group)
      | inr le ↦
          let nine : index ≡ 9 = omega arith in
          let one : byte ≤ 1 = last nine in
          let group : byte % 128 * 2 ^ (7 * index) ≤ 1 * 2 ^ (7 * index) = mul-le-mul_right (2 ^ (7 * index)) (omega arith) in
          let scale : 2 ^ (7 * index) ≡ 2 ^ 63 = ap (λ (i : ℕ). 2 ^ (7 * i)) nine in
          omega (arith, group, scale)
    ]

at : (bytes : List ℕ) (index byte : ℕ) → index ≤ 9 → index < length bytes → byte ≡ get_or bytes index 0
    → number_within (10 - index) (drop index bytes)
    ≡ cond (ltb byte 128) (Ok (byte, drop (index + 1) bytes)) (number_within (9 - index) (drop (index + 1) bytes) >>= λ high. Ok (byte - 128 + 128 * high.0, high.1))
at bytes index byte within inside is =
    let more : 10 - index ≡ suc (9 - index) = omega arith in
    let front : drop index bytes ≡ byte ∷ drop (index + 1) bytes = drop_more bytes index 0 inside ∙ ap (λ (b : ℕ). b ∷ drop (index + 1) bytes) (sym is) in
    rw (more, front) refl

before_last : (index byte : ℕ) → index ≤ 9 → 128 ≤ byte → (index ≡ 9 → byte ≤ 1) → index < 9
before_last index byte within large last =
    elim (cases_lt index 9) [
      | inl lt ↦ lt
      | inr le ↦ let nine : index ≡ 9 = omega arith in let one : byte ≤ 1 = last nine in absurd (omega arith)
    ]

pub goes_on : (bytes : List ℕ) (index value byte : ℕ) → index < length bytes → byte ≡ get_or bytes index 0 → byte < 256 → 128 ≤ byte → (index ≡ 9 → byte ≤ 1) → Scans bytes index value
    → Scans bytes (index + 1) (value + byte % 128 * 2 ^ (7 * index))
goes_on bytes index value byte inside is fits large last scans =
    let low : byte % 128 ≡ byte - 128 = omega arith in
    let early = before_last index byte scans.within large last in
    let group : byte % 128 * 2 ^ (7 * index) ≤ 127 * 2 ^ (7 * index) = mul-le-mul_right (2 ^ (7 * index)) (omega arith) in
    let step = at bytes index byte scans.within inside is ∙ cond-false _ _ _ (le-ltb byte 128 large) in
    let left : 9 - index ≡ 10 - (index + 1) = omega arith in
    record {
      within = omega arith;
      below = omega (arith, scale_more index, group, scans.below);
      so_far = scans.so_far ∙ ap (shifted value (2 ^ (7 * index))) step ∙ regroup value (2 ^ (7 * index)) (byte - 128) (number_within (9 - index) (drop (index + 1) bytes))
          ∙ rw (low, left, scale_more index) refl;
    }

pub ends : (bytes : List ℕ) (index value byte : ℕ) → index < length bytes → byte ≡ get_or bytes index 0 → byte < 128 → (index ≡ 9 → byte ≤ 1) → Scans bytes index value
    → varint_at bytes ≡ Ok (value + byte % 128 * 2 ^ (7 * index), drop (index + 1) bytes)
unfolding varint_at
ends bytes index value byte inside is small last scans =
    let low : byte % 128 ≡ byte = omega arith in
    let step = at bytes index byte scans.within inside is ∙ cond-true _ _ _ (lt-ltb byte 128 small) in
    let whole : number_within 10 bytes ≡ Ok (value + 2 ^ (7 * index) * byte, drop (index + 1) bytes) = scans.so_far ∙ ap (shifted value (2 ^ (7 * index))) step in
    let same : value + 2 ^ (7 * index) * byte ≡ value + byte % 128 * 2 ^ (7 * index) = rw low (grind arith) in
    let fits : ltb (value + byte % 128 * 2 ^ (7 * index)) (2 ^ 64) ≡ true = lt-ltb _ _ (omega (arith, group_fits index byte scans.within last, scans.below)) in
    rw (whole, same, fits) refl

too_large_at : (bytes : List ℕ) (value byte : ℕ) → 9 < length bytes → byte ≡ get_or bytes 9 0 → 1 < byte → Scans bytes 9 value → varint_at bytes ≡ Err BadVarint
unfolding varint_at
too_large_at bytes value byte inside is large scans =
    elim (cases_lt byte 128) [
      | inl lt ↦
          let step = at bytes 9 byte scans.within inside is ∙ cond-true _ _ _ (lt-ltb byte 128 lt) in
          let whole : number_within 10 bytes ≡ Ok (value + 2 ^ 63 * byte, drop (9 + 1) bytes) = scans.so_far ∙ ap (shifted value (2 ^ 63)) step in
          let passes : ltb (value + 2 ^ 63 * byte) (2 ^ 64) ≡ false = le-ltb _ _ (omega arith) in
          rw (whole, passes) refl
      | inr le ↦
          let step = at bytes 9 byte scans.within inside is ∙ cond-false _ _ _ (le-ltb byte 128 le) in
          let whole : number_within 10 bytes ≡ Err BadVarint = scans.so_far ∙ ap (shifted value (2 ^ 63)) step in
          rw whole refl
    ]

pub too_large : (bytes : List ℕ) (index value byte : ℕ) → index ≡ 9 → index < length bytes → byte ≡ get_or bytes index 0 → 1 < byte → Scans bytes index value → varint_at bytes ≡ Err BadVarint
too_large bytes index value byte nine =
    rw nine (too_large_at bytes value byte)

pub cut : (bytes : List ℕ) (index value : ℕ) → length bytes ≤ index → Scans bytes index value → varint_at bytes ≡ Err Truncated
unfolding varint_at
cut bytes index value all scans =
    let more : 10 - index ≡ suc (9 - index) = omega (arith, scans.within) in
    let none : drop index bytes ≡ [] = drop_all index bytes all in
    let step : number_within (10 - index) (drop index bytes) ≡ Err Truncated = rw (more, none) refl in
    let whole : number_within 10 bytes ≡ Err Truncated = scans.so_far ∙ ap (shifted value (2 ^ (7 * index))) step in
    rw whole refl

-- `x << k` at 64 bits, where no bit is lost
pub group_is : (group index byte : ℕ) → group ≡ byte % 128 → index ≤ 9 → (index ≡ 9 → byte ≤ 1) → group * 2 ^ (7 * index) % 2 ^ 64 ≡ byte % 128 * 2 ^ (7 * index)
group_is group index byte is within last =
    rw is (mod-eq_of_lt (omega (arith, group_fits index byte within last, pow_pos (7 * index))))

pub one_byte : (bytes : List ℕ) (n : ℕ) → 0 < length bytes → n ≡ get_or bytes 0 0 → n < 128 → varint_at bytes ≡ Ok (n, drop 1 bytes)
unfolding varint_at
one_byte [] n inside is small = absurd (omega arith)
one_byte (b ∷ bytes) n inside is small =
    let lt : b < 128 = omega arith in
    rw (is, lt-ltb b 128 lt, lt-ltb b (2 ^ 64) (omega arith)) refl
