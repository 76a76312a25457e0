-- The byte of the flags, by its bits.
use Rattle.std.proofs.Common.{◌≡◌, ℕ, zero, suc, ◌+◌, ◌*◌, ◌/◌, ◌%◌, ◌^◌, ◌<◌, Bool, true, false, not, eqb, bit_and, refl, sym, ap, ◌∙◌, arith, inl, inr, ◌⊎◌}
use Rattle.std.specs.Prelude.{is_some}
use Rattle.std.proofs.lemmas.Bool.{ne_eqb}
use Rattle.std.proofs.lemmas.Nat.Bits.{and_pow}
use Rattle.needle.specs.declared.item.Needle.{Needle}
use Rattle.needle.specs.Item.{Marks, bit, flags}
use Rattle.needle.specs.Reading.{has_flag}

bit-small : (b : Bool) → bit b < 2
bit-small true = omega arith
bit-small false = omega arith

-- what a test for one flag answers
tested : (f k worth : ℕ) (b : Bool) → worth ≡ 2 ^ k → 0 < worth → f / worth % 2 ≡ bit b → has_flag f worth ≡ b
tested f k worth b is some e =
    let masked : bit_and f worth ≡ bit b * worth = ap (bit_and f) is ∙ and_pow f k ∙ ap (λ (w : ℕ). f / w % 2 * w) (sym is) ∙ ap (λ (m : ℕ). m * worth) e in
    ap (λ (m : ℕ). not (eqb m 0)) masked ∙ of_bit b worth some
  where
    of_bit : (b : Bool) (worth : ℕ) → 0 < worth → not (eqb (bit b * worth) 0) ≡ b
    of_bit true worth some = ap not (ne_eqb (1 * worth) 0 (λ (e : 1 * worth ≡ 0). omega arith))
    of_bit false worth some = let none : 0 * worth ≡ 0 = omega arith in ap (λ (m : ℕ). not (eqb m 0)) none

-- a bit by its test
bit-has : (f k worth : ℕ) → worth ≡ 2 ^ k → 0 < worth → bit (has_flag f worth) ≡ f / worth % 2
bit-has f k worth is some =
    elim (bit_cases (f / worth % 2) (omega arith)) [
      | inl one ↦ ap bit (tested f k worth true is some one) ∙ sym one
      | inr none ↦ ap bit (tested f k worth false is some none) ∙ sym none
    ]
  where
    bit_cases : (m : ℕ) → m < 2 → (m ≡ 1) ⊎ (m ≡ 0)
    bit_cases zero small = inr refl
    bit_cases (suc zero) small = inl refl
    bit_cases (suc (suc m)) small = absurd (omega arith)

-- eight bits and the byte that they make
abbrev byte_of : ℕ → ℕ → ℕ → ℕ → ℕ → ℕ → ℕ → ℕ → ℕ
byte_of a b c d e f g h = a + 2 * b + 4 * c + 8 * d + 16 * e + 32 * f + 64 * g + 128 * h

byte_of-bits : (n : ℕ) → n < 256 → byte_of (n / 1 % 2) (n / 2 % 2) (n / 4 % 2) (n / 8 % 2) (n / 16 % 2) (n / 32 % 2) (n / 64 % 2) (n / 128 % 2) ≡ n
byte_of-bits n small = omega arith

record Bits (n a b c d e f g h : ℕ) : Type 0 where
  of_1 : n / 1 % 2 ≡ a
  of_2 : n / 2 % 2 ≡ b
  of_4 : n / 4 % 2 ≡ c
  of_8 : n / 8 % 2 ≡ d
  of_16 : n / 16 % 2 ≡ e
  of_32 : n / 32 % 2 ≡ f
  of_64 : n / 64 % 2 ≡ g
  of_128 : n / 128 % 2 ≡ h

bits_of : (a b c d e f g h : ℕ) → a < 2 → b < 2 → c < 2 → d < 2 → e < 2 → f < 2 → g < 2 → h < 2 → Bits (byte_of a b c d e f g h) a b c d e f g h
bits_of a b c d e f g h i j k l m n o p = record {
  of_1 = omega arith;
  of_2 = omega arith;
  of_4 = omega arith;
  of_8 = omega arith;
  of_16 = omega arith;
  of_32 = omega arith;
  of_64 = omega arith;
  of_128 = omega arith;
}

-- ---- the flags of a needle

-- The flags tell which parts and marks are there.
pub record Tells (n : ℕ) (marks : Marks) (needle : Needle) : Type 0 where
  pub compressed : has_flag n 1 ≡ marks.compressed
  pub name : has_flag n 2 ≡ is_some needle.name
  pub mime : has_flag n 4 ≡ is_some needle.mime
  pub modified : has_flag n 8 ≡ is_some needle.modified
  pub ttl : has_flag n 16 ≡ is_some needle.ttl
  pub pairs : has_flag n 32 ≡ is_some needle.pairs
  pub reserved : has_flag n 64 ≡ marks.reserved
  pub manifest : has_flag n 128 ≡ marks.manifest

pub flags_tell : (marks : Marks) (needle : Needle) → Tells (flags marks needle) marks needle
flags_tell marks needle =
    let bits = bits_of (bit marks.compressed) (bit (is_some needle.name)) (bit (is_some needle.mime)) (bit (is_some needle.modified))
    (bit (is_some needle.ttl)) (bit (is_some needle.pairs)) (bit marks.reserved) (bit marks.manifest)
    (bit-small _) (bit-small _) (bit-small _) (bit-small _) (bit-small _) (bit-small _) (bit-small _) (bit-small _) in
    record {
      compressed = tested _ 0 1 _ refl (omega arith) bits.of_1;
      name = tested _ 1 2 _ refl (omega arith) bits.of_2;
      mime = tested _ 2 4 _ refl (omega arith) bits.of_4;
      modified = tested _ 3 8 _ refl (omega arith) bits.of_8;
      ttl = tested _ 4 16 _ refl (omega arith) bits.of_16;
      pairs = tested _ 5 32 _ refl (omega arith) bits.of_32;
      reserved = tested _ 6 64 _ refl (omega arith) bits.of_64;
      manifest = tested _ 7 128 _ refl (omega arith) bits.of_128;
    }

-- Only one byte tells of these.
pub told_flags : (n : ℕ) (marks : Marks) (needle : Needle) → n < 256 → Tells n marks needle → n ≡ flags marks needle
told_flags n marks needle small tells =
    let a : n / 1 % 2 ≡ bit marks.compressed = sym (bit-has n 0 1 refl (omega arith)) ∙ ap bit tells.compressed in
    let b : n / 2 % 2 ≡ bit (is_some needle.name) = sym (bit-has n 1 2 refl (omega arith)) ∙ ap bit tells.name in
    let c : n / 4 % 2 ≡ bit (is_some needle.mime) = sym (bit-has n 2 4 refl (omega arith)) ∙ ap bit tells.mime in
    let d : n / 8 % 2 ≡ bit (is_some needle.modified) = sym (bit-has n 3 8 refl (omega arith)) ∙ ap bit tells.modified in
    let e : n / 16 % 2 ≡ bit (is_some needle.ttl) = sym (bit-has n 4 16 refl (omega arith)) ∙ ap bit tells.ttl in
    let f : n / 32 % 2 ≡ bit (is_some needle.pairs) = sym (bit-has n 5 32 refl (omega arith)) ∙ ap bit tells.pairs in
    let g : n / 64 % 2 ≡ bit marks.reserved = sym (bit-has n 6 64 refl (omega arith)) ∙ ap bit tells.reserved in
    let h : n / 128 % 2 ≡ bit marks.manifest = sym (bit-has n 7 128 refl (omega arith)) ∙ ap bit tells.manifest in
    sym (byte_of-bits n small) ∙ same _ _ _ _ _ _ _ _ _ _ _ _ _ _ _ _ a b c d e f g h
  where
    same : (a b c d e f g h i j k l m n o p : ℕ) → a ≡ i → b ≡ j → c ≡ k → d ≡ l → e ≡ m → f ≡ n → g ≡ o → h ≡ p → byte_of a b c d e f g h ≡ byte_of i j k l m n o p
    same a b c d e f g h i j k l m n o p q r s t u v w x = cc
