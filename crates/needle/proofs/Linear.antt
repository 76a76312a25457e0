-- A shift of the remainder is linear over exclusive or.
use Rattle.std.proofs.Common.{◌≡◌, ℕ, zero, suc, ◌+◌, ◌*◌, ◌/◌, ◌%◌, ◌^◌, ◌<◌, cond, eqb, List, [], ◌∷◌, length, get_or, bit_xor, refl, sym, ap, subst, ◌∙◌, arith}
use Rattle.std.specs.Int.Bits.{xor_assoc, xor_zero_r}
use Rattle.std.proofs.lemmas.Nat.{xor_comm, xor_lt, xor_shr, xor_mod, xor_block, pow_pos}
use Rattle.std.specs.Prelude.{fold}
use Rattle.std.proofs.Math.Nat.{zero-add, suc-add, pow-suc}
use Rattle.needle.specs.Crc.{polynomial, shifted, shifted_by, byte_step, checksum}

-- what a bit that falls out adds
added : ℕ → ℕ
added bit = bit * polynomial

chosen : (high bit : ℕ) → bit < 2 → cond (eqb bit 1) (bit_xor high polynomial) high ≡ bit_xor high (added bit)
unfolding added
chosen high zero small = sym (xor_zero_r high)
chosen high (suc zero) small = refl
chosen high (suc (suc bit)) small = absurd (omega arith)

shifted-is : (n : ℕ) → shifted n ≡ bit_xor (n / 2) (added (n % 2))
unfolding shifted
shifted-is n = chosen (n / 2) (n % 2) (omega arith)

-- four parts in another order
xor-swap : (a b c d : ℕ) → bit_xor (bit_xor a b) (bit_xor c d) ≡ bit_xor (bit_xor a c) (bit_xor b d)
xor-swap a b c d =
    xor_assoc a b (bit_xor c d) ∙ ap (bit_xor a) (sym (xor_assoc b c d) ∙ ap (λ m. bit_xor m d) (xor_comm b c) ∙ xor_assoc c b d) ∙ sym (xor_assoc a c (bit_xor b d))

-- two bits fall out together as one
added-xor : (a b : ℕ) → a < 2 → b < 2 → added (bit_xor a b) ≡ bit_xor (added a) (added b)
unfolding added
added-xor zero b h k = refl
added-xor (suc zero) zero h k = refl
added-xor (suc zero) (suc zero) h k = refl
added-xor (suc zero) (suc (suc b)) h k = absurd (omega arith)
added-xor (suc (suc a)) b h k = absurd (omega arith)

shifted-xor : (a b : ℕ) → shifted (bit_xor a b) ≡ bit_xor (shifted a) (shifted b)
shifted-xor a b =
    let halves : bit_xor a b / 2 ≡ bit_xor (a / 2) (b / 2) = xor_shr a b 1 in
    let bits : bit_xor a b % 2 ≡ bit_xor (a % 2) (b % 2) = xor_mod a b 1 in
    let outer : added (bit_xor a b % 2) ≡ bit_xor (added (a % 2)) (added (b % 2)) =
    ap added bits ∙ added-xor (a % 2) (b % 2) (omega arith) (omega arith) in
    let joined : bit_xor (bit_xor a b / 2) (added (bit_xor a b % 2)) ≡ bit_xor (bit_xor (a / 2) (b / 2)) (bit_xor (added (a % 2)) (added (b % 2))) = cc in
    let parted : bit_xor (bit_xor (a / 2) (added (a % 2))) (bit_xor (b / 2) (added (b % 2))) ≡ bit_xor (shifted a) (shifted b) =
    let p = shifted-is a in let q = shifted-is b in cc in
    shifted-is (bit_xor a b) ∙ joined ∙ xor-swap (a / 2) (b / 2) (added (a % 2)) (added (b % 2)) ∙ parted

pub shifted_by-xor : (n a b : ℕ) → shifted_by n (bit_xor a b) ≡ bit_xor (shifted_by n a) (shifted_by n b)
unfolding shifted_by
shifted_by-xor zero a b = refl
shifted_by-xor (suc n) a b = ap (shifted_by n) (shifted-xor a b) ∙ shifted_by-xor n (shifted a) (shifted b)

-- bits shifted in one go or in two
pub shifted_by-add : (m n a : ℕ) → shifted_by (m + n) a ≡ shifted_by n (shifted_by m a)
unfolding shifted_by
shifted_by-add zero n a = rw zero-add refl
shifted_by-add (suc m) n a = rw suc-add (shifted_by-add m n (shifted a))

shifted-double : (a : ℕ) → shifted (a * 2) ≡ a
unfolding added
shifted-double a =
    let half : a * 2 / 2 ≡ a = omega arith in
    let even : a * 2 % 2 ≡ 0 = omega arith in
    shifted-is (a * 2) ∙ ap (λ h. bit_xor h (added (a * 2 % 2))) half ∙ ap (λ (b : ℕ). bit_xor a (added b)) even ∙ xor_zero_r a

-- low zeros fall out and add nothing
pub shifted_by-raised : (n a : ℕ) → shifted_by n (a * 2 ^ n) ≡ a
unfolding shifted_by
shifted_by-raised zero a = omega arith
shifted_by-raised (suc n) a =
    let twice : a * 2 ^ suc n ≡ (a * 2 ^ n) * 2 = ap (λ (p : ℕ). a * p) (pow-suc 2 n) ∙ omega arith in
    ap (λ (x : ℕ). shifted_by n (shifted x)) twice ∙ ap (shifted_by n) (shifted-double (a * 2 ^ n)) ∙ shifted_by-raised n a

pub shifted_by-zero : (a : ℕ) → shifted_by 0 a ≡ a
unfolding shifted_by
shifted_by-zero a = refl

-- what was before the bytes goes through apart from them
pub run-xor : (bytes : List ℕ) (a b : ℕ) → fold byte_step (bit_xor a b) bytes ≡ bit_xor (shifted_by (8 * length bytes) a) (fold byte_step b bytes)
run-xor [] a b = ap (λ (s : ℕ). bit_xor s b) (sym (shifted_by-zero a))
run-xor (byte ∷ bytes) a b =
    let first : byte_step (bit_xor a b) byte ≡ bit_xor (shifted_by 8 a) (byte_step b byte) =
    ap (shifted_by 8) (xor_assoc a b byte) ∙ shifted_by-xor 8 a (bit_xor b byte) in
    let places : 8 + 8 * length bytes ≡ 8 * suc (length bytes) = omega arith in
    let whole : shifted_by (8 * length bytes) (shifted_by 8 a) ≡ shifted_by (8 * suc (length bytes)) a =
    sym (shifted_by-add 8 (8 * length bytes) a) ∙ ap (λ (n : ℕ). shifted_by n a) places in
    ap (λ (r : ℕ). fold byte_step r bytes) first ∙ run-xor bytes (shifted_by 8 a) (byte_step b byte)
    ∙ ap (λ (s : ℕ). bit_xor s (fold byte_step (byte_step b byte) bytes)) whole

-- a number and low bits beside it
raised-xor : (k a b : ℕ) → b < 2 ^ k → bit_xor (a * 2 ^ k) b ≡ a * 2 ^ k + b
raised-xor k a b small =
    let left : a * 2 ^ k + 0 ≡ a * 2 ^ k = omega arith in
    let right : 0 * 2 ^ k + b ≡ b = omega arith in
    ap (λ (x : ℕ). bit_xor x b) (sym left) ∙ ap (bit_xor (a * 2 ^ k + 0)) (sym right) ∙ xor_block k a 0 0 b (pow_pos k) small
    ∙ ap (λ (x : ℕ). x * 2 ^ k + b) (xor_zero_r a)

-- a number by its low byte and the rest
by_low_byte : (r : ℕ) → r ≡ bit_xor (r / 256 * 256) (r % 256)
by_low_byte r =
    let whole : r ≡ r / 256 * 256 + r % 256 = omega arith in
    whole ∙ sym (raised-xor 8 (r / 256) (r % 256) (omega arith))

-- one byte, by what falls out and what stays
pub byte_step-is : (r b : ℕ) → byte_step r b ≡ bit_xor (shifted_by 8 (bit_xor (r % 256) b)) (r / 256)
byte_step-is r b =
    let regrouped : bit_xor r b ≡ bit_xor (r / 256 * 256) (bit_xor (r % 256) b) =
    ap (λ (x : ℕ). bit_xor x b) (by_low_byte r) ∙ xor_assoc (r / 256 * 256) (r % 256) b in
    ap (shifted_by 8) regrouped ∙ shifted_by-xor 8 (r / 256 * 256) (bit_xor (r % 256) b)
    ∙ ap (λ (x : ℕ). bit_xor x (shifted_by 8 (bit_xor (r % 256) b))) (shifted_by-raised 8 (r / 256))
    ∙ xor_comm (r / 256) (shifted_by 8 (bit_xor (r % 256) b))

-- ---- a remainder stays within 32 bits

shifted-small : (n : ℕ) → n < 2 ^ 32 → shifted n < 2 ^ 32
unfolding added
shifted-small n small =
    let half : n / 2 < 2 ^ 32 = omega arith in
    subst (λ (m : ℕ). m < 2 ^ 32) (sym (shifted-is n)) (xor_lt 32 (n / 2) (added (n % 2)) half (added-small (n % 2) (omega arith)))
  where
    added-small : (b : ℕ) → b < 2 → b * polynomial < 2 ^ 32
    added-small b small = omega arith

shifted_by-small : (k n : ℕ) → n < 2 ^ 32 → shifted_by k n < 2 ^ 32
unfolding shifted_by
shifted_by-small zero n small = small
shifted_by-small (suc k) n small = shifted_by-small k (shifted n) (shifted-small n small)

run-small : (bytes : List ℕ) (n : ℕ) → ((i : ℕ) → get_or bytes i 0 < 256) → n < 2 ^ 32 → fold byte_step n bytes < 2 ^ 32
run-small [] n fits small = small
run-small (byte ∷ bytes) n fits small =
    let first : byte < 256 = fits 0 in
    let wide : byte < 2 ^ 32 = omega (arith, first) in
    run-small bytes (byte_step n byte) (λ i. fits (suc i)) (shifted_by-small 8 (bit_xor n byte) (xor_lt 32 n byte small wide))

pub checksum-small : (bytes : List ℕ) → ((i : ℕ) → get_or bytes i 0 < 256) → checksum bytes < 2 ^ 32
checksum-small bytes fits = xor_lt 32 (fold byte_step 0xFFFFFFFF bytes) 0xFFFFFFFF (run-small bytes 0xFFFFFFFF fits (omega arith)) (omega arith)
