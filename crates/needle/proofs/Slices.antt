-- Sixteen bytes at once: what each of them adds, by one look-up.
use Rattle.std.proofs.Common.{◌≡◌, ℕ, suc, ◌+◌, ◌*◌, ◌/◌, ◌%◌, ◌^◌, ◌<◌, ◌≤◌, List, [], ◌∷◌, ◌++◌, length, get_or, take, drop, bit_xor, sym, ap, ◌∙◌, arith}
use Rattle.std.specs.Prelude.{fold}
use Rattle.std.specs.Int.Bits.{xor_assoc, xor_zero_r}
use Rattle.std.proofs.lemmas.Nat.{xor_shr, xor_mod}
use Rattle.std.specs.Int.{w32, to_le_bytes}
use Rattle.std.proofs.lemmas.List.{length-append, length-take, length-drop, take-append-drop, drop-drop}
use Rattle.std.proofs.Math.Seq.{take-length}
use Rattle.std.proofs.lemmas.List.Sums.{fold-append}
use Rattle.needle.specs.Crc.{shifted_by, byte_step, AreTables}
use Rattle.needle.proofs.Linear.{shifted_by-xor, shifted_by-add, byte_step-is, run-xor, shifted_by-zero}

-- the first byte apart from the others
run-cons : (r byte : ℕ) (bytes : List ℕ) → fold byte_step r (byte ∷ bytes) ≡ bit_xor (shifted_by (8 * suc (length bytes)) (bit_xor (r % 256) byte)) (fold byte_step (r / 256) bytes)
run-cons r byte bytes =
    let x : ℕ = bit_xor (r % 256) byte in
    let places : 8 + 8 * length bytes ≡ 8 * suc (length bytes) = omega arith in
    ap (λ (s : ℕ). fold byte_step s bytes) (byte_step-is r byte) ∙ run-xor bytes (shifted_by 8 x) (r / 256)
    ∙ ap (λ (s : ℕ). bit_xor s (fold byte_step (r / 256) bytes)) (sym (shifted_by-add 8 (8 * length bytes) x) ∙ ap (λ (n : ℕ). shifted_by n x) places)

-- what four bytes add
abbrev four : ℕ → ℕ → ℕ → ℕ → ℕ
four a b c d = bit_xor (shifted_by 32 a) (bit_xor (shifted_by 24 b) (bit_xor (shifted_by 16 c) (shifted_by 8 d)))

-- four bytes into a remainder of four bytes
run-four : (r a b c d : ℕ) → r < 2 ^ 32
    → fold byte_step r (a ∷ b ∷ c ∷ d ∷ []) ≡ four (bit_xor (r % 256) a) (bit_xor (r / 256 % 256) b) (bit_xor (r / 256 / 256 % 256) c) (bit_xor (r / 256 / 256 / 256 % 256) d)
run-four r a b c d small =
    let none : r / 256 / 256 / 256 / 256 ≡ 0 = omega arith in
    let last : bit_xor (shifted_by 8 (bit_xor (r / 256 / 256 / 256 % 256) d)) (r / 256 / 256 / 256 / 256) ≡ shifted_by 8 (bit_xor (r / 256 / 256 / 256 % 256) d) =
    ap (bit_xor (shifted_by 8 (bit_xor (r / 256 / 256 / 256 % 256) d))) none ∙ xor_zero_r (shifted_by 8 (bit_xor (r / 256 / 256 / 256 % 256) d)) in
    run-cons r a (b ∷ c ∷ d ∷ [])
    ∙ ap (bit_xor (shifted_by 32 (bit_xor (r % 256) a))) (run-cons (r / 256) b (c ∷ d ∷ [])
    ∙ ap (bit_xor (shifted_by 24 (bit_xor (r / 256 % 256) b))) (run-cons (r / 256 / 256) c (d ∷ [])
    ∙ ap (bit_xor (shifted_by 16 (bit_xor (r / 256 / 256 % 256) c))) (run-cons (r / 256 / 256 / 256) d [] ∙ last)))

-- four bytes by their look-ups
four_tables : (tables : List (List ℕ)) (first a b c d : ℕ) → AreTables tables → first ≤ 12 → a < 256 → b < 256 → c < 256 → d < 256
    → bit_xor (bit_xor (bit_xor (get_or (get_or tables (first + 3) []) a 0) (get_or (get_or tables (first + 2) []) b 0)) (get_or (get_or tables (first + 1) []) c 0))
    (get_or (get_or tables first []) d 0)
    ≡ shifted_by (8 * first) (fold byte_step 0 (a ∷ b ∷ c ∷ d ∷ []))
four_tables tables first a b c d are within sa sb sc sd =
    let n : ℕ = 8 * first in
    let pa : get_or (get_or tables (first + 3) []) a 0 ≡ shifted_by n (shifted_by 32 a) = looked (first + 3) a 32 (omega arith) sa (omega arith) in
    let pb : get_or (get_or tables (first + 2) []) b 0 ≡ shifted_by n (shifted_by 24 b) = looked (first + 2) b 24 (omega arith) sb (omega arith) in
    let pc : get_or (get_or tables (first + 1) []) c 0 ≡ shifted_by n (shifted_by 16 c) = looked (first + 1) c 16 (omega arith) sc (omega arith) in
    let pd : get_or (get_or tables first []) d 0 ≡ shifted_by n (shifted_by 8 d) = looked first d 8 (omega arith) sd (omega arith) in
    joined _ _ _ _ _ _ _ _ pa pb pc pd
    ∙ sym (ap (shifted_by n) (run-four 0 a b c d (omega arith)) ∙ apart n (shifted_by 32 a) (shifted_by 24 b) (shifted_by 16 c) (shifted_by 8 d))
  where
    looked : (k byte bits : ℕ) → k < 16 → byte < 256 → bits + 8 * first ≡ 8 * (k + 1) → get_or (get_or tables k []) byte 0 ≡ shifted_by (8 * first) (shifted_by bits byte)
    looked k byte bits inside small places =
        are k byte inside small ∙ ap (λ (m : ℕ). shifted_by m byte) (sym places) ∙ shifted_by-add bits (8 * first) byte

    joined : (w x y z w' x' y' z' : ℕ) → w ≡ w' → x ≡ x' → y ≡ y' → z ≡ z' → bit_xor (bit_xor (bit_xor w x) y) z ≡ bit_xor w' (bit_xor x' (bit_xor y' z'))
    joined w x y z w' x' y' z' p q r s =
        xor_assoc (bit_xor w x) y z ∙ xor_assoc w x (bit_xor y z) ∙ same
      where
        same : bit_xor w (bit_xor x (bit_xor y z)) ≡ bit_xor w' (bit_xor x' (bit_xor y' z'))
        same = cc

    apart : (n w x y z : ℕ) → shifted_by n (bit_xor w (bit_xor x (bit_xor y z))) ≡ bit_xor (shifted_by n w) (bit_xor (shifted_by n x) (bit_xor (shifted_by n y) (shifted_by n z)))
    apart n w x y z =
        shifted_by-xor n w (bit_xor x (bit_xor y z)) ∙ ap (bit_xor (shifted_by n w)) (shifted_by-xor n x (bit_xor y z) ∙ ap (bit_xor (shifted_by n x)) (shifted_by-xor n y z))

-- the same of the bytes of a number
pub word_tables : (tables : List (List ℕ)) (word first a b c d : ℕ) (bytes : List ℕ) → AreTables tables → first ≤ 12 → bytes ≡ to_le_bytes w32 word
    → a ≡ get_or bytes 0 0 → b ≡ get_or bytes 1 0 → c ≡ get_or bytes 2 0 → d ≡ get_or bytes 3 0
    → bit_xor (bit_xor (bit_xor (get_or (get_or tables (first + 3) []) a 0) (get_or (get_or tables (first + 2) []) b 0)) (get_or (get_or tables (first + 1) []) c 0))
    (get_or (get_or tables first []) d 0)
    ≡ shifted_by (8 * first) (fold byte_step 0 (to_le_bytes w32 word))
word_tables tables word first a b c d bytes are within is pa pb pc pd =
    same _ _ _ _ _ _ _ _ (pa ∙ ap (λ (l : List ℕ). get_or l 0 0) is) (pb ∙ ap (λ (l : List ℕ). get_or l 1 0) is)
    (pc ∙ ap (λ (l : List ℕ). get_or l 2 0) is) (pd ∙ ap (λ (l : List ℕ). get_or l 3 0) is)
    ∙ four_tables tables first (word % 256) (word / 256 % 256) (word / 65536 % 256) (word / 16777216 % 256) are within (omega arith) (omega arith) (omega arith) (omega arith)
  where
    same : (a b c d a' b' c' d' : ℕ) → a ≡ a' → b ≡ b' → c ≡ c' → d ≡ d'
        → bit_xor (bit_xor (bit_xor (get_or (get_or tables (first + 3) []) a 0) (get_or (get_or tables (first + 2) []) b 0)) (get_or (get_or tables (first + 1) []) c 0))
        (get_or (get_or tables first []) d 0)
        ≡ bit_xor (bit_xor (bit_xor (get_or (get_or tables (first + 3) []) a' 0) (get_or (get_or tables (first + 2) []) b' 0)) (get_or (get_or tables (first + 1) []) c' 0))
        (get_or (get_or tables first []) d' 0)
    same a b c d a' b' c' d' p q r s = cc

-- ---- the first four bytes, with the remainder

-- the bytes of an exclusive or
byte_xor : (k r w : ℕ) → bit_xor r w / 2 ^ k % 2 ^ 8 ≡ bit_xor (r / 2 ^ k % 2 ^ 8) (w / 2 ^ k % 2 ^ 8)
byte_xor k r w = ap (λ (x : ℕ). x % 2 ^ 8) (xor_shr r w k) ∙ xor_mod (r / 2 ^ k) (w / 2 ^ k) 8

four-same : (a a' b b' c c' d d' : ℕ) → a ≡ a' → b ≡ b' → c ≡ c' → d ≡ d' → four a b c d ≡ four a' b' c' d'
four-same a a' b b' c c' d d' p q r s = cc

mixed_is : (r w : ℕ) → r < 2 ^ 32 → w < 2 ^ 32 → fold byte_step 0 (to_le_bytes w32 (bit_xor r w)) ≡ fold byte_step r (to_le_bytes w32 w)
mixed_is r w small_r small_w =
    let rc : r / 65536 % 256 ≡ r / 256 / 256 % 256 = omega arith in
    let rd : r / 16777216 % 256 ≡ r / 256 / 256 / 256 % 256 = omega arith in
    run-four 0 _ _ _ _ (omega arith)
    ∙ four-same _ _ _ _ _ _ _ _
    (xor_mod r w 8)
    (byte_xor 8 r w)
    (byte_xor 16 r w ∙ ap (λ (x : ℕ). bit_xor x (w / 65536 % 256)) rc)
    (byte_xor 24 r w ∙ ap (λ (x : ℕ). bit_xor x (w / 16777216 % 256)) rd)
    ∙ sym (run-four r (w % 256) (w / 256 % 256) (w / 65536 % 256) (w / 16777216 % 256) small_r)

-- ---- sixteen bytes

-- bytes behind others
run-append : (xs ys : List ℕ) (r : ℕ) → fold byte_step r (xs ++ ys) ≡ bit_xor (shifted_by (8 * length ys) (fold byte_step r xs)) (fold byte_step 0 ys)
run-append xs ys r =
    fold-append byte_step r xs ys
    ∙ ap (λ (s : ℕ). fold byte_step s ys) (sym (xor_zero_r (fold byte_step r xs)))
    ∙ run-xor ys (fold byte_step r xs) 0

four_words : (a b c d : List ℕ) (r : ℕ) → length b ≡ 4 → length c ≡ 4 → length d ≡ 4
    → fold byte_step r (a ++ (b ++ (c ++ d)))
    ≡ bit_xor (shifted_by 96 (fold byte_step r a)) (bit_xor (shifted_by 64 (fold byte_step 0 b)) (bit_xor (shifted_by 32 (fold byte_step 0 c)) (fold byte_step 0 d)))
four_words a b c d r lb lc ld =
    let nd : 8 * length d ≡ 32 = omega arith in
    let nc : 8 * length (c ++ d) ≡ 64 = omega (arith, length-append c d) in
    let nb : 8 * length (b ++ (c ++ d)) ≡ 96 = omega (arith, length-append b (c ++ d), length-append c d) in
    run-append a (b ++ (c ++ d)) r ∙ ap (λ (n : ℕ). bit_xor (shifted_by n (fold byte_step r a)) (fold byte_step 0 (b ++ (c ++ d)))) nb
    ∙ ap (bit_xor (shifted_by 96 (fold byte_step r a)))
    (run-append b (c ++ d) 0 ∙ ap (λ (n : ℕ). bit_xor (shifted_by n (fold byte_step 0 b)) (fold byte_step 0 (c ++ d))) nc
    ∙ ap (bit_xor (shifted_by 64 (fold byte_step 0 b)))
    (run-append c d 0 ∙ ap (λ (n : ℕ). bit_xor (shifted_by n (fold byte_step 0 c)) (fold byte_step 0 d)) nd))

words_of : (block : List ℕ) → length block ≡ 16 → block ≡ take 4 block ++ (take 4 (drop 4 block) ++ (take 4 (drop 8 block) ++ drop 12 block))
words_of block len =
    let c : drop 8 block ≡ take 4 (drop 8 block) ++ drop 12 block = sym (take-append-drop 4 (drop 8 block)) ∙ ap (λ (t : List ℕ). take 4 (drop 8 block) ++ t) (drop-drop 4 8 block) in
    let b : drop 4 block ≡ take 4 (drop 4 block) ++ drop 8 block = sym (take-append-drop 4 (drop 4 block)) ∙ ap (λ (t : List ℕ). take 4 (drop 4 block) ++ t) (drop-drop 4 4 block) in
    sym (take-append-drop 4 block) ∙ ap (λ (t : List ℕ). take 4 block ++ t) (b ∙ ap (λ (t : List ℕ). take 4 (drop 4 block) ++ t) c)

-- What the look-ups of a block's words add up to.
pub block_is : (block : List ℕ) (r v w0 w1 w2 w3 a b c d : ℕ) → length block ≡ 16 → r < 2 ^ 32 → w0 < 2 ^ 32 → v ≡ bit_xor r w0
    → to_le_bytes w32 w0 ≡ take 4 (drop 0 block) → to_le_bytes w32 w1 ≡ take 4 (drop 4 block) → to_le_bytes w32 w2 ≡ take 4 (drop 8 block) → to_le_bytes w32 w3 ≡ take 4 (drop 12 block)
    → a ≡ shifted_by 96 (fold byte_step 0 (to_le_bytes w32 v)) → b ≡ shifted_by 64 (fold byte_step 0 (to_le_bytes w32 w1))
    → c ≡ shifted_by 32 (fold byte_step 0 (to_le_bytes w32 w2)) → d ≡ shifted_by 0 (fold byte_step 0 (to_le_bytes w32 w3))
    → bit_xor a (bit_xor (bit_xor b c) d) ≡ fold byte_step r block
block_is block r v w0 w1 w2 w3 a b c d len small_r small_w is t0 t1 t2 t3 pa pb pc pd =
    let lb : length (take 4 (drop 4 block)) ≡ 4 = omega (arith, length-take 4 (drop 4 block), length-drop 4 block) in
    let lc : length (take 4 (drop 8 block)) ≡ 4 = omega (arith, length-take 4 (drop 8 block), length-drop 8 block) in
    let ld : length (drop 12 block) ≡ 4 = omega (arith, length-drop 12 block) in
    let first : a ≡ shifted_by 96 (fold byte_step r (take 4 block)) =
    pa ∙ ap (λ (x : ℕ). shifted_by 96 (fold byte_step 0 (to_le_bytes w32 x))) is ∙ ap (shifted_by 96) (mixed_is r w0 small_r small_w ∙ ap (fold byte_step r) t0) in
    let last : d ≡ fold byte_step 0 (drop 12 block) =
    pd ∙ shifted_by-zero _ ∙ ap (fold byte_step 0) (t3 ∙ ap (λ (n : ℕ). take n (drop 12 block)) (sym ld) ∙ take-length (drop 12 block)) in
    ap (bit_xor a) (xor_assoc b c d)
    ∙ joined _ _ _ _ _ _ _ _ first (pb ∙ ap (λ (t : List ℕ). shifted_by 64 (fold byte_step 0 t)) t1) (pc ∙ ap (λ (t : List ℕ). shifted_by 32 (fold byte_step 0 t)) t2) last
    ∙ sym (ap (fold byte_step r) (words_of block len) ∙ four_words (take 4 block) (take 4 (drop 4 block)) (take 4 (drop 8 block)) (drop 12 block) r lb lc ld)
  where
    joined : (w x y z w' x' y' z' : ℕ) → w ≡ w' → x ≡ x' → y ≡ y' → z ≡ z' → bit_xor w (bit_xor x (bit_xor y z)) ≡ bit_xor w' (bit_xor x' (bit_xor y' z'))
    joined w x y z w' x' y' z' p q r s = cc
