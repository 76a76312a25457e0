-- Files hold one list at most, and none where they are damaged.
use Rattle.std.proofs.Common.{◌≡◌, ◌≢◌, inl, inr, ℕ, List, [], ◌∷◌, ◌++◌, length, take, drop, refl, sym, ◌∙◌, ap, arith, append_assoc}
use Rattle.std.specs.Prelude.{All}
use Rattle.std.specs.Int.{w32, to_be_bytes, from_be_bytes}
use Rattle.std.proofs.lemmas.Nat.{from_be_bytes-to_be_bytes_4}
use Rattle.std.proofs.lemmas.List.{take_at, drop_at, append_cancel_left}
use Rattle.std.proofs.lemmas.List.Elements.{All-head, All-tail}
use Rattle.weed_base.specs.Files.{Files, content}
use Rattle.meta_log.specs.Segment.{IsShort, framed, item, items, IsSegment}
use Rattle.meta_log.specs.LogText.{HasText, segment_name}
use Rattle.meta_log.specs.declared.stem.Stem.{Stem}
use Rattle.meta_log.proofs.Frames.{length-to_be_bytes}

pub tails : (a b : ℕ) (xs ys : List ℕ) → a ∷ xs ≡ b ∷ ys → xs ≡ ys
tails a b xs ys same = cc

pub heads : (a b : ℕ) (xs ys : List ℕ) → a ∷ xs ≡ b ∷ ys → a ≡ b
heads a b xs ys same = cc

-- no frame begins another
pub frame_unique : (a b xs ys : List ℕ) → IsShort a → IsShort b → framed a ++ xs ≡ framed b ++ ys → (a ≡ b) × (xs ≡ ys)
unfolding framed
frame_unique a b xs ys short_a short_b same =
    let la = to_be_bytes w32 (length a) in
    let lb = to_be_bytes w32 (length b) in
    let apart : la ++ (a ++ xs) ≡ lb ++ (b ++ ys) = sym (append_assoc la a xs) ∙ same ∙ append_assoc lb b ys in
    let lengths : la ≡ lb = sym (take_at la (a ++ xs) 4 (length-to_be_bytes (length a))) ∙ ap (take 4) apart ∙ take_at lb (b ++ ys) 4 (length-to_be_bytes (length b)) in
    let counted : length a ≡ length b =
    sym (from_be_bytes-to_be_bytes_4 (length a) (omega (arith, short_a))) ∙ ap (from_be_bytes w32) lengths ∙ from_be_bytes-to_be_bytes_4 (length b) (omega (arith, short_b)) in
    let bodies : a ++ xs ≡ b ++ ys = append_cancel_left lb (a ++ xs) (b ++ ys) (ap (λ (l : List ℕ). l ++ (a ++ xs)) (sym lengths) ∙ apart) in (
      sym (take_at a xs (length a) refl) ∙ ap (take (length a)) bodies ∙ take_at b ys (length a) (sym counted),
      sym (drop_at a xs (length a) refl) ∙ ap (drop (length a)) bodies ∙ drop_at b ys (length a) (sym counted),
    )

cons : (a b : List ℕ) (xs ys : List (List ℕ)) → a ≡ b → xs ≡ ys → a ∷ xs ≡ b ∷ ys
cons a b xs ys p q i = p i ∷ q i

-- gates that aren't open end the items at one place
pub items_unique : (p q : List (List ℕ)) (g h : ℕ) (r s : List ℕ) → g ≢ 1 → h ≢ 1 → All IsShort p → All IsShort q → items p ++ g ∷ r ≡ items q ++ h ∷ s → p ≡ q
items_unique [] [] g h r s shut_g shut_h short_p short_q same = refl
items_unique [] (b ∷ q) g h r s shut_g shut_h short_p short_q same = absurd (shut_g (heads g 1 _ _ (same ∙ append_assoc (item b) (items q) (h ∷ s))))
items_unique (a ∷ p) [] g h r s shut_g shut_h short_p short_q same = absurd (shut_h (heads h 1 _ _ (sym same ∙ append_assoc (item a) (items p) (g ∷ r))))
items_unique (a ∷ p) (b ∷ q) g h r s shut_g shut_h short_p short_q same =
    let apart = tails 1 1 _ _ (sym (append_assoc (item a) (items p) (g ∷ r)) ∙ same ∙ append_assoc (item b) (items q) (h ∷ s)) in
    let parts = frame_unique a b _ _ (All-head IsShort a p short_p) (All-head IsShort b q short_q) apart in
    cons a b p q parts.0 (items_unique p q g h r s shut_g shut_h (All-tail IsShort a p short_p) (All-tail IsShort b q short_q) parts.1)

pub segment_unique : (bytes : List ℕ) (p q : List (List ℕ)) → IsSegment bytes p → IsSegment bytes q → p ≡ q
segment_unique bytes p q one two = items_unique p q one.gate two.gate one.rest two.rest one.closed two.closed one.short two.short (sym one.spelled ∙ two.spelled)

-- one list a disk
pub text_unique : (Allowed Also : List (List ℕ) → Type 0) (stem : Stem) (files : Files) (p q : List (List ℕ)) → HasText Allowed stem files p → HasText Also stem files q → p ≡ q
text_unique Allowed Also stem files p q (inl one) (inl two) = one.1 ∙ sym two.1
text_unique Allowed Also stem files p q (inl one) (inr two) = absurd (one.0 1 (omega arith) (omega arith) two.counts)
text_unique Allowed Also stem files p q (inr one) (inl two) = absurd (two.0 1 (omega arith) (omega arith) one.counts)
text_unique Allowed Also stem files p q (inr one) (inr two) = segment_unique (content files (segment_name stem 1)) p q one.segment two.segment
