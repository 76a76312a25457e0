-- A superblock is told by its text.
use Rattle.std.proofs.Common.{◌≡◌, ℕ, zero, suc, ◌^◌, ◌<◌, ◌≤◌, List, [], ◌∷◌, ◌++◌, length, get_or, take, drop, Result, Ok, Err, refl, sym, ap, subst, ◌∙◌, append_assoc, arith}
use Rattle.std.proofs.Props.{props}
use Rattle.std.specs.Prelude.{IfOk, ◌↔◌}
use Rattle.std.specs.Int.{w16, to_be_bytes, from_be_bytes}
use Rattle.std.proofs.lemmas.List.{take_at, drop_at, get_or-drop}
use Rattle.std.proofs.lemmas.List.{length-append}
use Rattle.std.proofs.lemmas.Slice.Eq.{text_from_reads}
use Rattle.std.proofs.lemmas.Nat.{be_bytes_2, from_be_bytes-to_be_bytes_2}
use Rattle.needle.specs.declared.fault.NeedleFault.{NeedleFault}
use Rattle.needle.specs.declared.fault.NeedleFault.TheVariants.{BadVersion, BadPlacement, ReservedSet}
use Rattle.needle.specs.declared.placement.Placement.{Placement}
use Rattle.needle.specs.declared.superblock.SuperBlock.{SuperBlock}
use Rattle.needle.specs.declared.version.Version.{Version}
use Rattle.needle.specs.declared.version.Version.TheVariants.{V2, V3}
use Rattle.needle.specs.Layout.{version_byte}
use Rattle.needle.specs.SuperBlock.{placement_byte, superblock_text, HasVersion, HasPlacement, HasZeros, IsBlockRefused, SuperBlockAnswer}

version_byte-injective : (a b : Version) → version_byte a ≡ version_byte b → a ≡ b
version_byte-injective V2 V2 e = refl
version_byte-injective V2 V3 e = absurd (omega arith)
version_byte-injective V3 V2 e = absurd (omega arith)
version_byte-injective V3 V3 e = refl

-- ---- placements

record Digits : Type 0 where
  x : ℕ
  y : ℕ
  z : ℕ

abbrev InRange : Digits → Type 0
InRange d = (d.x ≤ 2) × (d.y ≤ 2) × (d.z ≤ 2)

abbrev placed : (d : Digits) → InRange d → Placement
placed d h = record { x = d.x; y = d.y; z = d.z; in_range = h }

placed-same : (d e : Digits) → d ≡ e → (h : InRange d) (k : InRange e) → placed d h ≡ placed e k
placed-same d e same h k =
    let once : IsProp (InRange d) = hlevel props in
    subst (λ (f : Digits). (k : InRange f) → placed d h ≡ placed f k) same (λ k. ap (placed d) (once h k)) k

placement_byte-injective : (p q : Placement) → placement_byte p ≡ placement_byte q → p ≡ q
placement_byte-injective p q e =
    let x : p.x ≡ q.x = omega (arith, p.in_range, q.in_range) in
    let y : p.y ≡ q.y = omega (arith, p.in_range, q.in_range) in
    let z : p.z ≡ q.z = omega (arith, p.in_range, q.in_range) in
    let d : Digits = record { x = p.x; y = p.y; z = p.z } in
    let f : Digits = record { x = q.x; y = q.y; z = q.z } in
    let same : d ≡ f = cc in
    placed-same d f same p.in_range q.in_range

-- ---- the eight bytes

pair_small : (a b : ℕ) → a < 256 → b < 256 → (i : ℕ) → get_or (a ∷ b ∷ []) i 0 < 256
pair_small a b h k zero = h
pair_small a b h k (suc zero) = k
pair_small a b h k (suc (suc i)) = omega arith

abbrev eight : ℕ → ℕ → List ℕ → List ℕ → List ℕ
eight version placement ttl revision = version ∷ placement ∷ (ttl ++ revision ++ (0 ∷ 0 ∷ []))

eight-same : (v v' p p' : ℕ) (t t' r r' : List ℕ) → v ≡ v' → p ≡ p' → t ≡ t' → r ≡ r' → eight v p t r ≡ eight v' p' t' r'
eight-same v v' p p' t t' r r' a b c d = cc

-- eight bytes from what was read of them
pub spelled : (text : List ℕ) (version : Version) (placement : Placement) (revision : ℕ) → length text ≡ 8 → get_or text 4 0 < 256 → get_or text 5 0 < 256
    → get_or text 0 0 ≡ version_byte version → get_or text 1 0 ≡ placement_byte placement → revision ≡ from_be_bytes w16 (get_or text 4 0 ∷ get_or text 5 0 ∷ [])
    → get_or text 6 0 ≡ 0 → get_or text 7 0 ≡ 0
    → text ≡ superblock_text (record { version = version; placement = placement; ttl = get_or text 2 0 ∷ get_or text 3 0 ∷ []; revision = revision })
spelled text version placement revision long high low version_is placement_is revision_is before_last last =
    let pair : List ℕ = get_or text 4 0 ∷ get_or text 5 0 ∷ [] in
    let written : to_be_bytes w16 revision ≡ pair = be_bytes_2 pair revision refl (pair_small _ _ high low) revision_is in
    let reads : text ≡ get_or text 0 0 ∷ get_or text 1 0 ∷ ((get_or text 2 0 ∷ get_or text 3 0 ∷ []) ++ pair ++ (0 ∷ 0 ∷ [])) =
    text_from_reads text _ long (refl, (refl, (refl, (refl, (refl, (refl, (before_last, (last, tt)))))))) in
    let ttl : List ℕ = get_or text 2 0 ∷ get_or text 3 0 ∷ [] in
    reads ∙ eight-same _ _ _ _ ttl ttl _ _ version_is placement_is refl (sym written)

-- a text of eight bytes has a TTL of two
two_long : (text : List ℕ) (block : SuperBlock) → length text ≡ 8 → text ≡ superblock_text block → length block.ttl ≡ 2
two_long text block long e =
    let same : length text ≡ suc (suc (length (block.ttl ++ to_be_bytes w16 block.revision ++ (0 ∷ 0 ∷ [])))) = ap length e in
    omega (arith, same, long, length-append block.ttl (to_be_bytes w16 block.revision), length-append (block.ttl ++ to_be_bytes w16 block.revision) (0 ∷ 0 ∷ []))

made : Version → Placement → List ℕ → ℕ → SuperBlock
made version placement ttl revision = record { version = version; placement = placement; ttl = ttl; revision = revision }

block-same : (v v' : Version) (p p' : Placement) (t t' : List ℕ) (r r' : ℕ) → v ≡ v' → p ≡ p' → t ≡ t' → r ≡ r' → made v p t r ≡ made v' p' t' r'
block-same v v' p p' t t' r r' a b c d = cc

-- what stands behind the first two bytes
abbrev behind : SuperBlock → List ℕ
behind block = block.ttl ++ (to_be_bytes w16 block.revision ++ (0 ∷ 0 ∷ []))

-- one text, one superblock
superblock_text-injective : (text : List ℕ) (a b : SuperBlock) → length text ≡ 8 → a.revision < 2 ^ 16 → b.revision < 2 ^ 16
    → text ≡ superblock_text a → text ≡ superblock_text b → a ≡ b
unfolding made
superblock_text-injective text a b long fits_a fits_b spells_a spells_b =
    let ttl_a = two_long text a long spells_a in
    let ttl_b = two_long text b long spells_b in
    let same : superblock_text a ≡ superblock_text b = sym spells_a ∙ spells_b in
    let version : a.version ≡ b.version = version_byte-injective a.version b.version (ap (λ (t : List ℕ). get_or t 0 0) same) in
    let placement : a.placement ≡ b.placement = placement_byte-injective a.placement b.placement (ap (λ (t : List ℕ). get_or t 1 0) same) in
    let back : behind a ≡ behind b =
    sym (append_assoc a.ttl (to_be_bytes w16 a.revision) (0 ∷ 0 ∷ [])) ∙ ap (drop 2) same ∙ append_assoc b.ttl (to_be_bytes w16 b.revision) (0 ∷ 0 ∷ []) in
    let ttl : a.ttl ≡ b.ttl = sym (take_at a.ttl (to_be_bytes w16 a.revision ++ (0 ∷ 0 ∷ [])) 2 ttl_a) ∙ ap (take 2) back ∙ take_at b.ttl (to_be_bytes w16 b.revision ++ (0 ∷ 0 ∷ [])) 2 ttl_b in
    let bytes : to_be_bytes w16 a.revision ++ (0 ∷ 0 ∷ []) ≡ to_be_bytes w16 b.revision ++ (0 ∷ 0 ∷ []) =
    sym (drop_at a.ttl (to_be_bytes w16 a.revision ++ (0 ∷ 0 ∷ [])) 2 ttl_a) ∙ ap (drop 2) back ∙ drop_at b.ttl (to_be_bytes w16 b.revision ++ (0 ∷ 0 ∷ [])) 2 ttl_b in
    let revision : a.revision ≡ b.revision =
    sym (from_be_bytes-to_be_bytes_2 a.revision fits_a) ∙ ap (λ (t : List ℕ). from_be_bytes w16 (take 2 t)) bytes ∙ from_be_bytes-to_be_bytes_2 b.revision fits_b in
    block-same _ _ _ _ _ _ _ _ version placement ttl revision

-- a spelled text has all that a refusal wants
spells-has : (text : List ℕ) (block : SuperBlock) → length text ≡ 8 → text ≡ superblock_text block → HasVersion text × HasPlacement text × HasZeros text
spells-has text block long spells =
    let ttl = two_long text block long spells in
    let back : drop 4 text ≡ to_be_bytes w16 block.revision ++ (0 ∷ 0 ∷ []) =
    ap (drop 4) spells ∙ ap (drop 2) (append_assoc block.ttl (to_be_bytes w16 block.revision) (0 ∷ 0 ∷ [])) ∙ drop_at block.ttl (to_be_bytes w16 block.revision ++ (0 ∷ 0 ∷ [])) 2 ttl in (
      (block.version, ap (λ (t : List ℕ). get_or t 0 0) spells),
      (block.placement, ap (λ (t : List ℕ). get_or t 1 0) spells),
      (sym (get_or-drop 4 text 2 0) ∙ ap (λ (t : List ℕ). get_or t 2 0) back, sym (get_or-drop 4 text 3 0) ∙ ap (λ (t : List ℕ). get_or t 3 0) back),
    )

never_refused : (text : List ℕ) (fault : NeedleFault) → HasVersion text × HasPlacement text × HasZeros text → IsBlockRefused text fault → ⊥
never_refused text BadVersion has why = why has.0
never_refused text BadPlacement has why = why.1 has.1
never_refused text ReservedSet has why = why.2 has.2
never_refused text _ has why = why

-- What is spelled so is the only answer.
pub only_answer : (text : List ℕ) (block : SuperBlock) (r : Result SuperBlock NeedleFault) → length text ≡ 8
    → IfOk r (λ made. made.revision < 2 ^ 16) → SuperBlockAnswer text r
    → block.revision < 2 ^ 16 → text ≡ superblock_text block → r ≡ Ok block
only_answer text block (Ok made) long fits answer fits_block spells =
    ap Ok (superblock_text-injective text made block long fits fits_block answer spells)
only_answer text block (Err fault) long fits answer fits_block spells = absurd (never_refused text fault (spells-has text block long spells) answer)

-- what the text spells
pub found_answer : (text : List ℕ) (r : Result SuperBlock NeedleFault) → SuperBlockAnswer text r → IfOk r (λ block. text ≡ superblock_text block)
found_answer text (Ok block) answer = answer
found_answer text (Err fault) answer = tt

-- no two refusals at once
one_refusal : (text : List ℕ) (f g : NeedleFault) → IsBlockRefused text f → IsBlockRefused text g → f ≡ g
one_refusal text BadVersion BadVersion p q = refl
one_refusal text BadPlacement BadPlacement p q = refl
one_refusal text ReservedSet ReservedSet p q = refl
one_refusal text BadVersion BadPlacement p q = absurd (p q.0)
one_refusal text BadVersion ReservedSet p q = absurd (p q.0)
one_refusal text BadPlacement BadVersion p q = absurd (q p.0)
one_refusal text BadPlacement ReservedSet p q = absurd (p.1 q.1)
one_refusal text ReservedSet BadVersion p q = absurd (q p.0)
one_refusal text ReservedSet BadPlacement p q = absurd (q.1 p.1)
one_refusal text BadVersion _ p q = absurd q
one_refusal text BadPlacement _ p q = absurd q
one_refusal text ReservedSet _ p q = absurd q
one_refusal text _ _ p q = absurd p

-- Each refusal exactly in its case.
pub refused_answer : (text : List ℕ) (r : Result SuperBlock NeedleFault) → length text ≡ 8 → SuperBlockAnswer text r
    → (fault : NeedleFault) → ((r ≡ Err fault) ↔ IsBlockRefused text fault)
refused_answer text r long answer fault = (λ e. subst (SuperBlockAnswer text) e answer, back r answer)
  where
    back : (r : Result SuperBlock NeedleFault) → SuperBlockAnswer text r → IsBlockRefused text fault → r ≡ Err fault
    back (Ok block) spells why = absurd (never_refused text fault (spells-has text block long spells) why)
    back (Err other) why_other why = ap Err (one_refusal text other fault why_other why)

-- the last two bytes are refused
pub refused_zeros : (text : List ℕ) (version : Version) (placement : Placement) → get_or text 0 0 ≡ version_byte version → get_or text 1 0 ≡ placement_byte placement
    → (get_or text 6 0 ≡ 0 → get_or text 7 0 ≡ 0 → ⊥) → HasVersion text × HasPlacement text × (HasZeros text → ⊥)
refused_zeros text version placement v p set = ((version, v), (placement, p), λ zeros. set zeros.0 zeros.1)
