-- The item whose size counts some bytes.
use Rattle.std.proofs.Common.{◌≡◌, ◌≢◌, ℕ, ◌^◌, ◌<◌, Bool, true, false, cond, List, [], ◌∷◌, length, Option, Some, None, Result, Ok, Err, refl, sym, ap, subst, ◌∙◌, arith, inl, inr}
use Rattle.std.proofs.lemmas.Bool.{eq-eqb, ne_eqb, cases_eq}
use Rattle.std.proofs.lemmas.Option.{none-some}
use Rattle.needle.specs.declared.fault.NeedleFault.{NeedleFault}
use Rattle.needle.specs.declared.fault.NeedleFault.TheVariants.{BadVersion, BadPlacement, ReservedSet, Truncated, SizeMismatch, Compressed, Manifest, ChecksumMismatch, Memory}
use Rattle.needle.specs.declared.item.Item.{Item}
use Rattle.needle.specs.declared.item.Item.TheVariants.{Live, Gone}
use Rattle.needle.specs.declared.item.Needle.{Needle}
use Rattle.needle.specs.Answer.{IsItem}
use Rattle.needle.specs.Crc.{checksum}
use Rattle.needle.specs.Item.{Marks, unmarked, flags, counted, content, body_of, cookie_of, key_of, IsNeedle}
use Rattle.needle.specs.Reading.{Contents, has_flag, contents_at, needle_from, check_sum, check_marks, behind, live_at, item_at}
use Rattle.needle.proofs.Codecs.{IsBytes}
use Rattle.needle.proofs.Flagged.{flags_tell}
use Rattle.needle.proofs.ContentsRead.{marks_from, contents_take, contents_again}

-- ---- the two checks

check_sum_same : (stored : ℕ) (body : List ℕ) → stored ≡ checksum body → check_sum stored body ≡ Ok tt
check_sum_same stored body e = ap (λ (b : Bool). cond b (Ok tt) (Err (ChecksumMismatch stored (checksum body)))) (eq-eqb stored (checksum body) e)

check_sum_other : (stored : ℕ) (body : List ℕ) → stored ≢ checksum body → check_sum stored body ≡ Err (ChecksumMismatch stored (checksum body))
check_sum_other stored body e = ap (λ (b : Bool). cond b (Ok tt) (Err (ChecksumMismatch stored (checksum body)))) (ne_eqb stored (checksum body) e)

-- the answer for marks
abbrev of_marks : Bool → Bool → Bool → Result (Unit {0}) NeedleFault
of_marks reserved compressed manifest = cond reserved (Err ReservedSet) (cond compressed (Err Compressed) (cond manifest (Err Manifest) (Ok tt)))

abbrev marked : Marks → Result (Unit {0}) NeedleFault
marked marks = of_marks marks.reserved marks.compressed marks.manifest

check_marks-is : (marks : Marks) (needle : Needle) → check_marks (flags marks needle) ≡ marked marks
check_marks-is marks needle =
    let tells = flags_tell marks needle in
    same _ _ _ _ _ _ tells.reserved tells.compressed tells.manifest
  where
    same : (a b c d e f : Bool) → a ≡ d → b ≡ e → c ≡ f
        → of_marks a b c ≡ of_marks d e f
    same a b c d e f p q r = cc

-- ---- a needle

-- the needle with another cookie and key
abbrev under : ℕ → ℕ → Needle → Needle
under cookie key needle = record needle { cookie = cookie; key = key }

pub item_at-live : (cookie key : ℕ) (bytes : List ℕ) (stored : ℕ) → 0 < length bytes → item_at cookie key bytes stored ≡ live_at cookie key (contents_at bytes) stored
unfolding item_at
item_at-live cookie key bytes stored filled =
    ap (λ (b : Bool). cond b (behind (check_sum stored []) (λ _. Ok (Gone cookie key))) (live_at cookie key (contents_at bytes) stored))
    (ne_eqb (length bytes) 0 (λ (e : length bytes ≡ 0). omega (arith, filled, e)))

pub item_at-gone : (cookie key : ℕ) (stored : ℕ) → item_at cookie key [] stored ≡ behind (check_sum stored []) (λ _. Ok (Gone cookie key))
unfolding item_at
item_at-gone cookie key stored = refl

abbrev summed : ℕ → ℕ → Needle → ℕ → Result (Unit {0}) NeedleFault → Result Item NeedleFault
summed cookie key needle stored marks = behind marks (λ _. behind (check_sum stored needle.body) (λ _. Ok (Live (under cookie key needle))))

counted_filled : (marks : Marks) (needle : Needle) → 0 < length (counted marks needle)
counted_filled marks needle = omega arith

-- What is spelled so, under its checks.
live_again : (cookie key : ℕ) (marks : Marks) (needle : Needle) (stored : ℕ) → IsNeedle needle
    → item_at cookie key (counted marks needle) stored ≡ summed cookie key needle stored (marked marks)
live_again cookie key marks needle stored fits =
    item_at-live cookie key (counted marks needle) stored (counted_filled marks needle)
    ∙ ap (λ (r : Option Contents). live_at cookie key r stored) (contents_again marks needle fits)
    ∙ ap (summed cookie key needle stored) (check_marks-is marks needle)

none_marked : (a b d : Bool) → a ≡ false → b ≡ false → d ≡ false → ◌≡◌ {A = Marks} (record { compressed = a; reserved = b; manifest = d }) unmarked
none_marked a b d p q r = cc

-- ---- the outcome, and what it says

-- When each refusal comes, by what the size counts.
abbrev pub ItemRefused : List ℕ → ℕ → NeedleFault → Type 0
ItemRefused bytes stored SizeMismatch = (0 < length bytes) × ((marks : Marks) (needle : Needle) → IsNeedle needle → bytes ≡ counted marks needle → ⊥)
ItemRefused bytes stored ReservedSet = (marks : Marks) × (needle : Needle) × IsNeedle needle × (bytes ≡ counted marks needle) × (marks.reserved ≡ true)
ItemRefused bytes stored Compressed =
    (marks : Marks) × (needle : Needle) × IsNeedle needle × (bytes ≡ counted marks needle) × (marks.reserved ≡ false) × (marks.compressed ≡ true)
ItemRefused bytes stored Manifest =
    (marks : Marks) × (needle : Needle) × IsNeedle needle × (bytes ≡ counted marks needle) × (marks.reserved ≡ false) × (marks.compressed ≡ false) × (marks.manifest ≡ true)
ItemRefused bytes stored (ChecksumMismatch s c) =
    (item : Item) × IsItem item × (bytes ≡ content item) × (s ≡ stored) × (c ≡ checksum (body_of item)) × (s ≢ c)
ItemRefused bytes stored _ = ⊥

pub record IsFound (bytes : List ℕ) (cookie key stored : ℕ) (item : Item) : Type 0 where
  pub fits : IsItem item
  pub spelled : bytes ≡ content item
  pub cookie_is : cookie ≡ cookie_of item
  pub key_is : key ≡ key_of item
  pub sum_is : stored ≡ checksum (body_of item)

abbrev pub Outcome : List ℕ → ℕ → ℕ → ℕ → Result Item NeedleFault → Type 0
Outcome bytes cookie key stored (Ok item) = IsFound bytes cookie key stored item
Outcome bytes cookie key stored (Err fault) = ItemRefused bytes stored fault

-- the outcome of an item without a mark
summed_outcome : (bytes : List ℕ) (cookie key stored : ℕ) (item : Item) → IsItem item → bytes ≡ content item → cookie ≡ cookie_of item → key ≡ key_of item
    → Outcome bytes cookie key stored (behind (check_sum stored (body_of item)) (λ _. Ok item))
summed_outcome bytes cookie key stored item fits spelled cookie_is key_is =
    elim (cases_eq stored (checksum (body_of item))) [
      | inl same ↦ subst (λ (c : Result (Unit {0}) NeedleFault). Outcome bytes cookie key stored (behind c (λ _. Ok item))) (sym (check_sum_same stored (body_of item) same))
          (record { fits = fits; spelled = spelled; cookie_is = cookie_is; key_is = key_is; sum_is = same })
      | inr other ↦ subst (λ (c : Result (Unit {0}) NeedleFault). Outcome bytes cookie key stored (behind c (λ _. Ok item))) (sym (check_sum_other stored (body_of item) other))
          (item, fits, spelled, refl, refl, other)
    ]

live_outcome : (bytes : List ℕ) (cookie key stored : ℕ) (r : Option Contents) → IsBytes bytes → length bytes < 2 ^ 32 → cookie < 2 ^ 32 → key < 2 ^ 64 → 0 < length bytes
    → contents_at bytes ≡ r → Outcome bytes cookie key stored (live_at cookie key r stored)
live_outcome bytes cookie key stored None fits short cookie_fits key_fits filled e =
    (filled, λ marks needle is spelled. none-some _ (sym e ∙ ap contents_at spelled ∙ contents_again marks needle is))
live_outcome bytes cookie key stored (Some c) fits short cookie_fits key_fits filled e =
    let is = contents_take bytes c cookie key fits short cookie_fits key_fits e in
    go (marks_from c.flags) (needle_from cookie key c) is.spelled is.fits refl refl (has_flag c.flags 64) (has_flag c.flags 1) (has_flag c.flags 128) refl refl refl
  where
    go : (marks : Marks) (needle : Needle) → bytes ≡ counted marks needle → IsNeedle needle → cookie ≡ needle.cookie → key ≡ needle.key
        → (a b d : Bool) → marks.reserved ≡ a → marks.compressed ≡ b → marks.manifest ≡ d
        → Outcome bytes cookie key stored (behind (of_marks a b d) (λ _. behind (check_sum stored needle.body) (λ _. Ok (Live needle))))
    go marks needle spelled is cookie_is key_is true b d reserved compressed manifest = (marks, needle, is, spelled, reserved)
    go marks needle spelled is cookie_is key_is false true d reserved compressed manifest = (marks, needle, is, spelled, reserved, compressed)
    go marks needle spelled is cookie_is key_is false false true reserved compressed manifest = (marks, needle, is, spelled, reserved, compressed, manifest)
    go marks needle spelled is cookie_is key_is false false false reserved compressed manifest =
        summed_outcome bytes cookie key stored (Live needle) is
        (spelled ∙ ap (λ (m : Marks). counted m needle) (none_marked _ _ _ compressed reserved manifest)) cookie_is key_is

pub outcome : (bytes : List ℕ) (cookie key stored : ℕ) → IsBytes bytes → length bytes < 2 ^ 32 → cookie < 2 ^ 32 → key < 2 ^ 64
    → Outcome bytes cookie key stored (item_at cookie key bytes stored)
outcome [] cookie key stored fits short cookie_fits key_fits =
    subst (Outcome [] cookie key stored) (sym (item_at-gone cookie key stored))
    (summed_outcome [] cookie key stored (Gone cookie key) (cookie_fits, key_fits) refl refl refl)
outcome (byte ∷ bytes) cookie key stored fits short cookie_fits key_fits =
    let filled : 0 < length (byte ∷ bytes) = omega arith in
    subst (Outcome (byte ∷ bytes) cookie key stored) (sym (item_at-live cookie key (byte ∷ bytes) stored filled))
    (live_outcome (byte ∷ bytes) cookie key stored (contents_at (byte ∷ bytes)) fits short cookie_fits key_fits filled refl)

-- ---- the converse

-- bytes that no needle is spelled by
size_refused : (bytes : List ℕ) (cookie key stored : ℕ) (r : Option Contents) → IsBytes bytes → length bytes < 2 ^ 32 → cookie < 2 ^ 32 → key < 2 ^ 64
    → ((marks : Marks) (needle : Needle) → IsNeedle needle → bytes ≡ counted marks needle → ⊥) → contents_at bytes ≡ r → live_at cookie key r stored ≡ Err SizeMismatch
size_refused bytes cookie key stored None fits short cookie_fits key_fits none e = refl
size_refused bytes cookie key stored (Some c) fits short cookie_fits key_fits none e =
    let is = contents_take bytes c cookie key fits short cookie_fits key_fits e in absurd (none (marks_from c.flags) (needle_from cookie key c) is.fits is.spelled)

-- a needle that is spelled so, and its marks
marked_refused : (bytes : List ℕ) (cookie key stored : ℕ) (marks : Marks) (needle : Needle) (fault : NeedleFault) → IsNeedle needle → bytes ≡ counted marks needle
    → marked marks ≡ Err fault → item_at cookie key bytes stored ≡ Err fault
marked_refused bytes cookie key stored marks needle fault fits spelled is =
    ap (λ (b : List ℕ). item_at cookie key b stored) spelled ∙ live_again cookie key marks needle stored fits ∙ ap (summed cookie key needle stored) is

-- an item of another checksum
damage_refused : (bytes : List ℕ) (cookie key stored : ℕ) (item : Item) → IsItem item → bytes ≡ content item → stored ≢ checksum (body_of item)
    → item_at cookie key bytes stored ≡ Err (ChecksumMismatch stored (checksum (body_of item)))
damage_refused bytes cookie key stored (Live needle) fits spelled other =
    ap (λ (b : List ℕ). item_at cookie key b stored) spelled ∙ live_again cookie key unmarked needle stored fits
    ∙ ap (λ (c : Result (Unit {0}) NeedleFault). behind c (λ _. Ok (Live (under cookie key needle)))) (check_sum_other stored needle.body other)
damage_refused bytes cookie key stored (Gone c k) fits spelled other =
    ap (λ (b : List ℕ). item_at cookie key b stored) spelled ∙ item_at-gone cookie key stored
    ∙ ap (λ (c : Result (Unit {0}) NeedleFault). behind c (λ _. Ok (Gone cookie key))) (check_sum_other stored [] other)

reserved_is : (marks : Marks) → marks.reserved ≡ true → marked marks ≡ Err ReservedSet
reserved_is marks a = ap (λ (b : Bool). cond b (Err ReservedSet) (cond marks.compressed (Err Compressed) (cond marks.manifest (Err Manifest) (Ok tt)))) a

compressed_is : (marks : Marks) → marks.reserved ≡ false → marks.compressed ≡ true → marked marks ≡ Err Compressed
compressed_is marks a b = rw (a, b) refl

manifest_is : (marks : Marks) → marks.reserved ≡ false → marks.compressed ≡ false → marks.manifest ≡ true → marked marks ≡ Err Manifest
manifest_is marks a b d = rw (a, b, d) refl

pub item_refused : (bytes : List ℕ) (cookie key stored : ℕ) (fault : NeedleFault) → IsBytes bytes → length bytes < 2 ^ 32 → cookie < 2 ^ 32 → key < 2 ^ 64
    → ItemRefused bytes stored fault → item_at cookie key bytes stored ≡ Err fault
item_refused bytes cookie key stored SizeMismatch fits short cookie_fits key_fits why =
    item_at-live cookie key bytes stored why.0 ∙ size_refused bytes cookie key stored (contents_at bytes) fits short cookie_fits key_fits why.1 refl
item_refused bytes cookie key stored ReservedSet fits short cookie_fits key_fits (marks, needle, is, spelled, a) =
    marked_refused bytes cookie key stored marks needle ReservedSet is spelled (reserved_is marks a)
item_refused bytes cookie key stored Compressed fits short cookie_fits key_fits (marks, needle, is, spelled, a, b) =
    marked_refused bytes cookie key stored marks needle Compressed is spelled (compressed_is marks a b)
item_refused bytes cookie key stored Manifest fits short cookie_fits key_fits (marks, needle, is, spelled, a, b, d) =
    marked_refused bytes cookie key stored marks needle Manifest is spelled (manifest_is marks a b d)
item_refused bytes cookie key stored (ChecksumMismatch s c) fits short cookie_fits key_fits (item, is, spelled, s_is, c_is, other) =
    damage_refused bytes cookie key stored item is spelled (λ (e : stored ≡ checksum (body_of item)). other (s_is ∙ e ∙ sym c_is))
    ∙ same_fault _ _ _ _ (sym s_is) (sym c_is)
  where
    same_fault : (a b d e : ℕ) → a ≡ d → b ≡ e → ◌≡◌ {A = Result Item NeedleFault} (Err (ChecksumMismatch a b)) (Err (ChecksumMismatch d e))
    same_fault a b d e p q = cc
item_refused bytes cookie key stored BadVersion fits short cookie_fits key_fits why = absurd why
item_refused bytes cookie key stored BadPlacement fits short cookie_fits key_fits why = absurd why
item_refused bytes cookie key stored Truncated fits short cookie_fits key_fits why = absurd why
item_refused bytes cookie key stored Memory fits short cookie_fits key_fits why = absurd why

pub item_again : (item : Item) → IsItem item → item_at (cookie_of item) (key_of item) (content item) (checksum (body_of item)) ≡ Ok item
item_again (Live needle) fits =
    live_again needle.cookie needle.key unmarked needle (checksum needle.body) fits
    ∙ ap (λ (c : Result (Unit {0}) NeedleFault). behind c (λ _. Ok (Live needle))) (check_sum_same (checksum needle.body) needle.body refl)
item_again (Gone cookie key) fits =
    item_at-gone cookie key (checksum []) ∙ ap (λ (c : Result (Unit {0}) NeedleFault). behind c (λ _. Ok (Gone cookie key))) (check_sum_same (checksum []) [] refl)
