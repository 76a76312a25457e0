-- What is damaged holds no list, and one file and place are to blame.
use Rattle.std.proofs.Common.{◌≡◌, ◌≢◌, ◌⊎◌, inl, inr, ℕ, ◌+◌, List, [], ◌∷◌, ◌++◌, length, refl, sym, ◌∙◌, ap, subst, arith, append_assoc, length-append}
use Rattle.std.specs.Prelude.{All}
use Rattle.std.proofs.lemmas.List.{take_at, append-nil, get_or-append-add}
use Rattle.std.proofs.lemmas.List.Elements.{All-head, All-tail, All-take}
use Rattle.weed_base.specs.Files.{Files, content}
use Rattle.name_core.specs.declared.change.Record.{Record}
use Rattle.name_core.specs.Log.{TimesRise}
use Rattle.meta_log.specs.Segment.{IsShort, item, items, IsSegment, IsCut, EndsBadly, IsBroken}
use Rattle.meta_log.specs.LogText.{segment_name, IsAllowed, Suits, HasText, HasDamage, IsLogText, IsDamage}
use Rattle.meta_log.specs.Records.{ReadAs, AreRecords}
use Rattle.meta_log.specs.Kept.{IsRecordLog, IsRecordDamage}
use Rattle.meta_log.specs.declared.stem.Stem.{Stem}
use Rattle.meta_log.specs.declared.stem.Stem.TheVariants.{Log}
use Rattle.meta_log.proofs.Unique.{frame_unique, tails, heads}
use Rattle.meta_log.proofs.Lefts.{not_cut}
use Rattle.meta_log.proofs.RecordLogs.{from_log}

cons : (a b : List ℕ) (xs ys : List (List ℕ)) → a ≡ b → xs ≡ ys → a ∷ xs ≡ b ∷ ys
cons a b xs ys p q i = p i ∷ q i

-- Of two lists whose items begin the same bytes one begins the other.
align : (p q : List (List ℕ)) (xs ys : List ℕ) → All IsShort p → All IsShort q → items p ++ xs ≡ items q ++ ys
    → ((more : List (List ℕ)) × (q ≡ p ++ more) × (xs ≡ items more ++ ys)) ⊎ ((next : List ℕ) × (more : List (List ℕ)) × (p ≡ q ++ next ∷ more) × (ys ≡ items (next ∷ more) ++ xs))
align [] q xs ys short_p short_q same = inl (q, refl, same)
align (a ∷ p) [] xs ys short_p short_q same = inr (a, p, refl, sym same)
align (a ∷ p) (b ∷ q) xs ys short_p short_q same =
    let apart = tails 1 1 _ _ (sym (append_assoc (item a) (items p) xs) ∙ same ∙ append_assoc (item b) (items q) ys) in
    let parts = frame_unique a b (items p ++ xs) (items q ++ ys) (All-head IsShort a p short_p) (All-head IsShort b q short_q) apart in
    elim (align p q xs ys (All-tail IsShort a p short_p) (All-tail IsShort b q short_q) parts.1) [
      | inl longer ↦ inl (longer.0, cons b a q (p ++ longer.0) (sym parts.0) longer.1, longer.2)
      | inr longer ↦ inr (longer.0, longer.1, cons a b p (q ++ longer.0 ∷ longer.1) parts.0 longer.2, longer.3)
    ]

module _ (Allowed : List (List ℕ) → Type 0) (closed : (xs ys : List (List ℕ)) → Allowed (xs ++ ys) → Allowed xs) where
  -- where items end badly stands no allowed item
  no_item : (good : List (List ℕ)) (tail : List ℕ) → EndsBadly Allowed good tail → (next : List ℕ) (more : List (List ℕ)) (rest : List ℕ) → IsShort next → Allowed (good ++ next ∷ more) → tail ≢ items (next ∷ more) ++ rest
  no_item good tail ends next more rest short allowed is =
      let spelled = is ∙ append_assoc (item next) (items more) rest in
      let first = closed (good ++ next ∷ []) more (subst Allowed (sym (append_assoc good (next ∷ []) more)) allowed) in
      elim ends [
        | inl none ↦ let e = sym none ∙ spelled in absurd (cc)
        | inr (inl cut) ↦ not_cut next (items more ++ rest) short (subst IsCut (tails 1 1 _ _ (sym cut.1 ∙ spelled)) cut.2)
        | inr (inr refused) ↦
            let same = frame_unique refused.0 next refused.1 (items more ++ rest) refused.3 short (tails 1 1 _ _ (sym refused.2 ∙ spelled)) in
            refused.4 (subst (λ (p : List ℕ). Allowed (good ++ p ∷ [])) (sym same.0) first)
      ]

  -- nor a gate that isn't open
  no_gate : (good : List (List ℕ)) (tail : List ℕ) → EndsBadly Allowed good tail → (gate : ℕ) (rest : List ℕ) → gate ≢ 1 → tail ≢ gate ∷ rest
  no_gate good tail (inl none) gate rest shut is = let e = sym none ∙ is in absurd (cc)
  no_gate good tail (inr (inl cut)) gate rest shut is = shut (heads gate 1 _ _ (sym is ∙ cut.1))
  no_gate good tail (inr (inr refused)) gate rest shut is = shut (heads gate 1 _ _ (sym is ∙ refused.2))

  next_short : (p q more : List (List ℕ)) (next : List ℕ) → q ≡ p ++ next ∷ more → All IsShort q → All IsShort (next ∷ more)
  next_short p q more next is short = λ k d within.
      let whole = subst (All IsShort) is short in
      subst IsShort (get_or-append-add p (next ∷ more) k d) (whole (length p + k) d (omega (arith, within, length-append p (next ∷ more))))

  broken_segment : (bytes : List ℕ) (at : ℕ) (payloads : List (List ℕ)) → IsBroken Allowed bytes at → IsSegment bytes payloads → ¬ Allowed payloads
  broken_segment bytes at payloads broken segment = λ allowed.
      elim (align broken.good payloads broken.tail (segment.gate ∷ segment.rest) broken.short segment.short (sym broken.spelled ∙ segment.spelled)) [
        | inl ([], same, is) ↦ no_gate broken.good broken.tail broken.ends segment.gate segment.rest segment.closed is
        | inl (next ∷ more, same, is) ↦
            let short = All-head IsShort next more (next_short broken.good payloads more next same segment.short) in
            no_item broken.good broken.tail broken.ends next more (segment.gate ∷ segment.rest) short (subst Allowed same allowed) is
        | inr (next, more, same, is) ↦ segment.closed (heads segment.gate 1 _ _ (is ∙ append_assoc (item next) (items more) broken.tail))
      ]

  -- the place is one
  pub place_unique : (bytes : List ℕ) (a b : ℕ) → IsBroken Allowed bytes a → IsBroken Allowed bytes b → a ≡ b
  place_unique bytes a b one two =
      elim (align one.good two.good one.tail two.tail one.short two.short (sym one.spelled ∙ two.spelled)) [
        | inl ([], same, is) ↦ one.place ∙ ap (λ (ps : List (List ℕ)). length (items ps)) (sym (append-nil one.good) ∙ sym same) ∙ sym two.place
        | inl (next ∷ more, same, is) ↦
            let short = All-head IsShort next more (next_short one.good two.good more next same two.short) in
            absurd (no_item one.good one.tail one.ends next more two.tail short (subst Allowed same two.allowed) is)
        | inr (next, more, same, is) ↦
            let short = All-head IsShort next more (next_short two.good one.good more next same one.short) in
            absurd (no_item two.good two.tail two.ends next more one.tail short (subst Allowed same one.allowed) is)
      ]

  -- What is damaged holds no allowed list.
  pub no_text : (stem : Stem) (files : Files) (name : List ℕ) (at : ℕ) (payloads : List (List ℕ)) → HasDamage Allowed stem files name at → ¬ HasText Allowed stem files payloads
  no_text stem files name at payloads (inl gap) (inl none) = none.0 gap.0.0 (omega (arith, gap.0.1)) gap.0.2 gap.0.3
  no_text stem files name at payloads (inl gap) (inr held) = held.alone gap.0.0 gap.0.1 gap.0.2 gap.0.3
  no_text stem files name at payloads (inr (inl second)) (inl none) = none.0 1 (omega arith) (omega arith) second.1
  no_text stem files name at payloads (inr (inl second)) (inr held) = held.alone second.0.0 second.0.1 second.0.2 second.0.3
  no_text stem files name at payloads (inr (inr broken)) (inl none) = none.0 1 (omega arith) (omega arith) broken.1
  no_text stem files name at payloads (inr (inr broken)) (inr held) = broken_segment (content files (segment_name stem 1)) at payloads broken.3 held.segment held.allowed

  -- One file and place are to blame.
  pub damage_unique : (stem : Stem) (files : Files) (one two : List ℕ) (a b : ℕ) → HasDamage Allowed stem files one a → HasDamage Allowed stem files two b → (one ≡ two) × (a ≡ b)
  damage_unique stem files one two a b (inl p) (inl q) = (p.2 ∙ sym q.2, p.3 ∙ sym q.3)
  damage_unique stem files one two a b (inl p) (inr (inl q)) = absurd (p.1 q.1)
  damage_unique stem files one two a b (inl p) (inr (inr q)) = absurd (p.1 q.1)
  damage_unique stem files one two a b (inr (inl p)) (inl q) = absurd (q.1 p.1)
  damage_unique stem files one two a b (inr (inl p)) (inr (inl q)) = (p.2 ∙ sym q.2, p.3 ∙ sym q.3)
  damage_unique stem files one two a b (inr (inl p)) (inr (inr q)) = absurd (q.0 p.0.0 p.0.1 p.0.2 p.0.3)
  damage_unique stem files one two a b (inr (inr p)) (inl q) = absurd (q.1 p.1)
  damage_unique stem files one two a b (inr (inr p)) (inr (inl q)) = absurd (p.0 q.0.0 q.0.1 q.0.2 q.0.3)
  damage_unique stem files one two a b (inr (inr p)) (inr (inr q)) = (p.2 ∙ sym q.2, place_unique (content files (segment_name stem 1)) a b p.3 q.3)

-- What begins an allowed list is allowed.
pub allowed_closed : (stem : Stem) (xs ys : List (List ℕ)) → IsAllowed stem (xs ++ ys) → IsAllowed stem xs
allowed_closed stem xs ys all = subst (All (Suits stem)) (take_at xs ys (length xs) refl) (All-take (Suits stem) (length xs) (xs ++ ys) all)

closed_from : (before : ℕ) (xs ys : List (List ℕ)) (records : List Record) → ReadAs (xs ++ ys) records → TimesRise before records → (first : List Record) × ReadAs xs first × TimesRise before first
closed_from before [] ys records read rise = ([], tt, tt)
closed_from before (x ∷ xs) ys [] read rise = absurd read
closed_from before (x ∷ xs) ys (r ∷ records) read rise =
    let rest = closed_from r.time xs ys records read.1 rise.2 in
    (r ∷ rest.0, (read.0, rest.1), (rise.0, rise.1, rest.2))

pub records_closed : (xs ys : List (List ℕ)) → AreRecords (xs ++ ys) → AreRecords xs
records_closed xs ys all = closed_from 0 xs ys all.0 all.1 all.2

-- A log text isn't damaged.
pub no_damage : (stem : Stem) (files : Files) (name : List ℕ) (at : ℕ) (payloads : List (List ℕ)) → IsDamage stem files name at → ¬ IsLogText stem files payloads
no_damage stem files name at payloads = no_text (IsAllowed stem) (allowed_closed stem) stem files name at payloads

-- A log of records isn't damaged.
pub no_record_damage : (files : Files) (name : List ℕ) (at : ℕ) (records : List Record) → IsRecordDamage files name at → ¬ IsRecordLog files records
no_record_damage files name at records damage = λ log. no_text AreRecords records_closed Log files name at log.payloads damage (from_log files records log)
