-- The records past a time, read.
use Rattle.std.proofs.Common.{◌≡◌, inl, inr, ℕ, ◌≤◌, ◌<◌, min, List, [], ◌∷◌, ◌++◌, length, refl, sym, ◌∙◌, ap, subst, arith, Option, Some, None}
use Rattle.std.specs.Prelude.{IfSome, All}
use Rattle.std.proofs.lemmas.Bool.{cases_lt}
use Rattle.std.proofs.lemmas.List.Elements.{All-nil, All-cons}
use Rattle.weed_base.specs.Files.{Files, content}
use Rattle.name_core.specs.declared.change.Record.{Record}
use Rattle.name_core.specs.Log.{TimesRise}
use Rattle.meta_log.specs.LogText.{segment_name}
use Rattle.meta_log.specs.Held.{HoldsPayloads}
use Rattle.meta_log.specs.Left.{IsLeft, batch_from}
use Rattle.meta_log.specs.Records.{ReadAs}
use Rattle.meta_log.specs.Skip.{IsAhead, AreLate, SkipsTo, NoneAhead}
use Rattle.meta_log.specs.Stretch.{Stretch, IsOf}
use Rattle.meta_log.specs.Kept.{TellsRecords, IsPast}
use Rattle.meta_log.specs.declared.meta_log.MetaLog.{MetaLog}
use Rattle.meta_log.proofs.Fetched.{left_at_start}

-- times that rise from one on are all past it
rise_above : (after before : ℕ) (records : List Record) → TimesRise before records → after ≤ before → All (λ r. after < r.time) records
rise_above after before [] rise low = All-nil (λ (r : Record). after < r.time)
rise_above after before (x ∷ records) rise low =
    All-cons (λ (r : Record). after < r.time) x records (omega (arith, rise.0, low)) (rise_above after x.time records rise.2 (omega (arith, rise.0, low)))

-- Payloads that read as records, those up to a time ahead of those past it.
pub record IsSplit (after : ℕ) (payloads : List (List ℕ)) : Type 0 where
  pub before : List (List ℕ)
  pub past : List (List ℕ)
  pub old : List Record
  pub parted : payloads ≡ before ++ past
  pub read : ReadAs before old
  pub early : All (λ r. r.time ≤ after) old
  pub late : AreLate after past

pub split : (after before : ℕ) (payloads : List (List ℕ)) (records : List Record) → ReadAs payloads records → TimesRise before records → IsSplit after payloads
split after before [] [] read rise = record {
  before = [];
  past = [];
  old = [];
  parted = refl;
  read = tt;
  early = All-nil (λ (r : Record). r.time ≤ after);
  late = ([], tt, All-nil (λ (r : Record). after < r.time));
}
split after before [] (x ∷ records) read rise = absurd read
split after before (p ∷ payloads) [] read rise = absurd read
split after before (p ∷ payloads) (x ∷ records) read rise =
    let rest = split after x.time payloads records read.1 rise.2 in
    elim (cases_lt after x.time) [
      | inr early ↦ record {
        before = p ∷ rest.before;
        past = rest.past;
        old = x ∷ rest.old;
        parted = ap (λ (l : List (List ℕ)). p ∷ l) rest.parted;
        read = (read.0, rest.read);
        early = All-cons (λ (r : Record). r.time ≤ after) x rest.old early rest.early;
        late = rest.late;
      }
      | inl late ↦ record {
        before = [];
        past = p ∷ payloads;
        old = [];
        parted = refl;
        read = tt;
        early = All-nil (λ (r : Record). r.time ≤ after);
        late = (x ∷ records, read, All-cons (λ (r : Record). after < r.time) x records late (rise_above after x.time records rise.2 (omega (arith, late))));
      }
    ]

-- A reading began at the start, skipped up to the time, and a batch was collected.
module _ (name : List ℕ) (meta : MetaLog) (name_is : name ≡ segment_name meta.log.stem 1) (begun skipped : Stretch) (after room : ℕ) where
  ahead_at_start : (files : Files) (before past : List (List ℕ)) (old : List Record) → begun.at ≡ min 0 (length (content files name)) → HoldsPayloads files meta.log (before ++ past) → ReadAs before old → All (λ r. r.time ≤ after) old
      → IsAhead (content files name) meta.log.gate after begun.at past
  ahead_at_start files before past old at_is held read early =
      let zeroth : begun.at ≡ 0 = omega (arith, at_is) in
      record {
        payloads = before;
        records = old;
        here = subst (λ (n : List ℕ). IsLeft (content files n) meta.log.gate begun.at (before ++ past)) (sym name_is) (left_at_start files meta.log (before ++ past) begun.at held zeroth);
        read = read;
        early = early;
      }

pub told_past : (told mid now : Option Files) (name : List ℕ) (meta : MetaLog) → name ≡ segment_name meta.log.stem 1 → (begun skipped : Stretch) (after room : ℕ) (collected texts : List (List ℕ)) → mid ≡ told → now ≡ mid → texts ≡ collected
    → IfSome told (λ files. IsOf (content files name) begun × (begun.at ≡ min 0 (length (content files name))))
    → IfSome mid (λ files. SkipsTo (content files name) meta.log.gate after begun.at skipped.at)
    → IfSome now (λ files. (left : List (List ℕ)) → IsLeft (content files name) meta.log.gate skipped.at left → collected ≡ batch_from 67108864 room 0 left) → IsPast told meta after room texts
told_past None mid now name meta name_is begun skipped after room collected texts same_mid same_now texts_is begins skips batches = tt
told_past (Some files) mid now name meta name_is begun skipped after room collected texts same_mid same_now texts_is begins skips batches = λ before past old new held read_old read_new early late.
    let skip = subst (λ o. IfSome o (λ f. SkipsTo (content f name) meta.log.gate after begun.at skipped.at)) same_mid skips in
    let take = subst (λ o. IfSome o (λ f. (left : List (List ℕ)) → IsLeft (content f name) meta.log.gate skipped.at left → collected ≡ batch_from 67108864 room 0 left)) (same_now ∙ same_mid) batches in
    let ahead = ahead_at_start name meta name_is begun skipped after room files before past old begins.1 held read_old early in
    texts_is ∙ take past (skip past ahead (new, read_new, late))

-- Of a disk that holds the records no damage is told.
pub told_records_undamaged : (told mid now : Option Files) (name : List ℕ) (meta : MetaLog) → name ≡ segment_name meta.log.stem 1 → (begun skipped : Stretch) (after : ℕ) → mid ≡ told → now ≡ mid → (records : List Record) → TellsRecords told meta records
    → IfSome told (λ files. IsOf (content files name) begun × (begun.at ≡ min 0 (length (content files name))))
    → IfSome mid (λ files. SkipsTo (content files name) meta.log.gate after begun.at skipped.at)
    → IfSome now (λ files. (left : List (List ℕ)) → ¬ IsLeft (content files name) meta.log.gate skipped.at left) → told ≡ None
told_records_undamaged None mid now name meta name_is begun skipped after same_mid same_now records holds begins skips refuted = refl
told_records_undamaged (Some files) mid now name meta name_is begun skipped after same_mid same_now records holds begins skips refuted =
    let skip = subst (λ o. IfSome o (λ f. SkipsTo (content f name) meta.log.gate after begun.at skipped.at)) same_mid skips in
    let none = subst (λ o. IfSome o (λ f. (left : List (List ℕ)) → ¬ IsLeft (content f name) meta.log.gate skipped.at left)) (same_now ∙ same_mid) refuted in
    let parts = split after 0 holds.payloads records holds.read holds.times in
    let held = subst (HoldsPayloads files meta.log) parts.parted holds.held in
    let ahead = ahead_at_start name meta name_is begun skipped after 0 files parts.before parts.past parts.old begins.1 held parts.read parts.early in
    absurd (none parts.past (skip parts.past ahead parts.late))

-- Nor where they are skipped.
pub told_skipped_undamaged : (told mid : Option Files) (name : List ℕ) (meta : MetaLog) → name ≡ segment_name meta.log.stem 1 → (begun : Stretch) (after : ℕ) → mid ≡ told → (records : List Record) → TellsRecords told meta records
    → IfSome told (λ files. IsOf (content files name) begun × (begun.at ≡ min 0 (length (content files name))))
    → IfSome mid (λ files. NoneAhead (content files name) meta.log.gate after begun.at) → told ≡ None
told_skipped_undamaged None mid name meta name_is begun after same records holds begins refuted = refl
told_skipped_undamaged (Some files) mid name meta name_is begun after same records holds begins refuted =
    let none = subst (λ o. IfSome o (λ f. NoneAhead (content f name) meta.log.gate after begun.at)) same refuted in
    let parts = split after 0 holds.payloads records holds.read holds.times in
    let held = subst (HoldsPayloads files meta.log) parts.parted holds.held in
    absurd (none parts.past (ahead_at_start name meta name_is begun begun after 0 files parts.before parts.past parts.old begins.1 held parts.read parts.early) parts.late)
