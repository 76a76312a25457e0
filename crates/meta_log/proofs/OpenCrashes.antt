-- What a crash leaves of an opening.
use Rattle.std.proofs.Common.{◌≡◌, inl, inr, ℕ, List, refl, sym, ◌∙◌, subst, Option, Some, None, Result, Ok, Err}
use Rattle.std.specs.Prelude.{IfSome, IfOk}
use Rattle.std.proofs.lemmas.List.Elements.{All-nil}
use Rattle.weed_base.specs.Files.{Files, BothTold, made}
use Rattle.weed_base.specs.Images.{NoMore, Only, Follows, Atomically, Elapses, LeavesOnly, OnlyReads}
use Rattle.weed_base.proofs.ImageLemmas.{leaves_both, leaves_call, leaves_weaker, reads_leaves}
use Rattle.name_core.specs.declared.change.Record.{Record}
use Rattle.meta_log.specs.LogText.{segment_name, on_name, NoneFrom, Suits, IsAllowed, IsLogText, HasText, IsDamage}
use Rattle.meta_log.specs.Making.{IsPrepared, IsFreshOrEmpty, LeavesOthers}
use Rattle.meta_log.specs.Records.{AreRecords}
use Rattle.meta_log.specs.Kept.{IsRecordLog, IsRecordDamage}
use Rattle.meta_log.specs.Standing.{IsStanding}
use Rattle.meta_log.specs.Images.{ComesBy, ImagesHoldPayloads, ImagesHoldRecords, IsMadeFrom, HasListOf, HasLogOf, IsOwn}
use Rattle.meta_log.specs.declared.stem.Stem.{Stem}
use Rattle.meta_log.specs.declared.stem.Stem.TheVariants.{Log}
use Rattle.meta_log.specs.declared.standing.Standing.{Standing}
use Rattle.meta_log.specs.declared.standing.Standing.TheVariants.{Empty}
use Rattle.meta_log.proofs.Kept.{only_empty, empty_text}
use Rattle.meta_log.proofs.Made.{segment_named, on_made}
use Rattle.meta_log.proofs.Told.{both_unchanged}
use Rattle.meta_log.proofs.RecordLogs.{any_allowed, as_text, from_log}
use Rattle.meta_log.proofs.Damage.{no_damage, no_record_damage}

-- What a call does at once makes no segment count where none does.
pub none_taken : (stem : Stem) (file : List ℕ) → file ≡ segment_name stem 1 → (old new : Files → Type 0) → Follows (Atomically (made file)) old new
    → ((image : Files) → old image → NoneFrom stem 1 image) → (image : Files) → new image → NoneFrom stem 1 image
none_taken stem file is old new follows none image left =
    let from = follows image left in
    elim from.2 [
      | inl same ↦ subst (NoneFrom stem 1) (sym same) (none from.0 from.1)
      | inr done ↦ subst (NoneFrom stem 1) (sym done) (segment_named stem file is from.0 (none from.0 from.1))
    ]

-- A first segment that was prepared counts, or doesn't yet.
pub on_taken : (stem : Stem) (file : List ℕ) → file ≡ on_name stem 1 → (old new : Files → Type 0) → Follows (Atomically (made file)) old new
    → ((image : Files) → old image → IsPrepared stem image) → (image : Files) → new image → IsFreshOrEmpty stem image
on_taken stem file is old new follows prepared image left =
    let from = follows image left in
    elim from.2 [
      | inl same ↦ subst (IsFreshOrEmpty stem) (sym same) (inl (prepared from.0 from.1).none)
      | inr done ↦ subst (IsFreshOrEmpty stem) (sym done) (inr (on_made stem file is from.0 (prepared from.0 from.1)))
    ]

-- What is so of what reads give is so of what is left, where that is settled.
pub each_settled : (P : Files → Type 0) (told : Option Files) (images : Files → Type 0) → Only told images → IfSome told P → (image : Files) → images image → P image
each_settled P told images only holds image left = subst (λ o. IfSome o P) (only image left) holds

-- It stays settled while it is read.
pub still_settled : (told now : Option Files) (old new : Files → Type 0) → now ≡ told → NoMore old new → Only told old → Only now new
still_settled told now old new same none only = λ image left. same ∙ only image (none image left)

pub if_ok_always : {T E : Type 0} {P : Type 0} (r : Result T E) → P → IfOk r (λ _. P)
if_ok_always (Ok x) p = p
if_ok_always (Err e) p = tt

-- The calls of an opening.
module _ {D : Type 0} (tick : D → ℕ) (images : D → Files → Type 0) (since : D → ℕ → Files → Type 0) (stem : Stem) where
  -- the sync
  pub sync_leaves : (old synced : D) → NoMore (images old) (images synced) → Elapses (tick old) (tick synced) (since old) (since synced) (images synced)
      → LeavesOnly tick since old synced (ComesBy (IsMadeFrom stem) (images old))
  sync_leaves old synced none time =
      leaves_call tick since images old synced (ComesBy (IsMadeFrom stem) (images old)) time (λ image left. (image, none image left, inl refl))

  -- and a look at what is there
  pub look_leaves : (old synced new : D) → NoMore (images old) (images synced) → Elapses (tick old) (tick synced) (since old) (since synced) (images synced) → OnlyReads tick images since synced new
      → LeavesOnly tick since old new (ComesBy (IsMadeFrom stem) (images old))
  look_leaves old synced new none time reads =
      leaves_both tick since old synced new (ComesBy (IsMadeFrom stem) (images old)) (sync_leaves old synced none time) (reads_leaves tick images since synced new (ComesBy (IsMadeFrom stem) (images old)) reads)

  -- and the making of a first segment
  pub make_leaves : (old synced looked new : D) (files : Files) → images old files → NoneFrom stem 1 files
      → NoMore (images old) (images synced) → Elapses (tick old) (tick synced) (since old) (since synced) (images synced) → OnlyReads tick images since synced looked
      → LeavesOnly tick since looked new (IsFreshOrEmpty stem) → LeavesOnly tick since old new (ComesBy (IsMadeFrom stem) (images old))
  make_leaves old synced looked new files read empty none time reads made =
      leaves_both tick since old looked new (ComesBy (IsMadeFrom stem) (images old)) (look_leaves old synced looked none time reads)
      (leaves_weaker tick since looked new (IsFreshOrEmpty stem) (ComesBy (IsMadeFrom stem) (images old)) (λ image fresh. (files, read, inr (empty, fresh))) made)

-- What an opening leaves of the files: the same where it only looked at them
pub stays_made_from : (stem : Stem) (old new : Option Files) → new ≡ old → BothTold (IsMadeFrom stem) old new
stays_made_from stem old new same = both_unchanged (IsMadeFrom stem) old new same (λ files. inl refl)

-- and where none counted a first segment, made or being made.
made_from : (stem : Stem) (old new : Option Files) → BothTold (LeavesOthers stem) old new → IfSome old (NoneFrom stem 1) → IfSome new (IsFreshOrEmpty stem) → BothTold (IsMadeFrom stem) old new
made_from stem None None told none fresh = tt
made_from stem None (Some new) told none fresh = absurd told
made_from stem (Some old) None told none fresh = absurd told
made_from stem (Some old) (Some new) told none fresh = inr (none, fresh)

pub looked_made_from : (stem : Stem) (old synced mid new : Option Files) (found : Standing) → mid ≡ synced → synced ≡ old → found ≡ Empty
    → IfSome synced (λ files. IsStanding stem files found) → IfSome new (IsFreshOrEmpty stem) → BothTold (LeavesOthers stem) mid new → BothTold (IsMadeFrom stem) old new
looked_made_from stem old synced mid new found same_mid same_old is stands fresh told =
    let none = subst (λ s. IfSome synced (λ files. IsStanding stem files s)) is stands in
    made_from stem old new (subst (λ o. BothTold (LeavesOthers stem) o new) (same_mid ∙ same_old) told)
    (subst (λ o. IfSome o (NoneFrom stem 1)) same_old none) fresh

-- What is made so has the list.
made_list : (stem : Stem) (before image : Files) → IsMadeFrom stem before image → (payloads : List (List ℕ)) → IsLogText stem before payloads → IsLogText stem image payloads
made_list stem before image (inl same) payloads text = subst (λ (f : Files). IsLogText stem f payloads) (sym same) text
made_list stem before image (inr fresh) payloads text =
    let empty = only_empty (IsAllowed stem) stem (All-nil (Suits stem)) before payloads fresh.0 text in
    subst (IsLogText stem image) (sym empty) (empty_text (IsAllowed stem) stem (All-nil (Suits stem)) image fresh.1)

pub list_of : (stem : Stem) (images : Files → Type 0) (image : Files) → ComesBy (IsMadeFrom stem) images image → HasListOf stem images image
list_of stem images image from = (from.0, from.1, made_list stem from.0 image from.2)

pub log_of : (images : Files → Type 0) (image : Files) → ComesBy (IsMadeFrom Log) images image → HasLogOf images image
log_of images image from = (
  from.0,
  from.1,
  λ records log. record { payloads = log.payloads; text = made_list Log from.0 image from.2 log.payloads log.text; read = log.read; times = log.times },
)

-- What was opened is settled.
pub list_settled : (stem : Stem) (old new : Option Files) (images : Files → Type 0) → Only new images
    → ((payloads : List (List ℕ)) → IfSome old (λ files. IsLogText stem files payloads) → IfSome new (λ files. IsLogText stem files payloads))
    → (files : Files) (payloads : List (List ℕ)) → old ≡ Some files → IsLogText stem files payloads → ImagesHoldPayloads stem images payloads
list_settled stem old new images only kept files payloads is text =
    each_settled (λ f. IsLogText stem f payloads) new images only (kept payloads (subst (λ o. IfSome o (λ f. IsLogText stem f payloads)) (sym is) text))

pub log_settled : (old new : Option Files) (images : Files → Type 0) → Only new images
    → ((payloads : List (List ℕ)) → IfSome old (λ files. HasText AreRecords Log files payloads) → IfSome new (λ files. HasText AreRecords Log files payloads))
    → (files : Files) (records : List Record) → old ≡ Some files → IsRecordLog files records → ImagesHoldRecords images records
log_settled old new images only kept files records is log =
    let text = kept log.payloads (subst (λ o. IfSome o (λ f. HasText AreRecords Log f log.payloads)) (sym is) (from_log files records log)) in
    record {
      payloads = log.payloads;
      texts = λ image left.
          as_text AreRecords (IsAllowed Log) Log image log.payloads (each_settled (λ f. HasText AreRecords Log f log.payloads) new images only text image left) (any_allowed log.payloads);
      read = log.read;
      times = log.times;
    }

-- A disk of one's own isn't damaged.
pub own_list : (stem : Stem) (told : Option Files) (images : Files → Type 0) (files : Files) → told ≡ Some files → images files → ((image : Files) → images image → (payloads : List (List ℕ)) × IsLogText stem image payloads)
    → (name : List ℕ) (at : ℕ) → IfSome told (λ f. IsDamage stem f name at) → ⊥
own_list stem told images files is read lists name at damage =
    let list = lists files read in
    no_damage stem files name at list.0 (subst (λ o. IfSome o (λ f. IsDamage stem f name at)) is damage) list.1

pub own_log : (told : Option Files) (images : Files → Type 0) (files : Files) → told ≡ Some files → images files → IsOwn images → (name : List ℕ) (at : ℕ) → IfSome told (λ f. IsRecordDamage f name at) → ⊥
own_log told images files is read own name at damage =
    let log = own.logs files read in
    no_record_damage files name at log.0 (subst (λ o. IfSome o (λ f. IsRecordDamage f name at)) is damage) log.1
