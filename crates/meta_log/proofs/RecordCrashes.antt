-- What a crash leaves of a log of records.
use Rattle.std.proofs.Common.{◌≡◌, inl, inr, ℕ, ◌<◌, List, [], ◌∷◌, ◌++◌, sym, subst}
use Rattle.weed_base.specs.Files.{Files}
use Rattle.weed_base.specs.Images.{LeavesOnly}
use Rattle.weed_base.proofs.ImageLemmas.{leaves_weaker}
use Rattle.name_core.specs.declared.change.Record.{Record}
use Rattle.meta_log.specs.LogText.{IsAllowed, IsLogText, HasSegment}
use Rattle.meta_log.specs.Records.{ReadsAs}
use Rattle.meta_log.specs.Kept.{HoldsRecords, IsRecordLog, front_of, IsEitherLog}
use Rattle.meta_log.specs.Held.{IsEither}
use Rattle.meta_log.specs.Images.{ImagesHoldPayloads, ImagesHoldRecords}
use Rattle.meta_log.specs.declared.stem.Stem.{Stem}
use Rattle.meta_log.specs.declared.stem.Stem.TheVariants.{Log}
use Rattle.meta_log.specs.declared.front.Front.{Front}
use Rattle.meta_log.specs.declared.meta_log.MetaLog.{MetaLog}
use Rattle.meta_log.proofs.Unique.{text_unique}
use Rattle.meta_log.proofs.RecordLists.{grown}

-- Each image is a log of the records.
pub keeps_each : (images : Files → Type 0) (records : List Record) → ImagesHoldRecords images records → (image : Files) → images image → IsRecordLog image records
keeps_each images records keep image left = record { payloads = keep.payloads; text = keep.texts image left; read = keep.read; times = keep.times }

module _ (meta : MetaLog) (files : Files) (records : List Record) (stem_is : meta.log.stem ≡ Log) (kept : HoldsRecords files meta records) where
  -- the images have the texts that reads give
  pub same_texts : (images : Files → Type 0) → images files → ImagesHoldRecords images records → ImagesHoldPayloads meta.log.stem images kept.payloads
  same_texts images read keep =
      let segment = subst (λ (s : Stem). HasSegment (IsAllowed s) s files kept.payloads) stem_is kept.held.segment in
      let same = text_unique (IsAllowed Log) (IsAllowed Log) Log files kept.payloads keep.payloads (inr segment) (keep.texts files read) in
      subst (λ (s : Stem). ImagesHoldPayloads s images kept.payloads) (sym stem_is) (subst (ImagesHoldPayloads Log images) (sym same) keep.texts)

  module _ (text : List ℕ) (known : Record) (reads : ReadsAs text known) (past : (front_of meta).time < known.time) where
    either_log : (image : Files) → IsEither meta.log.stem kept.payloads text image → IsEitherLog records known image
    either_log image (inl same) = inl (record { payloads = kept.payloads; text = subst (λ (s : Stem). IsLogText s image kept.payloads) stem_is same; read = kept.read; times = kept.times })
    either_log image (inr longer) =
        let both = grown records known text reads (subst (λ (f : Front). f.time < known.time) kept.front past) kept.payloads kept.read kept.times in
        inr (record { payloads = kept.payloads ++ text ∷ []; text = subst (λ (s : Stem). IsLogText s image (kept.payloads ++ text ∷ [])) stem_is longer; read = both.0; times = both.1 })

    pub records_leave : {D : Type 0} (tick : D → ℕ) (since : D → ℕ → Files → Type 0) (old new : D) → LeavesOnly tick since old new (IsEither meta.log.stem kept.payloads text)
        → LeavesOnly tick since old new (IsEitherLog records known)
    records_leave tick since old new leaves =
        leaves_weaker tick since old new (IsEither meta.log.stem kept.payloads text) (IsEitherLog records known) either_log leaves

    pub records_settle : (images : Files → Type 0) → ImagesHoldPayloads meta.log.stem images (kept.payloads ++ text ∷ []) → ImagesHoldRecords images (records ++ known ∷ [])
    records_settle images hold =
        let both = grown records known text reads (subst (λ (f : Front). f.time < known.time) kept.front past) kept.payloads kept.read kept.times in
        record {
          payloads = kept.payloads ++ text ∷ [];
          texts = subst (λ (s : Stem). ImagesHoldPayloads s images (kept.payloads ++ text ∷ [])) stem_is hold;
          read = both.0;
          times = both.1;
        }
