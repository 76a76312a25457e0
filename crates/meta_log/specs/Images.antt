-- What a crash may leave of a log.
use Rattle.std.specs.Prelude.{◌≡◌, ◌⊎◌, ℕ, List, [], ◌∷◌, ◌++◌}
use Rattle.weed_base.specs.Files.{Files}
use Rattle.name_core.specs.declared.change.Record.{Record}
use Rattle.name_core.specs.Log.{TimesRise, IsSound}
use Rattle.meta_log.specs.LogText.{NoneFrom, IsLogText}
use Rattle.meta_log.specs.Making.{IsFreshOrEmpty}
use Rattle.meta_log.specs.Records.{ReadAs}
use Rattle.meta_log.specs.Kept.{IsRecordLog}
use Rattle.meta_log.specs.declared.stem.Stem.{Stem}
use Rattle.meta_log.specs.declared.stem.Stem.TheVariants.{Log}

-- The image comes by a step from one of these.
abbrev pub ComesBy : (Files → Files → Type 0) → (Files → Type 0) → Files → Type 0
ComesBy Step images image = (before : Files) × images before × Step before image

-- Each image is a log text for this list.
abbrev pub ImagesHoldPayloads : Stem → (Files → Type 0) → List (List ℕ) → Type 0
ImagesHoldPayloads stem images payloads = (image : Files) → images image → IsLogText stem image payloads

-- Each image is a log of these records, and all of them by the same texts: one that spells a record otherwise has
-- its gate elsewhere.
pub record ImagesHoldRecords (images : Files → Type 0) (records : List Record) : Type 0 where
  pub payloads : List (List ℕ)
  pub texts : ImagesHoldPayloads Log images payloads
  pub read : ReadAs payloads records
  pub times : TimesRise 0 records

-- The image is as it was, or no segment counted and the first is made or is being made.
abbrev pub IsMadeFrom : Stem → Files → Files → Type 0
IsMadeFrom stem before image = (image ≡ before) ⊎ (NoneFrom stem 1 before × IsFreshOrEmpty stem image)

-- The image has the list of one of these.
abbrev pub HasListOf : Stem → (Files → Type 0) → Files → Type 0
HasListOf stem images image =
    (before : Files) × images before × ((payloads : List (List ℕ)) → IsLogText stem before payloads → IsLogText stem image payloads)

-- The image has the records of one of these.
abbrev pub HasLogOf : (Files → Type 0) → Files → Type 0
HasLogOf images image =
    (before : Files) × images before × ((records : List Record) → IsRecordLog before records → IsRecordLog image records)

-- One log is the other, or has one record more at its end, or one less.
abbrev pub AreNear : List Record → List Record → Type 0
AreNear one other =
    (one ≡ other) ⊎ ((more : Record) × (one ≡ other ++ more ∷ [])) ⊎ ((more : Record) × (other ≡ one ++ more ∷ []))

-- The logs of any two of the images are near.
abbrev pub AllNear : (Files → Type 0) → Type 0
AllNear images =
    (one other : Files) (records others : List Record) → images one → images other → IsRecordLog one records → IsRecordLog other others → AreNear records others

-- A disk of one's own: each image is a log of records, which is sound, and all of them are near.
pub record IsOwn (images : Files → Type 0) : Type 0 where
  pub logs : (image : Files) → images image → (records : List Record) × IsRecordLog image records × IsSound records
  pub near : AllNear images
