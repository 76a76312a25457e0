-- What calls leave of a log, one behind another.
use Rattle.std.proofs.Common.{ℕ, List, [], ◌∷◌, ◌++◌, ◌∙◌, refl}
use Rattle.weed_base.specs.Files.{Files}
use Rattle.weed_base.specs.Images.{NoMore, LeavesOnly, StandsStill}
use Rattle.weed_base.proofs.ImageLemmas.{leaves_both, leaves_nothing, leaves_still}
use Rattle.name_core.specs.declared.change.Record.{Record}
use Rattle.meta_log.specs.Kept.{IsEitherLog}
use Rattle.meta_log.specs.Images.{ImagesHoldRecords}
use Rattle.weed_command.specs.Settling.{IsOneOf, Settling, Tearing}

-- Fewer images keep what more of them keep.
pub keeps_fewer : (images fewer : Files → Type 0) (records : List Record) → ImagesHoldRecords images records → NoMore images fewer → ImagesHoldRecords fewer records
keeps_fewer images fewer records keep none = record {
  payloads = keep.payloads;
  texts = λ image left. keep.texts image (none image left);
  read = keep.read;
  times = keep.times;
}

-- Nothing was called.
pub still_nothing : (tick : ℕ) (since : ℕ → Files → Type 0) (images : Files → Type 0) → StandsStill tick tick since since images images
still_nothing tick since images = record { tick = refl; images = λ image at. at; nothing_else = λ moment image at. at; keeps = λ moment image at. at }

-- Nothing was called, and then still nothing.
pub still_both : (first second third : ℕ) (past between since : ℕ → Files → Type 0) (images left still : Files → Type 0)
    → StandsStill first second past between images left → StandsStill second third between since left still → StandsStill first third past since images still
still_both first second third past between since images left still one other = record {
  tick = other.tick ∙ one.tick;
  images = λ image at. one.images image (other.images image at);
  nothing_else = λ moment image at. one.nothing_else moment image (other.nothing_else moment image at);
  keeps = λ moment image at. other.keeps moment image (one.keeps moment image at);
}

module _ {D : Type 0} (tick : D → ℕ) (images : D → Files → Type 0) (since : D → ℕ → Files → Type 0) where
  -- no call
  pub settles_nothing : (same : D) (log : List Record) → Settling tick images since same same log log
  settles_nothing same log keep = record { leaves = leaves_nothing tick since same (IsOneOf log log); now = keep }

  -- a record was appended
  pub settles_appended : (old new : D) (log : List Record) (known : Record)
      → (ImagesHoldRecords (images old) log → LeavesOnly tick since old new (IsEitherLog log known)) → ImagesHoldRecords (images new) (log ++ known ∷ [])
      → Settling tick images since old new log (log ++ known ∷ [])
  settles_appended old new log known atomic settled keep = record { leaves = atomic keep; now = settled }

  -- bytes were sent behind the calls
  pub settles_sent : (old mid new : D) (before after : List Record) → StandsStill (tick mid) (tick new) (since mid) (since new) (images mid) (images new)
      → Settling tick images since old mid before after → Settling tick images since old new before after
  settles_sent old mid new before after still settling keep =
      let settled = settling keep in
      record {
        leaves = leaves_both tick since old mid new (IsOneOf before after) settled.leaves (leaves_still tick since images mid new (IsOneOf before after) still);
        now = keeps_fewer (images mid) (images new) after settled.now still.images;
      }

  pub tears_sent : (old mid new : D) (before after : List Record) → StandsStill (tick mid) (tick new) (since mid) (since new) (images mid) (images new)
      → Tearing tick images since old mid before after → Tearing tick images since old new before after
  tears_sent old mid new before after still tearing keep =
      leaves_both tick since old mid new (IsOneOf before after) (tearing keep) (leaves_still tick since images mid new (IsOneOf before after) still)
