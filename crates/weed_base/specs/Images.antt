-- What a crash may leave of a disk: its images. A disk that tells nothing of itself has none.
--
-- Between two syncs each written range, and what was written past the end of a file, may hold any bytes after a
-- crash; what stands past that end may be shorter or missing too. A name that was made, removed or renamed, and
-- a cut, stands as before or as after, whole. After a sync that answered Ok a crash leaves what reads give.
use Rattle.std.specs.Prelude.{◌≡◌, ℕ, ◌+◌, ◌≤◌, ◌⊎◌, min, max, List, length, take, drop, Option, None, Some}
use Rattle.std.specs.Option.{option_map_or}
use Rattle.std.specs.FinMap.{get, insert}
use Rattle.weed_base.specs.Told.{raised}
use Rattle.weed_base.specs.Files.{Files}

-- There is no image that there wasn't before.
abbrev pub NoMore : (Files → Type 0) → (Files → Type 0) → Type 0
NoMore old new = (image : Files) → new image → old image

-- A crash leaves what reads give, and nothing else.
abbrev pub Only : Option Files → (Files → Type 0) → Type 0
Only told images = (image : Files) → images image → told ≡ Some image

-- Each new image comes by a step from an old one.
abbrev pub Follows : (Files → Files → Type 0) → (Files → Type 0) → (Files → Type 0) → Type 0
Follows Step old new = (image : Files) → new image → (before : Files) × old before × Step before image

-- What a crash makes of a file into which so many bytes are written at a place: any bytes in that range, and the
-- rest as before. Where an earlier write was lost and the file ends ahead of the place, any bytes stand behind its
-- end, or none.
pub record IsTornImage (at count : ℕ) (old new : List ℕ) : Type 0 where
  pub front : take (min at (length old)) new ≡ take (min at (length old)) old
  pub back : at ≤ length old → drop (at + count) new ≡ drop (at + count) old
  pub no_shorter : length old ≤ length new
  pub no_longer : length new ≤ max (length old) (at + count)

-- The same of an image, in which the write goes by the name, and does nothing where the file isn't there.
abbrev pub TearsThere : List ℕ → ℕ → ℕ → Files → Option (List ℕ) → Files → Type 0
TearsThere name at count old None new = new ≡ old
TearsThere name at count old (Some bytes) new = (torn : List ℕ) × IsTornImage at count bytes torn × (new ≡ insert old name torn)

-- What a write of so many bytes makes of an image.
abbrev pub Tears : List ℕ → ℕ → ℕ → Files → Files → Type 0
Tears name at count old new = TearsThere name at count old (get old name) new

-- A change of names, or a cut, stands as before or as after.
abbrev pub Atomically : (Files → Files) → Files → Files → Type 0
Atomically change old new = (new ≡ old) ⊎ (new ≡ change old)

-- The change where the file is there, and else none.
abbrev pub where_there : List ℕ → (Files → Files) → Files → Files
where_there name change files = option_map_or (λ _. change files) (get files name) files

-- One call was made. A crash since an earlier moment may leave what it might have left before the call, or what
-- it may leave after it.
pub record Elapses (old new : ℕ) (past since : ℕ → Files → Type 0) (images : Files → Type 0) : Type 0 where
  pub counted : new ≡ raised old
  pub later : old ≤ new
  pub nothing_else : (moment : ℕ) (image : Files) → moment ≤ old → since moment image → past moment image ⊎ images image
  pub keeps : (moment : ℕ) (image : Files) → moment ≤ old → past moment image → since moment image

-- No call was made: nothing has changed.
pub record StandsStill (old new : ℕ) (past since : ℕ → Files → Type 0) (before now : Files → Type 0) : Type 0 where
  pub tick : new ≡ old
  pub images : NoMore before now
  pub nothing_else : (moment : ℕ) → NoMore (past moment) (since moment)
  pub keeps : (moment : ℕ) → NoMore (since moment) (past moment)

-- Each image since a moment was one before these calls, or has P.
pub record LeavesOnly {D : Type 0} (tick : D → ℕ) (since : D → ℕ → Files → Type 0) (old new : D) (P : Files → Type 0) : Type 0 where
  pub later : tick old ≤ tick new
  pub each : (moment : ℕ) (image : Files) → moment ≤ tick old → since new moment image → since old moment image ⊎ P image

-- Calls that only read were made: there is no image that there wasn't before, now or since a moment.
pub record OnlyReads {D : Type 0} (tick : D → ℕ) (images : D → Files → Type 0) (since : D → ℕ → Files → Type 0) (old new : D) : Type 0 where
  pub later : tick old ≤ tick new
  pub now : NoMore (images old) (images new)
  pub each : (moment : ℕ) (image : Files) → moment ≤ tick old → since new moment image → since old moment image
