-- A vacuum that goes on: which items are copied, and how far the copy came.
use Rattle.std.specs.Prelude.{◌≡◌, ℕ, ◌+◌, ◌*◌, ◌≤◌, List, [], ◌∷◌, ◌++◌, length, take, drop, Some}
use Rattle.std.specs.FinMap.{get}
use Rattle.weed_base.specs.Files.{Files, content}
use Rattle.needle.specs.declared.item.ReadItem.{ReadItem}
use Rattle.needle.specs.declared.superblock.SuperBlock.{SuperBlock}
use Rattle.needle.specs.declared.version.Version.{Version}
use Rattle.needle.specs.Fields.{AreBytes}
use Rattle.needle.specs.SuperBlock.{superblock_text}
use Rattle.needle_index.specs.declared.entry.IndexEntry.{IndexEntry}
use Rattle.needle_index.specs.Text.{entry_for}
use Rattle.volume_items.specs.declared.fault.VolumeFault.{VolumeFault}
use Rattle.volume_items.specs.declared.fault.VolumeFault.TheVariants.{Damaged}
use Rattle.volume_items.specs.declared.file_names.Part.TheVariants.{Items, Copy}
use Rattle.volume_items.specs.Contents.{AreItems, HoldsAt, end_of, last_end}
use Rattle.volume_items.specs.FileNames.{name_of}
use Rattle.volume_items.specs.Lives.{live_of}

-- What a vacuum knows: the entries of the items that it copies, in their order, and how many of them are copied; where the
-- volume ended when it began; where the copy ends; and for how many items it has the memory.
pub record Vacuumed : Type 0 where
  pub items : List IndexEntry
  pub copied : ℕ
  pub from : ℕ
  pub end : ℕ
  pub room : ℕ

-- The superblock of the next revision.
abbrev pub next_block : SuperBlock → SuperBlock
next_block block = record { version = block.version; placement = block.placement; ttl = block.ttl; revision = block.revision + 1 }

-- An entry leads to this item of a text.
pub record LiesAt (version : Version) (text : List ℕ) (entry : IndexEntry) (read : ReadItem) : Type 0 where
  pub held : HoldsAt version text (8 * entry.offset) read
  pub entry_is : entry ≡ entry_for (8 * entry.offset) read.item
  pub bytes : AreBytes (take read.taken (drop (8 * entry.offset) text))

-- Entries lead to these items of a text, one by one.
abbrev pub LieAt : Version → List ℕ → List IndexEntry → List ReadItem → Type 0
LieAt version text [] [] = Unit {0}
LieAt version text (entry ∷ entries) (read ∷ reads) = LiesAt version text entry read × LieAt version text entries reads
LieAt version text [] (read ∷ reads) = ⊥
LieAt version text (entry ∷ entries) [] = ⊥

-- The file of the copy has a superblock and these items, and ends behind them.
pub record HasCopy (id : ℕ) (block : SuperBlock) (end : ℕ) (reads : List ReadItem) (files : Files) : Type 0 where
  pub copy : List ℕ
  pub there : get files (name_of id Copy) ≡ Some copy
  pub bytes : AreBytes copy
  pub front : take 8 copy ≡ superblock_text block
  pub are : AreItems block.version copy 8 reads
  pub length_is : length copy ≡ end
  pub end_is : end ≡ end_of 8 reads

-- The items of these entries can be copied behind a copy that has others already.
pub record MayCopy (id : ℕ) (version : Version) (end : ℕ) (entries : List IndexEntry) (block : SuperBlock) (before reads : List ReadItem) (files : Files) : Type 0 where
  pub version_is : block.version ≡ version
  pub lie : LieAt version (content files (name_of id Items)) entries reads
  pub copy : HasCopy id block end before files
  pub room : end_of end reads ≤ last_end

-- Whatever the copy has, they can.
abbrev pub CanCopy : ℕ → Version → ℕ → List IndexEntry → Files → Type 0
CanCopy id version end entries files = (block : SuperBlock) × (before : List ReadItem) × (reads : List ReadItem) × MayCopy id version end entries block before reads files

-- Of the items that a copy is to have in the end it has the first, and the others can be copied.
abbrev pub GoesOn : ℕ → Version → ℕ → List IndexEntry → SuperBlock → List ReadItem → Files → Type 0
GoesOn id version end left block all files = (done : List ReadItem) × (rest : List ReadItem) × (done ++ rest ≡ all) × MayCopy id version end left block done rest files

-- The copy has the items of these entries behind those that it had.
abbrev pub HasCopied : ℕ → Version → ℕ → List IndexEntry → ℕ → Files → Files → Type 0
HasCopied id version start entries end old new =
    (block : SuperBlock) (before reads : List ReadItem) → MayCopy id version start entries block before reads old → HasCopy id block end (before ++ reads) new

-- How far a vacuum came over a volume's items, of which these were there when it began and those came since.
pub record HasVacuumed (id : ℕ) (block : SuperBlock) (text : List ℕ) (vacuum : Vacuumed) (begun since : List ReadItem) (files : Files) : Type 0 where
  pub from : end_of 8 begun ≡ vacuum.from
  pub lie : LieAt block.version text vacuum.items (live_of begun ++ since)
  pub copy : HasCopy id (next_block block) vacuum.end (take vacuum.copied (live_of begun ++ since)) files
  pub few : vacuum.copied ≤ length vacuum.items
  pub within : end_of 8 (live_of begun ++ since) ≤ end_of 8 (begun ++ since)
  pub room : length vacuum.items ≤ vacuum.room

-- A fault that tells of damage at a place.
abbrev pub IsDamageAt : ℕ → VolumeFault → Type 0
IsDamageAt place (Damaged at stored computed) = at ≡ place
IsDamageAt place fault = ⊥
