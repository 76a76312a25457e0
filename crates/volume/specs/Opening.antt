-- How a volume is opened.
use Rattle.std.specs.Prelude.{◌≡◌, ℕ, ◌<◌, ◌≤◌, ◌⊎◌, List, length, take, Option, Some, None, IfSome, is_some, if◌then◌else◌, nat_lt, false}
use Rattle.std.specs.FinMap.{get}
use Rattle.weed_base.specs.Files.{Files, content, cut_to}
use Rattle.needle.specs.declared.fault.NeedleFault.{NeedleFault}
use Rattle.needle.specs.declared.fault.NeedleFault.TheVariants.{Truncated}
use Rattle.needle.specs.declared.superblock.SuperBlock.{SuperBlock}
use Rattle.needle.specs.declared.item.ReadItem.{ReadItem}
use Rattle.needle.specs.Fields.{AreBytes}
use Rattle.needle.specs.SuperBlock.{IsBlockRefused, superblock_text}
use Rattle.needle_index.specs.Index.{Spots}
use Rattle.volume_items.specs.declared.fault.VolumeFault.{VolumeFault}
use Rattle.volume_items.specs.declared.fault.VolumeFault.TheVariants.{DiskFault, NotThere, BadSuper, Memory}
use Rattle.volume_items.specs.declared.file_names.Part.TheVariants.{Items, Index}
use Rattle.volume.specs.declared.held.Mode.{Mode}
use Rattle.volume.specs.declared.held.Mode.TheVariants.{ReadOnly, ReadWrite}
use Rattle.volume.specs.declared.held.Volume.{Volume}
use Rattle.volume.specs.declared.mending.IndexPlan.{IndexPlan}
use Rattle.volume.specs.declared.open.Opened.{Opened}
use Rattle.volume_items.specs.Contents.{AreItems}
use Rattle.volume_items.specs.FileNames.{name_of}
use Rattle.volume.specs.Holds.{Holds}
use Rattle.volume.specs.Making.{IsVolumeThere}
use Rattle.volume_items.specs.Changes.{made_with}
use Rattle.volume_items.specs.Loading.{HasIndex, StandsFor}

-- The text begins with this superblock.
pub record BeginsWithBlock (text : List ℕ) (block : SuperBlock) : Type 0 where
  pub front : take 8 text ≡ superblock_text block
  pub bytes : AreBytes (take 8 text)

-- The text begins with none, for this fault.
abbrev pub HasNoBlock : List ℕ → NeedleFault → Type 0
HasNoBlock text fault = ((length text < 8) × (fault ≡ Truncated)) ⊎ ((8 ≤ length text) × IsBlockRefused (take 8 text) fault)

-- A volume that was read from files: it holds these items, and may only be read.
pub record IsRead (id : ℕ) (volume : Volume) (files : Files) : Type 0 where
  pub items : List ReadItem
  pub held : Holds volume items files
  pub id_is : volume.id ≡ id
  pub mode : volume.mode ≡ ReadOnly

-- Files of a volume that can't be read: its items begin with no superblock, for this fault.
abbrev pub IsBadSuper : ℕ → NeedleFault → Files → Type 0
IsBadSuper id fault files = IsVolumeThere id files × HasNoBlock (content files (name_of id Items)) fault

-- Why no volume is read.
abbrev pub IsUnread : ℕ → VolumeFault → Files → Type 0
IsUnread id NotThere files = ¬ IsVolumeThere id files
IsUnread id (BadSuper fault) files = IsBadSuper id fault files
IsUnread id DiskFault files = Unit {0}
IsUnread id Memory files = Unit {0}
IsUnread id _ files = ⊥

-- Why no superblock is read.
abbrev pub IsBlockFault : List ℕ → VolumeFault → Type 0
IsBlockFault text (BadSuper fault) = HasNoBlock text fault
IsBlockFault text DiskFault = Unit {0}
IsBlockFault text _ = ⊥

-- The index file that is found, by its length where it stands for the map.
abbrev pub found_len : IndexPlan → Option ℕ
found_len plan = if is_some plan.text then None else Some plan.len

-- What is to be done with an index file: nothing where it stands for the map; else this text of it is written.
pub record IsPlanned (spots : Spots) (name : List ℕ) (plan : IndexPlan) (files : Files) : Type 0 where
  pub found : HasIndex spots name files (found_len plan)
  pub text : IfSome plan.text (λ text. (plan.len ≡ length text) × StandsFor spots text)

-- The files without what stands behind the items of one of them.
abbrev pub trimmed : List ℕ → ℕ → Files → Files
trimmed name end files = if nat_lt end (length (content files name)) then cut_to name end files else files

-- The files with another text of an index, where there is to be one.
abbrev pub reindexed : List ℕ → Option (List ℕ) → Files → Files
reindexed name None files = files
reindexed name (Some text) files = made_with name text files

-- What an opening for writing makes of the files.
abbrev pub mended : ℕ → ℕ → Option (List ℕ) → Files → Files
mended id end text files = reindexed (name_of id Index) text (trimmed (name_of id Items) end files)

-- What an opening did to the files: nothing, or what stood behind the items was cut and the index was written anew where
-- its file didn't stand for the map.
abbrev pub Did : Mode → Volume → Opened → List ℕ → Files → Files → Type 0
Did ReadOnly volume opened text old new = (new ≡ old) × (opened.cut_from ≡ None) × (opened.rewrote_index ≡ false)
Did ReadWrite volume opened text old new =
    (opened.cut_from ≡ (if nat_lt volume.end (length text) then Some volume.end else None))
    × HasIndex volume.index.spots (name_of volume.id Index) old (if opened.rewrote_index then None else Some volume.index_end)

-- A volume that was opened: it holds the items that its file had.
pub record IsOpened (id : ℕ) (mode : Mode) (volume : Volume) (opened : Opened) (old new : Files) : Type 0 where
  pub items : List ReadItem
  pub text : List ℕ
  pub there : get old (name_of id Items) ≡ Some text
  pub are : AreItems volume.block.version text 8 items
  pub held : Holds volume items new
  pub id_is : volume.id ≡ id
  pub mode_is : volume.mode ≡ mode
  pub did : Did mode volume opened text old new
