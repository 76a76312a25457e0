-- A disk that holds a volume: its files stand for what the value says.
use Rattle.std.specs.Prelude.{◌≡◌, ℕ, ◌%◌, ◌⊎◌, List, length, take, Some, IsTrue}
use Rattle.std.specs.FinMap.{get}
use Rattle.weed_base.specs.Files.{Files, IsThere}
use Rattle.needle.specs.SuperBlock.{superblock_text}
use Rattle.needle.specs.declared.item.ReadItem.{ReadItem}
use Rattle.needle.specs.Fields.{AreBytes}
use Rattle.needle_index.specs.Text.{spots_of}
use Rattle.volume_items.specs.declared.file_names.Part.TheVariants.{Items, Index, Sign}
use Rattle.volume.specs.declared.held.Mode.{Mode}
use Rattle.volume.specs.declared.held.Mode.TheVariants.{ReadWrite, ReadOnly}
use Rattle.volume.specs.declared.held.Volume.{Volume}
use Rattle.volume_items.specs.Contents.{AreItems, end_of, index_of, greatest_of}
use Rattle.volume_items.specs.FileNames.{name_of}

-- The file of items is there: its superblock, and these items behind it.
pub record HasItems (volume : Volume) (items : List ReadItem) (files : Files) (text : List ℕ) : Type 0 where
  pub there : get files (name_of volume.id Items) ≡ Some text
  pub bytes : AreBytes (take (end_of 8 items) text)
  pub front : take 8 text ≡ superblock_text volume.block
  pub are : AreItems volume.block.version text 8 items

-- What a writer knows of its files: the items end with their file, and the index file stands for the same map.
abbrev pub IsWritable : Mode → Volume → Files → List ℕ → Type 0
IsWritable ReadOnly volume files text = Unit {0}
IsWritable ReadWrite volume files text =
    (length text ≡ volume.end)
    × ((index : List ℕ) × (get files (name_of volume.id Index) ≡ Some index) × (length index ≡ volume.index_end) × (length index % 16 ≡ 0)
    × (spots_of index ≡ volume.index.spots))

-- The files hold the volume with these items.
pub record Holds (volume : Volume) (items : List ReadItem) (files : Files) : Type 0 where
  pub text : List ℕ
  pub has : HasItems volume items files text
  pub sign : IsThere (name_of volume.id Sign) files
  pub end : volume.end ≡ end_of 8 items
  pub index : volume.index.spots ≡ index_of items
  pub greatest : volume.greatest ≡ greatest_of 0 items
  pub writable : IsWritable volume.mode volume files text

-- The files hold the volume, unless it is broken.
abbrev pub HoldsUnlessBroken : Volume → Files → Type 0
HoldsUnlessBroken volume files = IsTrue volume.broken ⊎ ((items : List ReadItem) × Holds volume items files)
