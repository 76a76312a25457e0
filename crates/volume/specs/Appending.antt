-- How the files of a volume grow at their ends.
use Rattle.std.specs.Prelude.{◌≡◌, ◌≢◌, ℕ, ◌+◌, max, List, [], ◌∷◌, ◌++◌, length, take, Some}
use Rattle.std.specs.FinMap.{get}
use Rattle.weed_base.specs.Files.{Files, content}
use Rattle.needle.specs.declared.item.Item.{Item}
use Rattle.needle.specs.declared.item.ReadItem.{ReadItem}
use Rattle.needle.specs.declared.version.Version.{Version}
use Rattle.needle.specs.Answer.{kept_moment}
use Rattle.needle.specs.Item.{content as item_content}
use Rattle.needle.specs.Layout.{padded}
use Rattle.needle_index.specs.Text.{entered}
use Rattle.needle_index.specs.declared.entry.IndexEntry.{IndexEntry}
use Rattle.volume_items.specs.declared.file_names.Part.TheVariants.{Items, Index}
use Rattle.volume.specs.declared.held.Volume.{Volume}
use Rattle.volume_items.specs.FileNames.{name_of}
use Rattle.volume_items.specs.Growing.{KeepsFront}
use Rattle.volume.specs.Holds.{Holds}

-- Of these files only what stands behind a volume's ends may have changed.
pub record ChangesBehind (id end index_end : ℕ) (old new : Files) : Type 0 where
  pub items : KeepsFront (name_of id Items) end old new
  pub index : KeepsFront (name_of id Index) index_end old new
  pub others : (other : List ℕ) → other ≢ name_of id Items → other ≢ name_of id Index → get new other ≡ get old other

-- The files of items and of the index have grown by these bytes.
pub record GrowBy (id : ℕ) (piece entry : List ℕ) (old new : Files) : Type 0 where
  pub items : get new (name_of id Items) ≡ Some (content old (name_of id Items) ++ piece)
  pub index : get new (name_of id Index) ≡ Some (content old (name_of id Index) ++ entry)
  pub others : (other : List ℕ) → other ≢ name_of id Items → other ≢ name_of id Index → get new other ≡ get old other

-- A volume has the same name, layout and mode.
pub record IsOfOne (old new : Volume) : Type 0 where
  pub id : new.id ≡ old.id
  pub block : new.block ≡ old.block
  pub mode : new.mode ≡ old.mode

-- A volume has taken in an item that was appended.
pub record HasTakenIn (old new : Volume) (entry : IndexEntry) (taken : ℕ) : Type 0 where
  pub one : IsOfOne old new
  pub end : new.end ≡ old.end + taken
  pub index_end : new.index_end ≡ old.index_end + 16
  pub greatest : new.greatest ≡ max old.greatest entry.key
  pub index : new.index.spots ≡ entered old.index.spots entry
  pub broken : new.broken ≡ old.broken

-- A volume is as it was. Its index may take more puts without memory.
pub record IsAsWas (old new : Volume) : Type 0 where
  pub one : IsOfOne old new
  pub end : new.end ≡ old.end
  pub index_end : new.index_end ≡ old.index_end
  pub greatest : new.greatest ≡ old.greatest
  pub index : new.index.spots ≡ old.index.spots
  pub broken : new.broken ≡ old.broken

-- How many bytes an item takes.
abbrev pub taken_by : Version → Item → ℕ
taken_by version item = padded version (length (item_content item))

-- An item as it is read after it was written at a moment.
abbrev pub read_of : Version → Item → ℕ → ReadItem
read_of version item moment = record { item = item; taken = taken_by version item; moment = kept_moment version moment }

-- Whatever a volume held, it holds with one item more.
abbrev pub HoldsMore : Volume → Volume → Item → ℕ → Files → Files → Type 0
HoldsMore old new item moment before now =
    (items : List ReadItem) → Holds old items before → Holds new (items ++ read_of old.block.version item moment ∷ []) now
