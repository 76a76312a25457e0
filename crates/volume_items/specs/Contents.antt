-- What a volume holds: the fold of the items of its file, one behind another, up to the first place that holds none.
use Rattle.std.specs.Prelude.{◌≡◌, ℕ, ◌+◌, ◌-◌, ◌^◌, ◌≤◌, max, List, [], ◌∷◌, length, drop, Ok}
use Rattle.std.specs.Ordering.{nat_cmp}
use Rattle.std.specs.FinMap.{FinMap, empty, insert, remove}
use Rattle.needle.specs.declared.item.Item.{Item}
use Rattle.needle.specs.declared.item.Item.TheVariants.{Live, Gone}
use Rattle.needle.specs.declared.item.Needle.{Needle}
use Rattle.needle.specs.declared.item.ReadItem.{ReadItem}
use Rattle.needle.specs.declared.version.Version.{Version}
use Rattle.needle.specs.Item.{body_of, key_of}
use Rattle.needle.specs.Reading.{read_at}
use Rattle.needle_index.specs.Index.{Spots}
use Rattle.needle_index.specs.Text.{entered, entry_for}

-- ---- the items

-- The most data that an item has, in bytes.
abbrev pub most_data : ℕ
most_data = 33554432

-- The last place at which an item may end.
abbrev pub last_end : ℕ
last_end = 2 ^ 35 - 8

-- The text holds this item at a place: whole, with a matching checksum, and within both limits.
pub record HoldsAt (version : Version) (text : List ℕ) (place : ℕ) (read : ReadItem) : Type 0 where
  pub is_read : read_at version (drop place text) ≡ Ok read
  pub small : length (body_of read.item) ≤ most_data
  pub within : place + read.taken ≤ last_end

-- These are the items of a text from a place on, up to the first place that holds none.
abbrev pub AreItems : Version → List ℕ → ℕ → List ReadItem → Type 0
AreItems version text place [] = (read : ReadItem) → HoldsAt version text place read → ⊥
AreItems version text place (read ∷ more) = HoldsAt version text place read × AreItems version text (place + read.taken) more

-- The place behind items from a place on.
abbrev pub end_of : ℕ → List ReadItem → ℕ
end_of place [] = place
end_of place (read ∷ more) = end_of (place + read.taken) more

-- ---- what they hold

-- From keys to needles.
abbrev pub Contents : Type 0
Contents = FinMap nat_cmp Needle

-- What an item makes of the contents: a needle sets its key, and a deletion removes it.
abbrev pub stored : Contents → Item → Contents
stored contents (Live needle) = insert contents needle.key needle
stored contents (Gone cookie key) = remove contents key

-- What items make of the contents, one after another.
abbrev pub stored_all : Contents → List ReadItem → Contents
stored_all contents [] = contents
stored_all contents (read ∷ more) = stored_all (stored contents read.item) more

-- The contents that items leave.
abbrev pub contents_of : List ReadItem → Contents
contents_of items = stored_all empty items

-- ---- where they lie

-- What items from a place on make of an index.
abbrev pub indexed : ℕ → Spots → List ReadItem → Spots
indexed place spots [] = spots
indexed place spots (read ∷ more) = indexed (place + read.taken) (entered spots (entry_for place read.item)) more

-- The index of items, which begin behind the superblock.
abbrev pub index_of : List ReadItem → Spots
index_of items = indexed 8 empty items

-- The greatest key of an item, 0 where there is none.
abbrev pub greatest_of : ℕ → List ReadItem → ℕ
greatest_of greatest [] = greatest
greatest_of greatest (read ∷ more) = greatest_of (max greatest (key_of read.item)) more
