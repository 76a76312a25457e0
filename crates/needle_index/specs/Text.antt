-- The text of an index: entries of 16 bytes, each of which changes the map.
use Rattle.std.specs.Prelude.{◌≡◌, ◌≢◌, ℕ, ◌-◌, ◌/◌, ◌%◌, ◌^◌, ◌==◌, Bool, if◌then◌else◌, List, ◌++◌, length, take, drop}
use Rattle.std.specs.Int.{w32, w64, to_be_bytes, from_be_bytes}
use Rattle.std.specs.List.{fold}
use Rattle.std.specs.Simd.{first_chunks}
use Rattle.std.specs.FinMap.{empty, insert, remove}
use Rattle.needle.specs.declared.item.Item.{Item}
use Rattle.needle.specs.Item.{content, key_of}
use Rattle.needle_index.specs.Index.{Spots}
use Rattle.needle_index.specs.declared.entry.IndexEntry.{IndexEntry}
use Rattle.needle_index.specs.declared.fault.IndexFault.{IndexFault}
use Rattle.needle_index.specs.declared.fault.IndexFault.TheVariants.{Ragged, Memory}

-- The bytes of an entry: its key, offset and size, big-endian.
abbrev pub entry_text : IndexEntry → List ℕ
entry_text entry = to_be_bytes w64 entry.key ++ (to_be_bytes w32 entry.offset ++ to_be_bytes w32 entry.size)

-- The entry that 16 bytes are.
abbrev pub entry_of : List ℕ → IndexEntry
entry_of bytes = record {
  key = from_be_bytes w64 (take 8 bytes);
  offset = from_be_bytes w32 (take 4 (drop 8 bytes));
  size = from_be_bytes w32 (drop 12 bytes);
}

-- The size that removes a key: the greatest one of 32 bits.
abbrev pub removal_size : ℕ
removal_size = 2 ^ 32 - 1

-- The entry that removes a key, on behalf of the item at that offset.
abbrev pub removal : ℕ → ℕ → IndexEntry
removal key offset = record { key = key; offset = offset; size = removal_size }

-- The entry of an item at a place, by the item's key and size: a size of 0 tells of a deletion.
abbrev pub entry_at : ℕ → ℕ → ℕ → IndexEntry
entry_at place key size = if size == 0 then removal key (place / 8) else record { key = key; offset = place / 8; size = size }

-- The entry of an item at a place.
abbrev pub entry_for : ℕ → Item → IndexEntry
entry_for place item = entry_at place (key_of item) (length (content item))

-- Whether the entry removes its key.
abbrev pub is_removal : IndexEntry → Bool
is_removal entry = entry.size == removal_size

-- What an entry makes of a map: one that removes takes the key out, and any other puts the spot.
abbrev pub entered : Spots → IndexEntry → Spots
entered spots entry =
    if is_removal entry then remove spots entry.key
    else insert spots entry.key (record { offset = entry.offset; size = entry.size })

-- What the entries of a text make of a map, one after another.
unfoldable pub entered_all : Spots → List ℕ → Spots
entered_all spots text = fold (λ spots bytes. entered spots (entry_of bytes)) spots (first_chunks 16 (length text / 16) text)

-- The map that the entries of a text leave.
abbrev pub spots_of : List ℕ → Spots
spots_of text = entered_all empty text

-- Why a text is no index: it ends inside an entry. Want of memory may come of any.
abbrev pub IsCauseIn : List ℕ → IndexFault → Type 0
IsCauseIn text (Ragged n) = (n ≡ length text) × (n % 16 ≢ 0)
IsCauseIn text Memory = Unit {0}
