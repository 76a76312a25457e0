-- The entries of a map's spots.
use Rattle.std.specs.Prelude.{◌≡◌, ℕ, List, map, nat_eq}
use Rattle.std.specs.FinMap.{from_entries}
use Rattle.std.specs.List.{IsDistinct}
use Rattle.std.specs.List.Sorted.{IsPermutation}
use Rattle.std.specs.Map.{keys_of}
use Rattle.needle_index.specs.Index.{Spots}
use Rattle.needle_index.specs.declared.entry.IndexEntry.{IndexEntry}
use Rattle.needle_index.specs.declared.spot.Spot.{Spot}

-- The entry of a key and its spot.
abbrev pub entry_with : ℕ × Spot → IndexEntry
entry_with pair = record { key = pair.0; offset = pair.1.offset; size = pair.1.size }

-- These are the entries of a map's keys, each key's once, in some order.
pub record AreEntriesOf (spots : Spots) (entries : List IndexEntry) : Type 0 where
  pub pairs : List (ℕ × Spot)
  pub are : from_entries pairs ≡ spots
  pub apart : IsDistinct nat_eq (keys_of pairs)
  pub all : IsPermutation (map entry_with pairs) entries
