-- What a volume holds besides its needles.
use Rattle.std.specs.Prelude.{◌≡◌, ◌≤◌, ℕ, ◌+◌, ◌-◌, ◌*◌, ◌/◌, ◌==◌, if◌then◌else◌}
use Rattle.needle.specs.Layout.{padded}
use Rattle.needle.specs.declared.version.Version.{Version}
use Rattle.needle_index.specs.Bytes.{live}
use Rattle.needle_index.specs.Index.{Spots}
use Rattle.needle_index.specs.Text.{entry_at}
use Rattle.needle_index.specs.declared.entry.IndexEntry.{IndexEntry}

-- The needles of an index all lie between the superblock and this end.
abbrev pub Fit : Version → Spots → ℕ → Type 0
Fit version spots end = 8 + live version spots ≤ end

-- How many bytes behind the superblock are of no needle.
abbrev pub dead : Version → Spots → ℕ → ℕ
dead version spots end = end - 8 - live version spots

-- How many thousandths a part is of itself and the rest, rounded down; 0 where both are 0.
abbrev pub permille : ℕ → ℕ → ℕ
permille part rest = if part + rest == 0 then 0 else part * 1000 / (part + rest)

-- The entry is that of an item at this place which takes so many bytes.
pub record IsEntryOf (version : Version) (place taken : ℕ) (entry : IndexEntry) : Type 0 where
  pub key : ℕ
  pub size : ℕ
  pub entry_is : entry ≡ entry_at place key size
  pub taken_is : taken ≡ padded version size
