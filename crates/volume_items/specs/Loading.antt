-- How an index file is loaded.
use Rattle.std.specs.Prelude.{◌≡◌, ℕ, ◌%◌, List, length, take, Option, Some, None}
use Rattle.std.specs.FinMap.{empty, get}
use Rattle.weed_base.specs.Files.{Files}
use Rattle.needle_index.specs.Index.{Spots}
use Rattle.needle_index.specs.Text.{entered_all, spots_of}

-- A text of an index stands for this map.
pub record StandsFor (spots : Spots) (text : List ℕ) : Type 0 where
  pub whole : length text % 16 ≡ 0
  pub same : spots_of text ≡ spots

-- An index file of this length stands for the map; or none does.
abbrev pub HasIndex : Spots → List ℕ → Files → Option ℕ → Type 0
HasIndex spots name files (Some len) = (text : List ℕ) × (get files name ≡ Some text) × (len ≡ length text) × StandsFor spots text
HasIndex spots name files None = (text : List ℕ) → get files name ≡ Some text → StandsFor spots text → ⊥

-- So many bytes of a text were entered.
pub record IsLoaded (text : List ℕ) (count : ℕ) (spots : Spots) : Type 0 where
  pub whole : count % 16 ≡ 0
  pub are : spots ≡ entered_all empty (take count text)
