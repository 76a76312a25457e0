-- Which files a call changes, and how.
use Rattle.std.specs.Prelude.{◌≡◌, ◌≢◌, ℕ, List}
use Rattle.std.specs.FinMap.{get}
use Rattle.weed_base.specs.Files.{Files, made, written}
use Rattle.volume_items.specs.declared.file_names.Part.{Part}
use Rattle.volume_items.specs.FileNames.{name_of}

-- A file was made anew, with these bytes.
abbrev pub made_with : List ℕ → List ℕ → Files → Files
made_with name bytes files = written name 0 bytes (made name files)

-- Every file of another name is as it was.
abbrev pub ChangesOnly : List ℕ → Files → Files → Type 0
ChangesOnly name old new = (other : List ℕ) → other ≢ name → get new other ≡ get old other

-- Every file of another volume, and of no volume, is as it was.
abbrev pub LeavesOthers : ℕ → Files → Files → Type 0
LeavesOthers id old new = (other : List ℕ) → ((part : Part) → other ≢ name_of id part) → get new other ≡ get old other
