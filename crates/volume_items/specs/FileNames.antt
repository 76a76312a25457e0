-- The names of a volume's files: its number in decimal, and an end for each part.
use Rattle.std.specs.Prelude.{ℕ, List, ◌++◌, codes, decimal}
use Rattle.volume_items.specs.declared.file_names.Part.{Part}
use Rattle.volume_items.specs.declared.file_names.Part.TheVariants.{Items, Index, Sign, Copy}

-- The end of a part's name.
abbrev pub ending : Part → List ℕ
ending Items = codes ".dat"
ending Index = codes ".idx"
ending Sign = codes ".vif"
ending Copy = codes ".cpd"

-- The name of a part's file.
abbrev pub name_of : ℕ → Part → List ℕ
name_of id part = decimal id ++ ending part
