-- The namespace that a table of entries stands for, and the room in it.
use Rattle.std.specs.Prelude.{ℕ}
use Rattle.std.specs.FinMap.{from_entries}
use Rattle.std.specs.HashMap.{spare}
use Rattle.name_core.specs.Namespace.{Namespace}
use Rattle.weed_command.specs.declared.name_table.NameTable.{NameTable}

-- The namespace of a table.
abbrev pub names_of : NameTable → Namespace
names_of table = from_entries table.entries.entries

-- How many paths fit before memory is needed.
abbrev pub spare_of : NameTable → ℕ
spare_of table = spare table.entries
