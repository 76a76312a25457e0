-- Files as a list of names with bytes.
use Rattle.std.specs.Prelude.{List, map}
use Rattle.std.specs.FinMap.{from_entries}
use Rattle.weed_base.specs.Files.{Files}
use Rattle.weed_base.specs.declared.mem.table.NamedBytes.{NamedBytes}

-- The files of such a list. Of two with one name the first counts.
abbrev pub files_from : List NamedBytes → Files
files_from files = from_entries (map (λ file. (file.name, file.bytes)) files)
