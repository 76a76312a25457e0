-- The namespace that a search tree holds, and what a keeper in memory is.
use Rattle.std.specs.Prelude.{ℕ, List, [], None}
use Rattle.std.specs.Option.{unwrap_or}
use Rattle.std.specs.List.{last_or}
use Rattle.std.specs.FinMap.{from_sorted}
use Rattle.entry.specs.declared.entry.Entry.{Entry}
use Rattle.name_core.specs.Namespace.{Namespace}
use Rattle.name_core.specs.Pages.{Named}

-- The namespace of items in order.
abbrev pub names_of : List Named → Namespace
names_of items = from_sorted items

-- An item by the last part of its path, its name in its directory.
abbrev pub child_of : Named → List ℕ × Entry
child_of item = (unwrap_or (last_or None item.0) [], item.1)
