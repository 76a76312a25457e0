-- An item in pieces.
use Rattle.std.specs.Prelude.{ℕ, List, ◌++◌}
use Rattle.volume.specs.declared.appending.Pieces.{Pieces}

-- Its bytes.
abbrev pub joined : Pieces → List ℕ
joined pieces = pieces.head.now ++ (pieces.body.now ++ pieces.tail.now)
