-- The path that a request names.
use Rattle.std.specs.Prelude.{ℕ, ◌-◌, nat_lt, nat_eq, Bool, ◌&&◌, List, length, take, codes, if◌then◌else◌}
use Rattle.std.specs.List.{ends_with}

-- A slash at the end marks a directory.
abbrev pub ends_in_slash : List ℕ → Bool
ends_in_slash path = ends_with nat_eq path (codes "/")

-- The path without the slash at its end, unless it is the root.
abbrev pub place_text : List ℕ → List ℕ
place_text path = if nat_lt 1 (length path) && ends_in_slash path then take (length path - 1) path else path
