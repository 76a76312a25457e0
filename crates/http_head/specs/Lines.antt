-- The header lines of a head: a name and a value each, the value without the blanks around it.
use Rattle.std.specs.Prelude.{ℕ, Bool, ◌&&◌, List, Option, option_map}
use Rattle.std.specs.List.{list_any, find}
use Rattle.http_head.specs.Words.{is_word}

-- A name and a value.
abbrev pub Line : Type 0
Line = List ℕ × List ℕ

-- The line has that name, in any case.
abbrev pub is_named : List ℕ → Line → Bool
is_named name line = is_word line.0 name

-- Some line of that name has a value that passes.
abbrev pub has_line : List ℕ → (List ℕ → Bool) → List Line → Bool
has_line name test lines = list_any (λ line. is_named name line && test line.1) lines

-- The value of the first line of that name.
abbrev pub first_value : List ℕ → List Line → Option (List ℕ)
first_value name lines = option_map (λ line. line.1) (find (is_named name) lines)
