-- Header lines: names and values.
use Rattle.std.specs.Prelude.{ℕ, List, codes, decimal}

-- The name and the value of a header line.
abbrev pub Line : Type 0
Line = List ℕ × List ℕ

-- The line that says what a body is.
abbrev pub type_line : List ℕ → Line
type_line mime = (codes "Content-Type", mime)

-- The line that says how many bytes a body has.
abbrev pub length_line : ℕ → Line
length_line count = (codes "Content-Length", decimal count)

-- The line that says which bytes of a file are sent.
abbrev pub range_line : List ℕ → Line
range_line value = (codes "Content-Range", value)
