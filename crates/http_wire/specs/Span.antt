-- A part of some bytes.
use Rattle.std.specs.Prelude.{ℕ, ◌-◌, List, take, drop}
use Rattle.http_wire.specs.declared.inbox.Span.{Span}

-- The bytes from the span's start up to its end.
abbrev pub part_at : Span → List ℕ → List ℕ
part_at span bytes = take (span.end - span.start) (drop span.start bytes)
