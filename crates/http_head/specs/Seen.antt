-- The parts of a head as the parser gives them.
use Rattle.std.specs.Prelude.{map}
use Rattle.httparse.specs.Borrowed.{header_parts}
use Rattle.http_head.specs.declared.judge.HeadParts.{HeadParts}
use Rattle.http_head.specs.Request.{Parts}

abbrev pub seen : HeadParts → Parts
seen given = record { method = given.method.now; target = given.target.now; minor = given.minor; lines = map header_parts given.lines.now }
