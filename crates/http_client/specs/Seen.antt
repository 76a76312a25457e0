-- The parts of an answer's head as the parser gives them.
use Rattle.std.specs.Prelude.{map}
use Rattle.httparse.specs.Borrowed.{header_parts}
use Rattle.http_client.specs.declared.judge.AnswerParts.{AnswerParts}
use Rattle.http_client.specs.AnswerHead.{Parts}

abbrev pub seen : AnswerParts → Parts
seen given = record { status = given.status; minor = given.minor; lines = map header_parts given.lines.now }
