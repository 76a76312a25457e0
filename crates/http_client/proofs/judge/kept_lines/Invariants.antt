use Rattle.std.proofs.Common.{◌≡◌, take}
use Rattle.std.specs.Prelude.{map}
use Rattle.httparse.specs.Borrowed.{header_parts}
use Rattle.http_client.specs.AnswerHead.{kept}
use Rattle.http_client.proofs.judge.kept_lines.Given as goal

abbrev pub invariant-loop-line : goal.invariant-loop-line
invariant-loop-line l = l.headers.items ≡ kept (map header_parts (take l.line-index l.lines))
