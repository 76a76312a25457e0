use Rattle.std.proofs.Common.{sym, arith}
use Rattle.std.proofs.lemmas.List.{length-take, take_all}
use Rattle.http_bodies.proofs.mark.line_window.Goals as goal

pub slice_bounds-result-end : goal.slice_bounds-result-end
slice_bounds-result-end c = omega (arith, c.if-bytes-gt-MAX_LINE.true, length-take 1024 c.args.bytes.now)

pub returns-else-bytes-gt-MAX_LINE : goal.returns-else-bytes-gt-MAX_LINE
returns-else-bytes-gt-MAX_LINE c = sym (take_all 1024 c.args.bytes.now (omega (arith, c.if-bytes-gt-MAX_LINE.false)))
