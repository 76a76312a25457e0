use Rattle.http_bodies.proofs.EndLemmas.{end_taken, end_open, end_never}
use Rattle.http_bodies.proofs.mark.read_end.Goals as goal

pub returns-then-starts_with : goal.returns-then-starts_with
returns-then-starts_with c = end_taken c.args.bytes.now c.args.allowed c.starts_with.result c.starts_with.ensures.value c.if-starts_with.true

pub returns-then-starts_with-2 : goal.returns-then-starts_with-2
returns-then-starts_with-2 c = end_open c.args.bytes.now c.args.allowed c.starts_with.result c.starts_with.ensures.value c.if-starts_with.false c.starts_with-2.result c.starts_with-2.ensures.value c.if-starts_with-2.true

pub returns-else-starts_with-2 : goal.returns-else-starts_with-2
returns-else-starts_with-2 c = end_never c.args.bytes.now c.args.allowed c.starts_with.result c.starts_with.ensures.value c.if-starts_with.false c.starts_with-2.result c.starts_with-2.ensures.value c.if-starts_with-2.false
