use Rattle.std.proofs.Common.{refl}
use Rattle.std.specs.Prelude.{is_ok}
use Rattle.volume_items.proofs.Looked.{told_tail, told_checked}
use Rattle.volume_items.proofs.look.check_tail.Goals as goal

pub returns-clause-bytes : goal.returns-clause-bytes
returns-clause-bytes g c =
    told_tail (g.D.Disk.files c.args.disk.now) c.args.name.now c.behind-tail.result.now c.fill.new.self c.args.place c.args.len
    c.in_ok-fill.ensures.of c.in_ok-fill.ensures.ahead.0 c.in_ok-fill.ensures.ahead.1 c.behind-tail.ensures.held c.if-tail-len.false c.behind-tail.ensures.bytes

pub returns-clause-checked : goal.returns-clause-checked
returns-clause-checked g c =
    told_checked (g.D.Disk.files c.args.disk.now) c.args.name.now c.behind-tail.result.now c.fill.new.self c.args.place c.args.len c.args.sum c.args.head.now c.args.version
    c.check.result (is_ok c.check.result) c.in_ok-fill.ensures.of c.in_ok-fill.ensures.ahead.0 c.in_ok-fill.ensures.ahead.1 c.behind-tail.ensures.held c.if-tail-len.false
    refl c.check.ensures
