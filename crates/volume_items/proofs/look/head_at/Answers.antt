use Rattle.volume_items.proofs.Looked.{told_head}
use Rattle.volume_items.proofs.look.head_at.Goals as goal

pub returns-clause-head : goal.returns-clause-head
returns-clause-head g c =
    told_head (g.D.Disk.files c.args.disk.now) c.args.name.now c.behind-bytes.result.now c.fill.new.self c.args.place c.read.result
    c.in_ok-fill.ensures.of c.in_ok-fill.ensures.ahead.0 c.in_ok-fill.ensures.ahead.1 c.behind-bytes.ensures.held c.if-bytes-lt-LENGTH.false c.behind-bytes.ensures.bytes c.read.ensures
