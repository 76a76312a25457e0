use Rattle.std.proofs.Common.{rules}
use Rattle.volume.proofs.Found.{told_gets, told_yields}
use Rattle.volume.proofs.held.Volume.needle_at.Goals as goal

pub returns-clause-yields : goal.returns-clause-yields
returns-clause-yields g c =
    told_yields (g.D.Disk.files c.args.disk.now) c.args.self.now c.args.key c.args.spot c.file_name.result c.in_ok-text.text.items _ _ _ c.file_name.ensures (search rules) (search rules)
    c.in_ok-text.ensures.bytes (search rules)

pub returns-clause-gets : goal.returns-clause-gets
returns-clause-gets g c = told_gets (g.D.Disk.files c.args.disk.now) c.args.self.now c.args.key c.args.spot _ (returns-clause-yields g c)
