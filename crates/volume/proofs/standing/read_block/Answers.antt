use Rattle.volume.proofs.Unread.{refused_block}
use Rattle.volume.proofs.standing.read_block.Goals as goal

pub returns-in-Err-clause-fault : goal.returns-in-Err-clause-fault
returns-in-Err-clause-fault g c =
    refused_block (g.D.Disk.files c.args.disk.now) c.args.name.now c.read_at.new.room c.in_ok-count.count c.in-Err.fault c.read_at.auto.room c.if-count-lt8.false c.in_ok-count.ensures.bytes ((c.read.ensures.refused c.in-Err.fault).0 c.in-Err.is)
