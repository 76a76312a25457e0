use Rattle.weed_base.proofs.ImageLemmas.{reads_nothing, reads_call}
use Rattle.weed_command.proofs.run.attach.Goals as goal

pub returns-in_err-place-clause-still : goal.returns-in_err-place-clause-still
returns-in_err-place-clause-still g c = reads_nothing g.H.Disk.tick g.H.Disk.images g.H.Disk.image_since c.args.host.now

pub returns-in_err-attach-clause-still : goal.returns-in_err-attach-clause-still
returns-in_err-attach-clause-still g c =
    let disk = g.H.Disk in
    reads_call disk.tick disk.images disk.image_since c.args.host.now c.attach.new.self (g.met.H.Disk.counts_now c.args.host.now) c.attach.ensures.images c.attach.ensures.time

pub returns-clause-still : goal.returns-clause-still
returns-clause-still g c =
    let disk = g.H.Disk in
    reads_call disk.tick disk.images disk.image_since c.args.host.now c.attach.new.self (g.met.H.Disk.counts_now c.args.host.now) c.attach.ensures.images c.attach.ensures.time
