use Rattle.weed_base.proofs.DiskCallLemmas.{images-synced}
use Rattle.weed_base.proofs.mem.disk.MemDiskDisk.sync.Goals as goal

pub returns-clause-images : goal.returns-clause-images
returns-clause-images c = images-synced c.args.self.now c.change.new.self c.change.result c.change.ensures.call.start c.change.ensures.makes
