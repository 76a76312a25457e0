use Rattle.weed_base.proofs.DiskCallLemmas.{files-written, images-written}
use Rattle.weed_base.proofs.mem.disk.MemDiskDisk.write_at.Goals as goal

pub returns-clause-files : goal.returns-clause-files
returns-clause-files c = files-written c.args.name.now c.args.at c.args.piece.now c.args.self.now c.write.new.self c.write.result c.write.ensures.call.start c.write.ensures.writes c.requires

pub returns-clause-images : goal.returns-clause-images
returns-clause-images c = images-written c.args.name.now c.args.at c.args.piece.now c.args.self.now c.write.new.self c.write.result c.write.ensures.call.start c.write.ensures.writes
