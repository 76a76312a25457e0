use Rattle.std.proofs.Common.{inl, refl}
use Rattle.weed_base.specs.Files.{removed}
use Rattle.weed_base.specs.Images.{Atomically}
use Rattle.weed_base.specs.declared.mem.change.Change.TheVariants.{Removed}
use Rattle.weed_base.proofs.DiskCallLemmas.{images-made}
use Rattle.weed_base.proofs.mem.disk.MemDiskDisk.remove.Goals as goal

pub returns-clause-images : goal.returns-clause-images
returns-clause-images c =
    let name = c.args.name.now in
    let makes = rw c.copy-name.ensures at c.change.ensures.makes in
    images-made (Removed name) (Atomically (removed name)) c.args.self.now c.change.new.self c.change.result c.change.ensures.call.start makes (λ _ left. left) (λ _. inl refl)
