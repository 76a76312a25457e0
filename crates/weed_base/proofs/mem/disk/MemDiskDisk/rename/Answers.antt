use Rattle.std.proofs.Common.{inl, refl}
use Rattle.weed_base.specs.Files.{renamed}
use Rattle.weed_base.specs.Images.{Atomically, where_there}
use Rattle.weed_base.specs.declared.mem.change.Change.TheVariants.{Renamed}
use Rattle.weed_base.proofs.DiskCallLemmas.{images-made}
use Rattle.weed_base.proofs.mem.disk.MemDiskDisk.rename.Goals as goal

pub returns-clause-images : goal.returns-clause-images
returns-clause-images c =
    let from = c.args.from.now in
    let to = c.args.to.now in
    let makes = rw (c.copy-from.ensures, c.copy-to.ensures) at c.change.ensures.makes in
    images-made (Renamed from to) (Atomically (where_there from (renamed from to))) c.args.self.now c.change.new.self c.change.result c.change.ensures.call.start makes (λ _ left. left) (λ _. inl refl)
