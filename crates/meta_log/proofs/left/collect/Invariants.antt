use Rattle.std.proofs.Common.{◌≡◌, ℕ, ◌+◌, ◌-◌, ◌≤◌, List, length}
use Rattle.std.specs.Prelude.{IfSome, sum_by}
use Rattle.weed_base.specs.Files.{content}
use Rattle.weed_base.specs.Images.{OnlyReads}
use Rattle.meta_log.specs.Segment.{items}
use Rattle.meta_log.specs.Stretch.{IsOf}
use Rattle.meta_log.specs.Left.{IsLeft, StandFrom, batch_from}
use Rattle.meta_log.proofs.Collected.{IsCollected}
use Rattle.meta_log.proofs.left.collect.Given as goal

-- the texts are those of the batch so far, and the disk is as it was
abbrev pub invariant-taking : goal.invariant-taking
invariant-taking g l =
    (length l.texts.items ≤ l.room)
    × (l.bytes ≤ l.reading.at)
    × (l.reading.at ≡ l.fn.reading.at + length (items l.texts.items))
    × (g.D.Disk.files l.disk ≡ g.D.Disk.files l.fn.disk)
    × IfSome (g.D.Disk.files l.fn.disk) (λ files. IsOf (content files l.name) l.reading)
    × IfSome (g.D.Disk.files l.fn.disk) (λ files.
    (first : List (List ℕ)) → IsLeft (content files l.name) l.gate l.fn.reading.at first → IsCollected (content files l.name) l.gate l.reading.at l.most l.room l.bytes first l.texts.items)
    × (g.D.Disk.faults l.disk ≡ g.D.Disk.faults l.fn.disk)
    × (g.D.Disk.beside l.disk ≡ g.D.Disk.beside l.fn.disk)
    × OnlyReads g.D.Disk.tick g.D.Disk.images g.D.Disk.image_since l.fn.disk l.disk
    × (l.bytes ≡ sum_by length l.texts.items)
    × IfSome (g.D.Disk.files l.fn.disk) (λ files. StandFrom (content files l.name) l.gate l.fn.reading.at l.texts.items)
    × (batch_from l.most l.room 0 l.texts.items ≡ l.texts.items)

abbrev pub decreases-taking : goal.decreases-taking
decreases-taking g l = l.room - length l.texts.items
