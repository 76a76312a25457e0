use Rattle.std.proofs.Common.{◌≡◌, ◌-◌, ◌≤◌}
use Rattle.std.specs.Prelude.{IfSome}
use Rattle.weed_base.specs.Files.{content}
use Rattle.weed_base.specs.DiskCalls.{Looks}
use Rattle.volume_items.specs.Window.{IsOf, IsSummedSoFar}
use Rattle.volume_items.proofs.summing.sum_of.Given as goal

abbrev pub invariant-loop-left : goal.invariant-loop-left
invariant-loop-left g l = (l.left ≤ l.len) × Looks g.D.Disk l.fn.disk l.disk × (g.D.Disk.faults l.disk ≡ g.D.Disk.faults l.fn.disk) × (g.D.Disk.beside l.disk ≡ g.D.Disk.beside l.fn.disk)
    × IfSome (g.D.Disk.files l.fn.disk) (λ files. IsOf (content files l.name) l.window × IsSummedSoFar (content files l.name) l.at (l.len - l.left) l.sum)

abbrev pub decreases-loop-left : goal.decreases-loop-left
decreases-loop-left g l = l.left
