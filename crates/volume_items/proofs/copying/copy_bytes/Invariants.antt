use Rattle.std.proofs.Common.{◌≡◌, ◌-◌, ◌≤◌}
use Rattle.std.specs.Prelude.{IfSome}
use Rattle.weed_base.specs.Files.{content, BothTold}
use Rattle.volume_items.specs.Copying.{Copies}
use Rattle.volume_items.specs.Window.{IsOf}
use Rattle.volume_items.proofs.copying.copy_bytes.Given as goal

abbrev pub invariant-loop-left : goal.invariant-loop-left
invariant-loop-left g l = (l.left ≤ l.len) × (g.D.Disk.faults l.disk ≡ g.D.Disk.faults l.fn.disk) × (g.D.Disk.beside l.disk ≡ g.D.Disk.beside l.fn.disk)
    × IfSome (g.D.Disk.files l.fn.disk) (λ files. IsOf (content files l.from) l.window)
    × BothTold (Copies l.from l.to l.at (l.len - l.left)) (g.D.Disk.files l.fn.disk) (g.D.Disk.files l.disk)

abbrev pub decreases-loop-left : goal.decreases-loop-left
decreases-loop-left g l = l.left
