use Rattle.std.proofs.Common.{◌≡◌, ◌-◌, ◌≤◌, ◌^◌, List}
use Rattle.std.specs.Prelude.{IfSome}
use Rattle.weed_base.specs.Files.{content}
use Rattle.weed_base.specs.DiskCalls.{Looks}
use Rattle.needle.specs.declared.item.ReadItem.{ReadItem}
use Rattle.volume_items.specs.Garbage.{Fit}
use Rattle.volume_items.specs.Window.{IsOf}
use Rattle.volume_items.specs.Walk.{HasCome}
use Rattle.volume_items.proofs.walking.walk.Given as goal

abbrev pub invariant-loop-walked : goal.invariant-loop-walked
invariant-loop-walked g l = (l.walked.end ≤ 2 ^ 35 - 8) × Looks g.D.Disk l.fn.disk l.disk × (g.D.Disk.faults l.disk ≡ g.D.Disk.faults l.fn.disk)
    × (g.D.Disk.beside l.disk ≡ g.D.Disk.beside l.fn.disk) × IfSome (g.D.Disk.files l.fn.disk) (λ files. IsOf (content files l.name) l.window)
    × IfSome (g.D.Disk.files l.fn.disk) (λ files. (items : List ReadItem) × HasCome l.version (content files l.name) l.walked items)
    × Fit l.version l.walked.index.spots l.walked.end

abbrev pub decreases-loop-walked : goal.decreases-loop-walked
decreases-loop-walked g l = 2 ^ 35 - l.walked.end
