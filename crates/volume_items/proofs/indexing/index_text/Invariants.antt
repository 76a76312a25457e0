use Rattle.std.proofs.Common.{◌≡◌, ◌-◌, ◌≤◌, ◌^◌, List}
use Rattle.std.specs.Prelude.{IfSome}
use Rattle.weed_base.specs.Files.{content}
use Rattle.weed_base.specs.DiskCalls.{Looks}
use Rattle.needle.specs.declared.item.ReadItem.{ReadItem}
use Rattle.volume_items.specs.Window.{IsOf}
use Rattle.volume_items.specs.Walk.{HasEntries}
use Rattle.volume_items.proofs.indexing.index_text.Given as goal

abbrev pub invariant-loop-text : goal.invariant-loop-text
invariant-loop-text g l = (l.place ≤ 2 ^ 35 - 8) × Looks g.D.Disk l.fn.disk l.disk × (g.D.Disk.faults l.disk ≡ g.D.Disk.faults l.fn.disk)
    × (g.D.Disk.beside l.disk ≡ g.D.Disk.beside l.fn.disk) × IfSome (g.D.Disk.files l.fn.disk) (λ files. IsOf (content files l.name) l.window)
    × IfSome (g.D.Disk.files l.fn.disk) (λ files. (items : List ReadItem) × HasEntries l.version (content files l.name) l.place l.text items)

abbrev pub decreases-loop-text : goal.decreases-loop-text
decreases-loop-text g l = 2 ^ 35 - l.place
