use Rattle.std.proofs.Common.{◌≡◌, length}
use Rattle.std.specs.Prelude.{IfSome}
use Rattle.weed_base.specs.Files.{BothTold, content}
use Rattle.volume_items.specs.Changes.{ChangesOnly}
use Rattle.volume_items.specs.FileNames.{name_of}
use Rattle.volume_items.specs.Window.{IsOf}
use Rattle.volume_items.specs.declared.file_names.Part.TheVariants.{Items, Copy}
use Rattle.volume_items.proofs.Onward.{Onward}
use Rattle.volume_items.proofs.item_copy.copy_items.Given as goal

abbrev pub invariant-loop-entry : goal.invariant-loop-entry
invariant-loop-entry g l = (g.D.Disk.faults l.disk ≡ g.D.Disk.faults l.fn.disk) × (g.D.Disk.beside l.disk ≡ g.D.Disk.beside l.fn.disk)
    × IfSome (g.D.Disk.files l.disk) (λ files. IsOf (content files (name_of l.id Items)) l.window)
    × IfSome (g.D.Disk.files l.disk) (λ files. l.len ≡ length (content files (name_of l.id Items)))
    × BothTold (ChangesOnly (name_of l.id Copy)) (g.D.Disk.files l.fn.disk) (g.D.Disk.files l.disk)
    × BothTold (Onward l.id l.version l.end l.entries l.reached l.left) (g.D.Disk.files l.fn.disk) (g.D.Disk.files l.disk)

abbrev pub decreases-loop-entry : goal.decreases-loop-entry
decreases-loop-entry g l = length l.left
