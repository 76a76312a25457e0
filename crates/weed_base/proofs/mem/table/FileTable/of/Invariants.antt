use Rattle.std.proofs.Common.{◌≡◌, ◌≤◌, drop, length}
use Rattle.weed_base.specs.NamedBytes.{files_from}
use Rattle.weed_base.proofs.mem.table.FileTable.of.Given as goal

abbrev pub invariant-loop-left : goal.invariant-loop-left
invariant-loop-left l = (l.left ≤ length l.files) × (l.table ≡ files_from (drop l.left l.files))

abbrev pub decreases-loop-left : goal.decreases-loop-left
decreases-loop-left l = l.left
