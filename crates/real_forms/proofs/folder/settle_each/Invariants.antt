use Rattle.std.proofs.Common.{◌<◌, ℕ, List, get_or}
use Rattle.real_forms.specs.System.{ActsOnly, IsSettling, path_in}
use Rattle.real_forms.specs.Folder.{IsSettledAt}
use Rattle.real_forms.proofs.folder.settle_each.Given as goal

-- those of the first names were settled
abbrev pub invariant-loop-name : goal.invariant-loop-name
invariant-loop-name g l =
    ((k : ℕ) (d : List ℕ) → k < l.name-index → IsSettledAt g.R.System.answered g.R.System.file_answered (path_in l.directory (get_or l.names k d)))
    × ActsOnly g.R.System.one_act IsSettling l.initial.system l.system
    × ActsOnly g.R.System.one_done IsSettling l.initial.system l.system
