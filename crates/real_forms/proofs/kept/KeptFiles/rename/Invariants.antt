use Rattle.std.proofs.Common.{◌≡◌, ◌<◌, ◌≤◌, ℕ, get_or, length}
use Rattle.real_forms.specs.Awaiting.{renamed_file}
use Rattle.real_forms.specs.declared.kept.KeptFile.{KeptFile}
use Rattle.real_forms.proofs.kept.KeptFiles.rename.Given as goal

abbrev pub invariant-loop-kept : goal.invariant-loop-kept
invariant-loop-kept g l =
    (length l.kept-items ≡ length l.initial.kept-items)
    × ((k : ℕ) (d : KeptFile g.row.F.Denot) → k < l.kept-index → get_or l.kept-items k d ≡ renamed_file l.from l.to (get_or l.initial.kept-items k d))
    × ((k : ℕ) (d : KeptFile g.row.F.Denot) → l.kept-index ≤ k → get_or l.kept-items k d ≡ get_or l.initial.kept-items k d)
