use Rattle.std.proofs.Common.{◌≡◌, ◌<◌, ◌≤◌, ℕ, get_or}
use Rattle.real_forms.specs.System.{ActsOnly, IsSettling}
use Rattle.real_forms.specs.Awaiting.{FallsByAnswer, AwaitsNothing, SettlesFirst}
use Rattle.real_forms.specs.declared.kept.KeptFile.{KeptFile}
use Rattle.real_forms.proofs.ListLemmas.{EachPair}
use Rattle.real_forms.proofs.kept.sync_each.Given as goal

abbrev pub invariant-loop-kept : goal.invariant-loop-kept
invariant-loop-kept g l =
    EachPair (FallsByAnswer g.R.System.file_answered) l.initial.files l.files
    × ((k : ℕ) (d : KeptFile g.row.F.Denot) → k < l.kept-index → AwaitsNothing (get_or l.files k d))
    × ((k : ℕ) (d : KeptFile g.row.F.Denot) → l.kept-index ≤ k → get_or l.files k d ≡ get_or l.initial.files k d)
    × ActsOnly g.R.System.one_act IsSettling l.initial.system l.system
    × ActsOnly g.R.System.one_done IsSettling l.initial.system l.system
    × SettlesFirst g.R.System.one_act l.initial.files l.kept-index l.initial.system l.system
