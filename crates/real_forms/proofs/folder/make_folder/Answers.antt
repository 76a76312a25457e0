use Rattle.std.proofs.Common.{ℕ, List, refl, subst, inl, inr}
use Rattle.real_forms.specs.System.{MakeDirectory, OpenedToSettle}
use Rattle.real_forms.proofs.AwaitingLemmas.{on_ok}
use Rattle.real_forms.proofs.ActLemmas.{acts_none, acts_one, acts_more, acts_once}
use Rattle.real_forms.proofs.folder.make_folder.Goals as goal

pub returns-in_err-make_directory-clause-acts : goal.returns-in_err-make_directory-clause-acts
returns-in_err-make_directory-clause-acts g c = acts_one g.R.System.one_act (MakeDirectory c.args.path.now) (inr refl) c.make_directory.ensures.once

pub returns-clause-acts : goal.returns-clause-acts
returns-clause-acts g c =
    acts_more g.R.System.one_act (acts_one g.R.System.one_act (MakeDirectory c.args.path.now) (inr refl) c.make_directory.ensures.once)
    (acts_once g.R.System.one_act (λ act settling. inl settling) c.settle_at.ensures.acts)

pub returns-clause-made : goal.returns-clause-made
returns-clause-made g c =
    on_ok c.settle_at.result (λ settled. (_, _, settled.0, c.in_ok-make_directory.ensures.done, c.in_ok-make_directory.ensures.made, subst (λ (path : List ℕ). g.R.System.answered (OpenedToSettle path settled.0)) c.directory_above.ensures settled.1, settled.2, settled.3, acts_none g.R.System.one_done refl))
    c.settle_at.ensures.settled
