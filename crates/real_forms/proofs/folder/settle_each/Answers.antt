use Rattle.std.proofs.Common.{ℕ, List, subst, ◌∙◌, inl, inr}
use Rattle.real_forms.specs.System.{CallFile, SettleAll, path_in}
use Rattle.real_forms.specs.Folder.{IsSettledAt}
use Rattle.real_forms.proofs.ListLemmas.{same_or_other, below_other}
use Rattle.real_forms.proofs.ActLemmas.{acts_one, acts_along, acts_more}
use Rattle.real_forms.proofs.FolderLemmas.{get_or_is}
use Rattle.real_forms.proofs.folder.settle_each.Goals as goal

pub loop-name-preserved : goal.loop-name-preserved
loop-name-preserved g c = (
  λ k d below.
      let settled : List ℕ → Type 0 = λ path. IsSettledAt g.R.System.answered g.R.System.file_answered path in
      let done = c.in_ok-settle_at.ensures.settled in
      elim (same_or_other k c.loop-name.name-index) [
        | inl here ↦
            let first = get_or_is c.args.names.now c.loop-name.name-index k c.name-item.result d c.loop-name-test.true here c.name-item.is in
            subst (λ name. settled (path_in c.args.directory.now name)) first (subst settled (c.as_str.ensures.value ∙ c.in_ok-path.ensures) (done.0, done.1, done.2))
        | inr other ↦ c.loop-name.invariant.0 k d (below_other k c.loop-name.name-index below other)
      ],
  acts_more g.R.System.one_act c.loop-name.invariant.1 c.settle_at.ensures.acts,
  acts_along g.R.System.one_done c.loop-name.invariant.2 (let done = c.in_ok-settle_at.ensures.settled in acts_one g.R.System.one_done (CallFile done.0 SettleAll) tt done.3),
)

pub returns-in_err-settle_at-clause-acts : goal.returns-in_err-settle_at-clause-acts
returns-in_err-settle_at-clause-acts g c = acts_more g.R.System.one_act c.loop-name.invariant.1 c.settle_at.ensures.acts
