use Rattle.real_forms.specs.System.{CallFile, SettleAll}
use Rattle.real_forms.proofs.ActLemmas.{acts_one, acts_along}
use Rattle.real_forms.proofs.kept.KeptFiles.sync.Goals as goal

pub returns-in_err-settle_all-clause-acts : goal.returns-in_err-settle_all-clause-acts
returns-in_err-settle_all-clause-acts g c = acts_along g.R.System.one_act c.sync_each.ensures.acts (acts_one g.R.System.one_act (CallFile _ SettleAll) tt c.settle_all.ensures.once)

pub returns-in_ok-settle_all-clause-acts : goal.returns-in_ok-settle_all-clause-acts
returns-in_ok-settle_all-clause-acts g c = acts_along g.R.System.one_act c.sync_each.ensures.acts (acts_one g.R.System.one_act (CallFile _ SettleAll) tt c.settle_all.ensures.once)

pub returns-in_ok-settle_all-clause-done : goal.returns-in_ok-settle_all-clause-done
returns-in_ok-settle_all-clause-done g c = acts_along g.R.System.one_done c.in_ok-sync_each.ensures.done (acts_one g.R.System.one_done (CallFile _ SettleAll) tt c.in_ok-settle_all.ensures.done)
