use Rattle.std.proofs.Common.{inl}
use Rattle.real_forms.proofs.ActLemmas.{acts_along, acts_among}
use Rattle.real_forms.proofs.dir_disk.DirDisk.open.Goals as goal

pub returns-clause-acts : goal.returns-clause-acts
returns-clause-acts g c = acts_along g.R.System.one_act (acts_among g.R.System.one_act (λ act settling. inl settling) c.settle.ensures.acts) c.open.ensures.acts

pub returns-in_err-settle-clause-acts : goal.returns-in_err-settle-clause-acts
returns-in_err-settle-clause-acts g c = acts_among g.R.System.one_act (λ act settling. inl settling) c.settle.ensures.acts
