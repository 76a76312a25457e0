use Rattle.std.proofs.Common.{◌+◌, get_or, ap, arith}
use Rattle.std.proofs.lemmas.Grind.{common_steps}
use Rattle.real_forms.specs.Awaiting.{FallsByAnswer}
use Rattle.real_forms.proofs.ListLemmas.{zip_of_places}
use Rattle.real_forms.proofs.ActLemmas.{acts_more}
use Rattle.real_forms.proofs.AwaitingLemmas.{falls_set, nothing_set, settles_next}
use Rattle.real_forms.proofs.kept.sync_each.Goals as goal

pub returns-in_err-sync-clause-marks : goal.returns-in_err-sync-clause-marks
returns-in_err-sync-clause-marks g c =
    zip_of_places (FallsByAnswer g.R.System.file_answered) _ _
    (falls_set g.R.System.file_answered _ c.loop-kept.files c.loop-kept.kept-index _ c.sync.new.self c.loop-kept.invariant.0 c.loop-kept.invariant.2 (omega arith)
    (ap (λ item. get_or c.loop-kept.files c.loop-kept.kept-index item) c.kept-item.is) c.sync.ensures.mark)

pub returns-clause-marks : goal.returns-clause-marks
returns-clause-marks g c = zip_of_places (FallsByAnswer g.R.System.file_answered) _ _ c.loop-kept.invariant.0

pub loop-kept-preserved : goal.loop-kept-preserved
loop-kept-preserved g c = (
  falls_set g.R.System.file_answered _ c.loop-kept.files c.loop-kept.kept-index _ c.sync.new.self c.loop-kept.invariant.0 c.loop-kept.invariant.2 (omega arith)
      (ap (λ item. get_or c.loop-kept.files c.loop-kept.kept-index item) c.kept-item.is) c.sync.ensures.mark,
  nothing_set c.loop-kept.files c.loop-kept.kept-index c.sync.new.self (omega arith) c.loop-kept.invariant.1 c.in_ok-sync.ensures.settled,
  λ k d above. grind (arith, common_steps, c.loop-kept.invariant.2 k d),
  acts_more g.R.System.one_act c.loop-kept.invariant.3 c.sync.ensures.acts,
  acts_more g.R.System.one_done c.loop-kept.invariant.4 c.in_ok-sync.ensures.done,
  settles_next g.R.System.one_act c.args.files.now c.loop-kept.files c.loop-kept.kept-index _ _ _ _ c.loop-kept.invariant.5 (omega arith) (c.loop-kept.invariant.2 c.loop-kept.kept-index) (ap (λ item. get_or c.loop-kept.files c.loop-kept.kept-index item) c.kept-item.is) c.sync.ensures.once,
)

pub returns-in_err-sync-clause-acts : goal.returns-in_err-sync-clause-acts
returns-in_err-sync-clause-acts g c = acts_more g.R.System.one_act c.loop-kept.invariant.3 c.sync.ensures.acts

pub returns-in_err-sync-clause-turns : goal.returns-in_err-sync-clause-turns
returns-in_err-sync-clause-turns g c = (
  c.loop-kept.kept-index + 1,
  omega (arith, c.loop-kept.invariant.0.0),
  settles_next g.R.System.one_act c.args.files.now c.loop-kept.files c.loop-kept.kept-index _ _ _ _ c.loop-kept.invariant.5 (omega arith) (c.loop-kept.invariant.2 c.loop-kept.kept-index) (ap (λ item. get_or c.loop-kept.files c.loop-kept.kept-index item) c.kept-item.is) c.sync.ensures.once,
)
