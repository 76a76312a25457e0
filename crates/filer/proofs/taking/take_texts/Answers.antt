use Rattle.std.proofs.Common.{rules}
use Rattle.std.proofs.lemmas.Result.{err_from_is_err_and}
use Rattle.filer.proofs.Takings.{damaged_on, takes_step, takes_ends}
use Rattle.filer.proofs.taking.take_texts.Goals as goal

pub loop-text-preserved : goal.loop-text-preserved
loop-text-preserved g c = record {
  taken = takes_step c.args.texts.now c.loop-text.text-index c.text-item.result c.as_slice.result.now c.loop-text-test.true c.text-item.is c.as_slice.ensures
      (g.K.Names.map c.args.keeper.now) (g.K.Names.map c.loop-text.keeper) (g.K.Names.map c.take_text.new.keeper) c.loop-text.invariant.taken c.in_ok-take_text.ensures.taken;
  faults = search rules;
  beside = search rules;
}

pub returns-in_err-take_text-clause-damaged : goal.returns-in_err-take_text-clause-damaged
returns-in_err-take_text-clause-damaged g c =
    let p = err_from_is_err_and c.from_residual.result c.from_residual.ensures.1 in
    damaged_on _ _ c.from_residual.result p.0 c.in_err-take_text.field-0.0 p.1 p.2
    (λ file at unread. takes_ends c.args.texts.now c.loop-text.text-index c.text-item.result c.as_slice.result.now c.loop-text-test.true c.text-item.is c.as_slice.ensures unread)
    c.in_err-take_text.ensures.damaged
