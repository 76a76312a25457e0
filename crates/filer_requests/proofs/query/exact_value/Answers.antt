use Rattle.std.proofs.Common.{arith, ◌∙◌}
use Rattle.filer_requests.proofs.QueryLemmas.{digits_more, digits_past, all_digits}
use Rattle.filer_requests.proofs.query.exact_value.Goals as goal

pub returns-in_err-checked_mul : goal.returns-in_err-checked_mul
returns-in_err-checked_mul c = λ all. c.from_residual.ensures ∙ digits_past c.args.digits.now c.loop-digit.digit-index c.loop-digit.value all c.loop-digit-test.true (c.loop-digit.invariant.value all) (let h = c.in_err-checked_mul.ensures in omega (arith, h))

pub returns-in_err-value : goal.returns-in_err-value
returns-in_err-value c = λ all. c.from_residual-in_err-value.ensures ∙ digits_past c.args.digits.now c.loop-digit.digit-index c.loop-digit.value all c.loop-digit-test.true (c.loop-digit.invariant.value all) (let h = c.in_err-value.ensures in omega (arith, h, c.in_ok-checked_mul.ensures, c.from.ensures, c.saturating_sub.ensures))

pub loop-digit-preserved : goal.loop-digit-preserved
loop-digit-preserved c = record {
  fits = omega (arith, c.in_ok-value.ensures);
  value = λ all.
      let step = digits_more c.args.digits.now c.loop-digit.digit-index c.loop-digit.value all c.loop-digit-test.true (c.loop-digit.invariant.value all) in
      omega (arith, step, c.in_ok-value.ensures, c.in_ok-checked_mul.ensures, c.from.ensures, c.saturating_sub.ensures);
}

pub returns : goal.returns
returns c = λ all. all_digits c.args.digits.now c.loop-digit.digit-index c.loop-digit.value c.loop-digit-test.false (c.loop-digit.invariant.value all) c.loop-digit.invariant.fits
