use Rattle.std.proofs.Common.{rules}
use Rattle.std.proofs.lemmas.Result.{err_from_is_err_and}
use Rattle.std.specs.Prelude.{IfSome}
use Rattle.weed_base.specs.Files.{content}
use Rattle.meta_log.specs.Skip.{PassesTo}
use Rattle.meta_log.proofs.Faulted.{damaged_on}
use Rattle.meta_log.proofs.Skipped.{told_none_before}
use Rattle.meta_log.proofs.Passed.{told_passes_none, told_passes_more, told_passes_stop, told_passes_break}
use Rattle.meta_log.proofs.rising.skip_past.Goals as goal

pub returns-in_err-skip_one-clause-damaged : goal.returns-in_err-skip_one-clause-damaged
returns-in_err-skip_one-clause-damaged g c =
    let p = err_from_is_err_and c.from_residual.result c.from_residual.ensures.1 in
    damaged_on _ _ c.from_residual.result p.0 c.in_err-skip_one.field-0.0 p.1 p.2
    (λ file at. told_none_before (g.D.Disk.files c.args.disk.now) (g.D.Disk.files c.skipping.disk) c.args.name.now c.args.gate c.args.after c.args.reading.now.at c.skipping.reading.at c.skipping.invariant.files c.skipping.invariant.skipped)
    c.in_err-skip_one.ensures.damaged

pub returns-in_err-skip_one-clause-breaks : goal.returns-in_err-skip_one-clause-breaks
returns-in_err-skip_one-clause-breaks g c =
    let p = err_from_is_err_and c.from_residual.result c.from_residual.ensures.1 in
    damaged_on _ _ c.from_residual.result p.0 c.in_err-skip_one.field-0.0 p.1 p.2
    (λ file at breaks. told_passes_break (g.D.Disk.files c.args.disk.now) (g.D.Disk.files c.skipping.disk) c.args.name.now c.args.gate c.args.after c.args.reading.now.at c.skipping.reading.at at c.skipping.invariant.files c.skipping.invariant.passed breaks)
    c.in_err-skip_one.ensures.breaks

pub skipping-init : goal.skipping-init
skipping-init g c = record {
  files = search rules;
  of = search rules;
  skipped = search rules;
  passed = told_passes_none (g.D.Disk.files c.args.disk.now) c.args.name.now c.args.gate c.args.after c.args.reading.now.at;
  faults = search rules;
  beside = search rules;
  still = search rules;
}

pub skipping-preserved : goal.skipping-preserved
skipping-preserved g c =
    let passes : IfSome (g.D.Disk.files c.skipping.disk) (λ files. PassesTo (content files c.args.name.now) c.args.gate c.args.after c.skipping.reading.at c.skip_one.new.reading.at) =
    rw c.if-branch.true at c.in_ok-skip_one.ensures.passes in
    record {
      files = search rules;
      of = search rules;
      skipped = search rules;
      passed = told_passes_more (g.D.Disk.files c.args.disk.now) (g.D.Disk.files c.skipping.disk) c.args.name.now c.args.gate c.args.after c.args.reading.now.at c.skipping.reading.at c.skip_one.new.reading.at
          c.skipping.invariant.files c.skipping.invariant.passed passes;
      faults = search rules;
      beside = search rules;
      still = search rules;
    }

pub returns-clause-passes : goal.returns-clause-passes
returns-clause-passes g c =
    told_passes_stop (g.D.Disk.files c.args.disk.now) (g.D.Disk.files c.skipping.disk) c.args.name.now c.args.gate c.args.after c.args.reading.now.at c.skipping.reading.at c.skip_one.new.reading.at
    c.skipping.invariant.files c.skipping.invariant.passed (rw c.if-branch.false at c.in_ok-skip_one.ensures.passes)
