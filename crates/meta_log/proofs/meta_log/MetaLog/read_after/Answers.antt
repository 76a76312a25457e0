use Rattle.std.proofs.Common.{◌∙◌, ap, sym, arith}
use Rattle.std.proofs.lemmas.Result.{err_from_is_err_and}
use Rattle.meta_log.specs.LogText.{segment_name}
use Rattle.meta_log.proofs.Faulted.{damaged_on, damaged_both}
use Rattle.meta_log.proofs.Passed.{told_reads_after, told_breaks_passing, told_breaks_behind}
use Rattle.meta_log.proofs.Batches.{told_past, told_records_undamaged, told_skipped_undamaged}
use Rattle.meta_log.proofs.meta_log.MetaLog.read_after.Goals as goal

pub returns-in_err-skip_past-clause-damaged : goal.returns-in_err-skip_past-clause-damaged
returns-in_err-skip_past-clause-damaged g c =
    let p = err_from_is_err_and c.from_residual-in_err-skip_past.result c.from_residual-in_err-skip_past.ensures.1 in
    let name_is = c.first_segment-name.ensures ∙ ap (λ s. segment_name s 1) (sym c.args.self.now.is_log) in
    damaged_on _ _ c.from_residual-in_err-skip_past.result p.0 c.in_err-skip_past.field-0.0 p.1 p.2
    (λ file at refuted keeps. told_skipped_undamaged (g.D.Disk.files c.args.disk.now) (g.D.Disk.files c.begin.new.disk) c.first_segment-name.result c.args.self.now name_is c.in_ok-reading.reading c.args.after
    c.begin.ensures.looks.files keeps.0 keeps.1 c.in_ok-reading.ensures.of refuted)
    c.in_err-skip_past.ensures.damaged

pub returns-in_err-skip_past-clause-blamed : goal.returns-in_err-skip_past-clause-blamed
returns-in_err-skip_past-clause-blamed g c =
    let p = err_from_is_err_and c.from_residual-in_err-skip_past.result c.from_residual-in_err-skip_past.ensures.1 in
    damaged_on _ _ c.from_residual-in_err-skip_past.result p.0 c.in_err-skip_past.field-0.0 p.1 p.2 (λ file at blamed. (blamed.0 ∙ c.first_segment-name.ensures, blamed.2)) c.in_err-skip_past.ensures.blamed

pub returns-in_err-texts-clause-damaged : goal.returns-in_err-texts-clause-damaged
returns-in_err-texts-clause-damaged g c =
    let p = err_from_is_err_and c.from_residual-in_err-texts.result c.from_residual-in_err-texts.ensures.1 in
    let name_is = c.first_segment-name.ensures ∙ ap (λ s. segment_name s 1) (sym c.args.self.now.is_log) in
    damaged_on _ _ c.from_residual-in_err-texts.result p.0 c.in_err-texts.field-0.0 p.1 p.2
    (λ file at refuted keeps. told_records_undamaged (g.D.Disk.files c.args.disk.now) (g.D.Disk.files c.begin.new.disk) (g.D.Disk.files c.skip_past.new.disk) c.first_segment-name.result c.args.self.now name_is c.in_ok-reading.reading c.skip_past.new.reading c.args.after
    c.begin.ensures.looks.files c.skip_past.ensures.looks.files keeps.0 keeps.1 c.in_ok-reading.ensures.of c.in_ok-skip_past.ensures.skipped refuted)
    c.in_err-texts.ensures.damaged

pub returns-clause-past : goal.returns-clause-past
returns-clause-past g c =
    let name_is = c.first_segment-name.ensures ∙ ap (λ s. segment_name s 1) (sym c.args.self.now.is_log) in
    told_past (g.D.Disk.files c.args.disk.now) (g.D.Disk.files c.begin.new.disk) (g.D.Disk.files c.skip_past.new.disk) c.first_segment-name.result c.args.self.now name_is c.in_ok-reading.reading c.skip_past.new.reading c.args.after c.args.room
    c.in_ok-texts.texts.items c.of.result c.begin.ensures.looks.files c.skip_past.ensures.looks.files c.of.ensures c.in_ok-reading.ensures.of c.in_ok-skip_past.ensures.skipped c.in_ok-texts.ensures.texts

pub returns-in_err-texts-clause-blamed : goal.returns-in_err-texts-clause-blamed
returns-in_err-texts-clause-blamed g c =
    let p = err_from_is_err_and c.from_residual-in_err-texts.result c.from_residual-in_err-texts.ensures.1 in
    damaged_on _ _ c.from_residual-in_err-texts.result p.0 c.in_err-texts.field-0.0 p.1 p.2 (λ file at blamed. (blamed.0 ∙ c.first_segment-name.ensures, blamed.2)) c.in_err-texts.ensures.blamed

pub returns-clause-reads : goal.returns-clause-reads
returns-clause-reads g c =
    told_reads_after (g.D.Disk.files c.args.disk.now) (g.D.Disk.files c.begin.new.disk) (g.D.Disk.files c.skip_past.new.disk) c.first_segment-name.result _ c.args.self.now.log.gate c.args.after c.args.room c.in_ok-reading.reading.at c.skip_past.new.reading.at c.collect.new.reading.at
    c.in_ok-texts.texts.items c.of.result c.first_segment-name.ensures c.begin.ensures.looks.files c.skip_past.ensures.looks.files c.of.ensures (omega (arith, c.in_ok-reading.ensures.ahead))
    c.in_ok-skip_past.ensures.passes c.in_ok-texts.ensures.stand c.in_ok-texts.ensures.few c.in_ok-texts.ensures.place c.in_ok-texts.ensures.whole

pub returns-in_err-skip_past-clause-breaks : goal.returns-in_err-skip_past-clause-breaks
returns-in_err-skip_past-clause-breaks g c =
    let p = err_from_is_err_and c.from_residual-in_err-skip_past.result c.from_residual-in_err-skip_past.ensures.1 in
    damaged_on _ _ c.from_residual-in_err-skip_past.result p.0 c.in_err-skip_past.field-0.0 p.1 p.2
    (λ file at found. told_breaks_passing (g.D.Disk.files c.args.disk.now) (g.D.Disk.files c.begin.new.disk) c.first_segment-name.result _ c.args.self.now.log.gate c.args.after c.args.room c.in_ok-reading.reading.at at
    c.first_segment-name.ensures c.begin.ensures.looks.files (omega (arith, c.in_ok-reading.ensures.ahead)) found.1.2 found.0)
    (damaged_both _ _ c.in_err-skip_past.field-0.0 c.in_err-skip_past.ensures.breaks c.in_err-skip_past.ensures.blamed)

pub returns-in_err-texts-clause-breaks : goal.returns-in_err-texts-clause-breaks
returns-in_err-texts-clause-breaks g c =
    let p = err_from_is_err_and c.from_residual-in_err-texts.result c.from_residual-in_err-texts.ensures.1 in
    damaged_on _ _ c.from_residual-in_err-texts.result p.0 c.in_err-texts.field-0.0 p.1 p.2
    (λ file at breaks. told_breaks_behind (g.D.Disk.files c.args.disk.now) (g.D.Disk.files c.begin.new.disk) (g.D.Disk.files c.skip_past.new.disk) c.first_segment-name.result _ c.args.self.now.log.gate c.args.after c.args.room c.in_ok-reading.reading.at c.skip_past.new.reading.at at
    c.first_segment-name.ensures c.begin.ensures.looks.files c.skip_past.ensures.looks.files (omega (arith, c.in_ok-reading.ensures.ahead)) c.in_ok-skip_past.ensures.passes breaks)
    c.in_err-texts.ensures.breaks
