use Rattle.std.proofs.Common.{◌≤◌, ◌+◌, length, ◌∙◌, arith, sym, subst}
use Rattle.std.proofs.lemmas.Result.{err_from_is_err_and}
use Rattle.meta_log.specs.Segment.{items}
use Rattle.meta_log.proofs.Faulted.{damaged_on}
use Rattle.meta_log.proofs.Fetched.{told_next, told_undamaged, told_behind, whole_by_room}
use Rattle.meta_log.proofs.Stands.{told_reads, told_breaks_from}
use Rattle.meta_log.proofs.gate_log.GateLog.read_from.Goals as goal

pub returns-in_err-texts-clause-damaged : goal.returns-in_err-texts-clause-damaged
returns-in_err-texts-clause-damaged g c =
    let p = err_from_is_err_and c.from_residual-in_err-texts.result c.from_residual-in_err-texts.ensures.1 in
    damaged_on _ _ c.from_residual-in_err-texts.result p.0 c.in_err-texts.field-0.0 p.1 p.2
    (λ file at refuted holds. told_undamaged (g.D.Disk.files c.args.disk.now) (g.D.Disk.files c.begin.new.disk) c.first_segment-name.result c.args.self.now c.first_segment-name.ensures c.args.place c.in_ok-reading.reading
    c.begin.ensures.looks.files holds c.in_ok-reading.ensures.of refuted)
    c.in_err-texts.ensures.damaged

pub returns-clause-next : goal.returns-clause-next
returns-clause-next g c =
    told_next (g.D.Disk.files c.args.disk.now) (g.D.Disk.files c.begin.new.disk) c.first_segment-name.result c.args.self.now c.first_segment-name.ensures c.args.place c.in_ok-reading.reading c.args.room _ c.args.self.now.bounded
    c.in_ok-texts.texts.items c.of.result c.at.result c.begin.ensures.looks.files c.of.ensures c.in_ok-reading.ensures.of c.in_ok-texts.ensures.texts (c.at.ensures.at ∙ c.in_ok-texts.ensures.place)

pub returns-clause-behind : goal.returns-clause-behind
returns-clause-behind g c holds =
    told_behind (g.D.Disk.files c.args.disk.now) (g.D.Disk.files c.collect.new.disk) c.args.self.now c.args.place _ c.args.room c.of.result (c.collect.ensures.looks.files ∙ c.begin.ensures.looks.files) holds
    (told_next (g.D.Disk.files c.args.disk.now) (g.D.Disk.files c.begin.new.disk) c.first_segment-name.result c.args.self.now c.first_segment-name.ensures c.args.place c.in_ok-reading.reading c.args.room _ c.args.self.now.bounded
    c.in_ok-texts.texts.items c.of.result c.at.result c.begin.ensures.looks.files c.of.ensures c.in_ok-reading.ensures.of c.in_ok-texts.ensures.texts (c.at.ensures.at ∙ c.in_ok-texts.ensures.place))

pub returns-clause-whole : goal.returns-clause-whole
returns-clause-whole g c =
    whole_by_room c.args.room _ c.args.self.now.gate c.collect.new.reading.at c.in_ok-reading.reading.at c.at.result c.in_ok-texts.texts.items c.of.result c.of.ensures c.at.ensures.at c.in_ok-texts.ensures.place
    (omega arith) (omega arith) c.in_ok-texts.ensures.whole

pub returns-in_err-texts-clause-blamed : goal.returns-in_err-texts-clause-blamed
returns-in_err-texts-clause-blamed g c =
    let p = err_from_is_err_and c.from_residual-in_err-texts.result c.from_residual-in_err-texts.ensures.1 in
    damaged_on _ _ c.from_residual-in_err-texts.result p.0 c.in_err-texts.field-0.0 p.1 p.2 (λ file at blamed. (blamed.0 ∙ c.first_segment-name.ensures, blamed.2)) c.in_err-texts.ensures.blamed

pub returns-clause-moves : goal.returns-clause-moves
returns-clause-moves g c =
    subst (λ texts. c.at.result ≤ c.args.place.at + length (items texts)) (sym c.of.ensures)
    (omega (arith, c.at.ensures.at, c.in_ok-texts.ensures.place, c.in_ok-reading.ensures.ahead))

pub returns-clause-reads : goal.returns-clause-reads
returns-clause-reads g c =
    told_reads (g.D.Disk.files c.args.disk.now) (g.D.Disk.files c.begin.new.disk) c.first_segment-name.result _ c.args.self.now.gate c.args.place c.in_ok-reading.reading c.args.room _ c.in_ok-texts.texts.items c.of.result c.at.result
    c.first_segment-name.ensures c.begin.ensures.looks.files c.of.ensures c.in_ok-reading.ensures.of c.in_ok-texts.ensures.stand c.in_ok-texts.ensures.few (c.at.ensures.at ∙ c.in_ok-texts.ensures.place)

pub returns-in_err-texts-clause-breaks : goal.returns-in_err-texts-clause-breaks
returns-in_err-texts-clause-breaks g c =
    let p = err_from_is_err_and c.from_residual-in_err-texts.result c.from_residual-in_err-texts.ensures.1 in
    damaged_on _ _ c.from_residual-in_err-texts.result p.0 c.in_err-texts.field-0.0 p.1 p.2
    (λ file at breaks. told_breaks_from (g.D.Disk.files c.args.disk.now) (g.D.Disk.files c.begin.new.disk) c.first_segment-name.result _ c.args.self.now.gate c.args.place c.in_ok-reading.reading c.args.room _ at
    c.first_segment-name.ensures c.begin.ensures.looks.files c.in_ok-reading.ensures.of breaks)
    c.in_err-texts.ensures.breaks
