use Rattle.std.proofs.Common.{◌≡◌, ◌<◌, ◌-◌, ◌^◌, subst, None}
use Rattle.std.specs.Prelude.{IfOk, IfErr, IfSome}
use Rattle.weed_base.specs.Files.{content}
use Rattle.std.proofs.lemmas.Result.{IfOk-weaker}
use Rattle.meta_log.specs.Faults.{IfDamaged}
use Rattle.meta_log.specs.Held.{gate_of}
use Rattle.meta_log.specs.LogText.{segment_name}
use Rattle.meta_log.specs.declared.stem.Stem.{Stem}
use Rattle.meta_log.specs.Left.{BreaksAt}
use Rattle.meta_log.specs.Places.{HoldsPlace, IsNext, begins_at, ReadsFrom}
use Rattle.meta_log.specs.RecordPlaces.{AreNext, HoldsRecordPlace}
use Rattle.meta_log.proofs.RecordPlaces.{told_next_records, told_behind_records, keeps_holds}
use Rattle.meta_log.proofs.Faulted.{IfErr-weaker}
use Rattle.meta_log.proofs.meta_log.MetaLog.read_from.Goals as goal

pub returns-clause-next : goal.returns-clause-next
returns-clause-next g c =
    let files = g.D.Disk.files c.args.disk.now in
    let meta = c.args.self.now in
    IfOk-weaker c.read_from.result (λ read. IsNext files meta.log c.args.place c.args.room read.0 read.1) (λ read. AreNext files meta c.args.place c.args.room read.0 read.1)
    (λ read is. told_next_records files meta c.args.place read.1 c.args.room read.0 is)
    c.read_from.ensures.next

pub returns-clause-behind : goal.returns-clause-behind
returns-clause-behind g c =
    let files = g.D.Disk.files c.args.disk.now in
    let meta = c.args.self.now in
    IfOk-weaker c.read_from.result (λ read. IsNext files meta.log c.args.place c.args.room read.0 read.1) (λ read. HoldsRecordPlace files meta c.args.place → HoldsRecordPlace (g.D.Disk.files c.read_from.new.disk) meta read.1)
    (λ read is keeps. told_behind_records files (g.D.Disk.files c.read_from.new.disk) meta c.args.place read.1 c.args.room read.0 c.read_from.ensures.looks.files keeps is)
    c.read_from.ensures.next

pub returns-clause-blamed : goal.returns-clause-blamed
returns-clause-blamed g c = subst (λ (s : Stem). IfErr c.read_from.result (IfDamaged (λ file at. (file ≡ segment_name s 1) × (at < gate_of c.args.self.now.log)))) c.args.self.now.is_log c.read_from.ensures.blamed

pub returns-clause-damaged : goal.returns-clause-damaged
returns-clause-damaged g c =
    let files = g.D.Disk.files c.args.disk.now in
    let meta = c.args.self.now in
    IfErr-weaker (λ _ _. HoldsPlace files meta.log c.args.place → files ≡ None) (λ _ _. HoldsRecordPlace files meta c.args.place → files ≡ None) c.read_from.result
    (λ file at undamaged keeps. undamaged (keeps_holds files meta c.args.place keeps)) c.read_from.ensures.damaged

pub returns-clause-reads : goal.returns-clause-reads
returns-clause-reads g c =
    subst (λ (s : Stem). IfOk c.read_from.result (λ read. IfSome (g.D.Disk.files c.args.disk.now) (λ files.
    ReadsFrom (content files (segment_name s 1)) (gate_of c.args.self.now.log) c.args.place c.args.room read.0 read.1)))
    c.args.self.now.is_log c.read_from.ensures.reads

pub returns-clause-breaks : goal.returns-clause-breaks
returns-clause-breaks g c =
    subst (λ (s : Stem). IfErr c.read_from.result (IfDamaged (λ _ at. IfSome (g.D.Disk.files c.args.disk.now) (λ files.
    BreaksAt (content files (segment_name s 1)) (gate_of c.args.self.now.log) c.args.room (2 ^ 64 - 1) (begins_at (content files (segment_name s 1)) c.args.place) at))))
    c.args.self.now.is_log c.read_from.ensures.breaks
