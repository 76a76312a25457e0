use Rattle.std.proofs.Common.{[], ◌∷◌, ◌++◌, ℕ, ◌+◌, ◌<◌, sym, subst, ap}
use Rattle.std.proofs.lemmas.Result.{err_from_is_err_and}
use Rattle.meta_log.specs.declared.front.Front.{Front}
use Rattle.weed_base.specs.Files.{BothTold}
use Rattle.meta_log.specs.LogText.{segment_name, ChangesOnly}
use Rattle.meta_log.specs.Kept.{front_of}
use Rattle.meta_log.proofs.RecordLists.{record_appended, record_failed, texts_appended, texts_failed}
use Rattle.meta_log.proofs.RecordCrashes.{same_texts, records_leave, records_settle}
use Rattle.meta_log.proofs.meta_log.MetaLog.append.Goals as goal

pub returns-in_err-append-clause-failed : goal.returns-in_err-append-clause-failed
returns-in_err-append-clause-failed g c =
    let p = err_from_is_err_and c.from_residual.result c.from_residual.ensures.1 in
    rw p.1 (λ records known held reads is.
    record_failed (g.D.Disk.files c.args.disk.now) (g.D.Disk.files c.append.new.disk) c.args.self.now c.args.text.now
    (subst (λ s. BothTold (ChangesOnly (segment_name s 1)) (g.D.Disk.files c.args.disk.now) (g.D.Disk.files c.append.new.disk)) c.args.self.now.is_log c.in_err-append.ensures.others)
    c.args.self.now.is_log c.in_err-append.ensures.failed records known held reads (subst (λ n. (front_of c.args.self.now).time < n) (sym is) c.requires.past))

pub returns-clause-appended : goal.returns-clause-appended
returns-clause-appended g c records known held reads is =
    record_appended (g.D.Disk.files c.args.disk.now) (g.D.Disk.files c.append.new.disk) c.args.self.now _ c.args.text.now
    (subst (λ s. BothTold (ChangesOnly (segment_name s 1)) (g.D.Disk.files c.args.disk.now) (g.D.Disk.files c.append.new.disk)) c.args.self.now.is_log c.in_ok-append.ensures.others)
    c.in_ok-append.ensures.appended records known held reads (subst (λ n. (front_of c.args.self.now).time < n) (sym is) c.requires.past)
    (ap (λ (n : ℕ). let f : Front = record { count = c.args.self.now.front.count + 1; time = n } in f) (sym is))

pub returns-clause-held : goal.returns-clause-held
returns-clause-held g c =
    let held = c.requires.held in
    let reads = c.requires.reads in (
      held.0 ++ reads.0 ∷ [],
      record_appended (g.D.Disk.files c.args.disk.now) (g.D.Disk.files c.append.new.disk) c.args.self.now _ c.args.text.now
          (subst (λ s. BothTold (ChangesOnly (segment_name s 1)) (g.D.Disk.files c.args.disk.now) (g.D.Disk.files c.append.new.disk)) c.args.self.now.is_log c.in_ok-append.ensures.others)
          c.in_ok-append.ensures.appended held.0 reads.0 held.1 reads.1 (subst (λ n. (front_of c.args.self.now).time < n) (sym reads.2) c.requires.past)
          (ap (λ (n : ℕ). let f : Front = record { count = c.args.self.now.front.count + 1; time = n } in f) (sym reads.2)),
    )

-- the texts
pub returns-in_err-append-clause-text_failed : goal.returns-in_err-append-clause-text_failed
returns-in_err-append-clause-text_failed g c =
    let p = err_from_is_err_and c.from_residual.result c.from_residual.ensures.1 in
    rw p.1 (texts_failed (g.D.Disk.files c.args.disk.now) (g.D.Disk.files c.append.new.disk) c.args.self.now c.args.text.now c.requires.held.0
    (subst (λ s. BothTold (ChangesOnly (segment_name s 1)) (g.D.Disk.files c.args.disk.now) (g.D.Disk.files c.append.new.disk)) c.args.self.now.is_log c.in_err-append.ensures.others)
    c.args.self.now.is_log c.requires.held.1 c.in_err-append.ensures.failed)

pub returns-clause-text_appended : goal.returns-clause-text_appended
returns-clause-text_appended g c =
    texts_appended (g.D.Disk.files c.args.disk.now) (g.D.Disk.files c.append.new.disk) c.args.self.now _ c.args.text.now c.requires.held.0
    (subst (λ s. BothTold (ChangesOnly (segment_name s 1)) (g.D.Disk.files c.args.disk.now) (g.D.Disk.files c.append.new.disk)) c.args.self.now.is_log c.in_ok-append.ensures.others)
    c.args.self.now.is_log c.append.ensures.stem c.requires.held.1 c.in_ok-append.ensures.appended

-- what a crash leaves
pub returns-in_err-append-clause-atomic : goal.returns-in_err-append-clause-atomic
returns-in_err-append-clause-atomic g c files records known is kept reads time keep =
    let meta = c.args.self.now in
    let hold = same_texts meta files records meta.is_log kept (g.D.Disk.images c.args.disk.now) (g.met.D.Disk.reads_now c.args.disk.now files is) keep in
    records_leave meta files records meta.is_log kept c.args.text.now known reads (subst (λ n. (front_of meta).time < n) (sym time) c.requires.past)
    g.D.Disk.tick g.D.Disk.image_since c.args.disk.now c.append.new.disk (c.append.ensures.atomic files kept.payloads is kept.held hold)

pub returns-clause-atomic : goal.returns-clause-atomic
returns-clause-atomic g c files records known is kept reads time keep =
    let meta = c.args.self.now in
    let hold = same_texts meta files records meta.is_log kept (g.D.Disk.images c.args.disk.now) (g.met.D.Disk.reads_now c.args.disk.now files is) keep in
    records_leave meta files records meta.is_log kept c.args.text.now known reads (subst (λ n. (front_of meta).time < n) (sym time) c.requires.past)
    g.D.Disk.tick g.D.Disk.image_since c.args.disk.now c.append.new.disk (c.append.ensures.atomic files kept.payloads is kept.held hold)

pub returns-clause-settled : goal.returns-clause-settled
returns-clause-settled g c files records known is kept reads time =
    let meta = c.args.self.now in
    records_settle meta files records meta.is_log kept c.args.text.now known reads (subst (λ n. (front_of meta).time < n) (sym time) c.requires.past)
    (g.D.Disk.images c.append.new.disk) (c.in_ok-append.ensures.settled files kept.payloads is kept.held)
