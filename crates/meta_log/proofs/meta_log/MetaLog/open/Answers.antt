use Rattle.std.proofs.Common.{refl}
use Rattle.meta_log.proofs.RecordLogs.{records_opened, records_kept, opened_keeps}
use Rattle.std.proofs.lemmas.Result.{err_from_is_err_and}
use Rattle.weed_base.proofs.ImageLemmas.{leaves_weaker}
use Rattle.meta_log.specs.Images.{ComesBy, IsMadeFrom, HasLogOf}
use Rattle.meta_log.specs.declared.stem.Stem.TheVariants.{Log}
use Rattle.meta_log.proofs.Faulted.{damaged_on}
use Rattle.meta_log.proofs.OpenCrashes.{log_of, log_settled, own_log}
use Rattle.meta_log.proofs.meta_log.MetaLog.open.Goals as goal

pub returns-in_err-gate-clause-kept : goal.returns-in_err-gate-clause-kept
returns-in_err-gate-clause-kept g c = records_kept (g.D.Disk.files c.args.disk.now) (g.D.Disk.files c.open_first.new.disk) c.open_first.ensures.others c.open_first.ensures.kept

pub returns-clause-opened : goal.returns-clause-opened
returns-clause-opened g c = records_opened (g.D.Disk.files c.args.disk.now) (g.D.Disk.files c.open_first.new.disk) _ refl c.in_ok-gate.ensures.opened

pub returns-clause-kept : goal.returns-clause-kept
returns-clause-kept g c = records_kept (g.D.Disk.files c.args.disk.now) (g.D.Disk.files c.open_first.new.disk) c.open_first.ensures.others c.open_first.ensures.kept

pub returns-clause-held : goal.returns-clause-held
returns-clause-held g c =
    opened_keeps (g.D.Disk.files c.args.disk.now) (g.D.Disk.files c.open_first.new.disk) _ c.open_first.ensures.others
    (records_opened (g.D.Disk.files c.args.disk.now) (g.D.Disk.files c.open_first.new.disk) _ refl c.in_ok-gate.ensures.opened)

-- what a crash leaves
pub returns-in_err-gate-clause-atomic : goal.returns-in_err-gate-clause-atomic
returns-in_err-gate-clause-atomic g c files is =
    leaves_weaker g.D.Disk.tick g.D.Disk.image_since c.args.disk.now c.open_first.new.disk (ComesBy (IsMadeFrom Log) (g.D.Disk.images c.args.disk.now)) (HasLogOf (g.D.Disk.images c.args.disk.now))
    (log_of (g.D.Disk.images c.args.disk.now)) (c.open_first.ensures.atomic files is)

pub returns-in_err-gate-clause-own : goal.returns-in_err-gate-clause-own
returns-in_err-gate-clause-own g c files is own =
    let p = err_from_is_err_and c.from_residual.result c.from_residual.ensures.1 in
    damaged_on _ _ c.from_residual.result p.0 c.in_err-gate.field-0.0 p.1 p.2
    (λ file at damage. own_log (g.D.Disk.files c.args.disk.now) (g.D.Disk.images c.args.disk.now) files is (g.met.D.Disk.reads_now c.args.disk.now files is) own file at damage.0)
    c.in_err-gate.ensures.damaged

pub returns-clause-atomic : goal.returns-clause-atomic
returns-clause-atomic g c files is =
    leaves_weaker g.D.Disk.tick g.D.Disk.image_since c.args.disk.now c.open_first.new.disk (ComesBy (IsMadeFrom Log) (g.D.Disk.images c.args.disk.now)) (HasLogOf (g.D.Disk.images c.args.disk.now))
    (log_of (g.D.Disk.images c.args.disk.now)) (c.open_first.ensures.atomic files is)

pub returns-clause-settled : goal.returns-clause-settled
returns-clause-settled g c =
    log_settled (g.D.Disk.files c.args.disk.now) (g.D.Disk.files c.open_first.new.disk) (g.D.Disk.images c.open_first.new.disk) c.in_ok-gate.ensures.settled c.open_first.ensures.kept
