use Rattle.std.proofs.Common.{refl}
use Rattle.meta_log.proofs.Kept.{opened, opened_holds}
use Rattle.std.proofs.lemmas.Result.{err_from_is_err_and}
use Rattle.weed_base.proofs.ImageLemmas.{leaves_weaker}
use Rattle.meta_log.specs.Images.{ComesBy, IsMadeFrom, HasListOf}
use Rattle.meta_log.proofs.Faulted.{damaged_on}
use Rattle.meta_log.proofs.OpenCrashes.{list_of, list_settled, own_list}
use Rattle.meta_log.proofs.gate_log.GateLog.open.Goals as goal

pub returns-clause-opened : goal.returns-clause-opened
returns-clause-opened g c = opened (g.D.Disk.files c.args.disk.now) (g.D.Disk.files c.open_stem.new.disk) c.args.stem _ refl c.in_ok-gate.ensures.opened

pub returns-clause-held : goal.returns-clause-held
returns-clause-held g c =
    opened_holds (g.D.Disk.files c.args.disk.now) (g.D.Disk.files c.open_stem.new.disk) c.args.stem _ c.open_stem.ensures.others
    (opened (g.D.Disk.files c.args.disk.now) (g.D.Disk.files c.open_stem.new.disk) c.args.stem _ refl c.in_ok-gate.ensures.opened)

-- what a crash leaves
pub returns-in_err-gate-clause-atomic : goal.returns-in_err-gate-clause-atomic
returns-in_err-gate-clause-atomic g c files is =
    leaves_weaker g.D.Disk.tick g.D.Disk.image_since c.args.disk.now c.open_stem.new.disk (ComesBy (IsMadeFrom c.args.stem) (g.D.Disk.images c.args.disk.now)) (HasListOf c.args.stem (g.D.Disk.images c.args.disk.now))
    (list_of c.args.stem (g.D.Disk.images c.args.disk.now)) (c.open_stem.ensures.atomic files is)

pub returns-in_err-gate-clause-own : goal.returns-in_err-gate-clause-own
returns-in_err-gate-clause-own g c files is lists =
    let p = err_from_is_err_and c.from_residual.result c.from_residual.ensures.1 in
    damaged_on _ _ c.from_residual.result p.0 c.in_err-gate.field-0.0 p.1 p.2
    (λ file at damage. own_list c.args.stem (g.D.Disk.files c.args.disk.now) (g.D.Disk.images c.args.disk.now) files is (g.met.D.Disk.reads_now c.args.disk.now files is) lists file at damage.0)
    c.in_err-gate.ensures.damaged

pub returns-clause-atomic : goal.returns-clause-atomic
returns-clause-atomic g c files is =
    leaves_weaker g.D.Disk.tick g.D.Disk.image_since c.args.disk.now c.open_stem.new.disk (ComesBy (IsMadeFrom c.args.stem) (g.D.Disk.images c.args.disk.now)) (HasListOf c.args.stem (g.D.Disk.images c.args.disk.now))
    (list_of c.args.stem (g.D.Disk.images c.args.disk.now)) (c.open_stem.ensures.atomic files is)

pub returns-clause-settled : goal.returns-clause-settled
returns-clause-settled g c =
    list_settled c.args.stem (g.D.Disk.files c.args.disk.now) (g.D.Disk.files c.open_stem.new.disk) (g.D.Disk.images c.open_stem.new.disk) c.in_ok-gate.ensures.settled c.open_stem.ensures.kept
