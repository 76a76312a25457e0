use Rattle.std.proofs.Common.{sym, subst, ◌∙◌, length}
use Rattle.std.specs.Prelude.{OnOk}
use Rattle.weed_base.specs.Files.{BothTold}
use Rattle.weed_base.specs.Images.{Only, Tears}
use Rattle.weed_base.proofs.ImageLemmas.{leaves_both, leaves_call}
use Rattle.meta_log.specs.Images.{ComesBy}
use Rattle.meta_log.specs.LogText.{ChangesOnly}
use Rattle.meta_log.proofs.Appends.{others_written, others_torn}
use Rattle.meta_log.proofs.write.write_settled.Goals as goal

pub returns-in_err-write_at-clause-others : goal.returns-in_err-write_at-clause-others
returns-in_err-write_at-clause-others g c = others_torn _ _ c.args.name.now c.args.at c.args.piece.now c.in_err-write_at.ensures.files

pub returns-in_err-write_at-clause-atomic : goal.returns-in_err-write_at-clause-atomic
returns-in_err-write_at-clause-atomic g c =
    leaves_call g.D.Disk.tick g.D.Disk.image_since g.D.Disk.images c.args.disk.now c.write_at.new.self
    (ComesBy (Tears c.args.name.now c.args.at (length c.args.piece.now)) (g.D.Disk.images c.args.disk.now)) c.write_at.ensures.time c.write_at.ensures.images

pub returns-clause-others : goal.returns-clause-others
returns-clause-others g c =
    subst (λ told. BothTold (ChangesOnly c.args.name.now) (g.D.Disk.files c.args.disk.now) told) (sym (c.sync.ensures.files ∙ c.in_ok-write_at.ensures.files))
    (others_written (g.D.Disk.files c.args.disk.now) c.args.name.now c.args.at c.args.piece.now)

pub returns-clause-atomic : goal.returns-clause-atomic
returns-clause-atomic g c =
    let P = ComesBy (Tears c.args.name.now c.args.at (length c.args.piece.now)) (g.D.Disk.images c.args.disk.now) in
    leaves_both g.D.Disk.tick g.D.Disk.image_since c.args.disk.now c.write_at.new.self c.sync.new.self P
    (leaves_call g.D.Disk.tick g.D.Disk.image_since g.D.Disk.images c.args.disk.now c.write_at.new.self P c.write_at.ensures.time c.write_at.ensures.images)
    (leaves_call g.D.Disk.tick g.D.Disk.image_since g.D.Disk.images c.write_at.new.self c.sync.new.self P c.sync.ensures.time
    (λ image left. c.write_at.ensures.images image (c.sync.ensures.images image left)))

pub returns-clause-settled : goal.returns-clause-settled
returns-clause-settled g c = subst (λ told. OnOk c.sync.result (Only told (g.D.Disk.images c.sync.new.self))) (sym c.sync.ensures.files) c.sync.ensures.settled
