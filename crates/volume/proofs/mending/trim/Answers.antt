use Rattle.std.proofs.Common.{subst}
use Rattle.weed_base.specs.Files.{BothTold, cut_to}
use Rattle.volume_items.specs.Changes.{ChangesOnly}
use Rattle.volume_items.proofs.Told.{both_done, both_failed}
use Rattle.volume_items.proofs.Named.{unchanged, cut_others}
use Rattle.volume.proofs.mending.trim.Goals as goal

pub returns-in_err-cut-clause-others : goal.returns-in_err-cut-clause-others
returns-in_err-cut-clause-others g c =
    let name = c.args.name.now in
    subst (λ old. BothTold (ChangesOnly name) old (g.D.Disk.files c.cut.new.self)) c.in_ok-size.ensures.files
    (both_failed (ChangesOnly name) (cut_to name c.args.end) _ _ c.in_err-cut.ensures.files (unchanged name) (cut_others name c.args.end))

pub returns-clause-others : goal.returns-clause-others
returns-clause-others g c =
    let name = c.args.name.now in
    subst (λ old. BothTold (ChangesOnly name) old (g.D.Disk.files c.cut.new.self)) c.in_ok-size.ensures.files
    (both_done (ChangesOnly name) (cut_to name c.args.end) _ _ c.in_ok-cut.ensures.files (cut_others name c.args.end))
