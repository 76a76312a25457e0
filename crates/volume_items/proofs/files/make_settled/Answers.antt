use Rattle.std.proofs.Common.{◌∙◌}
use Rattle.weed_base.specs.Files.{made}
use Rattle.volume_items.specs.Changes.{ChangesOnly}
use Rattle.volume_items.proofs.Told.{both_done, both_failed}
use Rattle.volume_items.proofs.Named.{unchanged, made_others}
use Rattle.volume_items.proofs.files.make_settled.Goals as goal

pub returns-in_err-make-clause-others : goal.returns-in_err-make-clause-others
returns-in_err-make-clause-others g c =
    both_failed (ChangesOnly c.args.name.now) (made c.args.name.now) _ _ c.in_err-make.ensures.files (unchanged _) (made_others _)

pub returns-clause-others : goal.returns-clause-others
returns-clause-others g c = both_done (ChangesOnly c.args.name.now) (made c.args.name.now) _ _ (c.sync.ensures.files ∙ c.in_ok-make.ensures.files) (made_others _)
