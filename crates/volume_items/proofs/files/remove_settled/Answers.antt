use Rattle.std.proofs.Common.{◌∙◌}
use Rattle.weed_base.specs.Files.{removed}
use Rattle.volume_items.specs.Changes.{ChangesOnly}
use Rattle.volume_items.proofs.Told.{both_done, both_failed}
use Rattle.volume_items.proofs.Named.{unchanged, removed_others}
use Rattle.volume_items.proofs.files.remove_settled.Goals as goal

pub returns-in_err-remove-clause-others : goal.returns-in_err-remove-clause-others
returns-in_err-remove-clause-others g c =
    both_failed (ChangesOnly c.args.name.now) (removed c.args.name.now) _ _ c.in_err-remove.ensures.files (unchanged _) (removed_others _)

pub returns-clause-others : goal.returns-clause-others
returns-clause-others g c = both_done (ChangesOnly c.args.name.now) (removed c.args.name.now) _ _ (c.sync.ensures.files ∙ c.in_ok-remove.ensures.files) (removed_others _)
