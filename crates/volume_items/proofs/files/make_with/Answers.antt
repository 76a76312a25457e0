use Rattle.weed_base.specs.Files.{made, IsWithin}
use Rattle.volume_items.specs.Changes.{ChangesOnly}
use Rattle.volume_items.proofs.Told.{both_done, both_failed, both_twice, told_done}
use Rattle.volume_items.proofs.Named.{unchanged, made_others, joined, within_made, write_others}
use Rattle.volume_items.proofs.files.make_with.Goals as goal

pub returns-in_err-make-clause-others : goal.returns-in_err-make-clause-others
returns-in_err-make-clause-others g c =
    both_failed (ChangesOnly c.args.name.now) (made c.args.name.now) _ _ c.in_err-make.ensures.files (unchanged _) (made_others _)

pub write_at-requires : goal.write_at-requires
write_at-requires g c = told_done (IsWithin c.args.name.now 0) (made c.args.name.now) _ _ c.in_ok-make.ensures.files (within_made _)

pub returns-clause-others : goal.returns-clause-others
returns-clause-others g c =
    let name = c.args.name.now in
    both_twice (ChangesOnly name) (ChangesOnly name) (ChangesOnly name) _ _ _
    (both_done (ChangesOnly name) (made name) _ _ c.in_ok-make.ensures.files (made_others _))
    (write_others name 0 c.args.bytes.now _ _ c.write_at.result c.write_at.ensures.files) (joined name)
