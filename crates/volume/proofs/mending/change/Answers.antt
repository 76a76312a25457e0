use Rattle.volume_items.specs.Changes.{ChangesOnly, LeavesOthers}
use Rattle.volume_items.specs.declared.file_names.Part.TheVariants.{Items, Index}
use Rattle.volume_items.proofs.Told.{both_twice, told_related_both}
use Rattle.volume_items.proofs.Apart.{others_of, others_both}
use Rattle.volume.proofs.mending.change.Goals as goal

pub returns-in_err-was_cut-clause-others : goal.returns-in_err-was_cut-clause-others
returns-in_err-was_cut-clause-others g c =
    told_related_both (ChangesOnly c.file_name.result) (LeavesOthers c.args.id) _ _ c.trim.ensures.others (others_of c.args.id Items _ c.file_name.ensures)

pub returns-in_err-reindex-clause-others : goal.returns-in_err-reindex-clause-others
returns-in_err-reindex-clause-others g c =
    let id = c.args.id in
    both_twice (LeavesOthers id) (LeavesOthers id) (LeavesOthers id) _ _ _
    (told_related_both (ChangesOnly c.file_name.result) (LeavesOthers id) _ _ c.trim.ensures.others (others_of id Items _ c.file_name.ensures))
    (told_related_both (ChangesOnly c.file_name-2.result) (LeavesOthers id) _ _ c.reindex.ensures.others (others_of id Index _ c.file_name-2.ensures))
    (others_both id)

pub returns-clause-others : goal.returns-clause-others
returns-clause-others g c =
    let id = c.args.id in
    both_twice (LeavesOthers id) (LeavesOthers id) (LeavesOthers id) _ _ _
    (told_related_both (ChangesOnly c.file_name.result) (LeavesOthers id) _ _ c.trim.ensures.others (others_of id Items _ c.file_name.ensures))
    (told_related_both (ChangesOnly c.file_name-2.result) (LeavesOthers id) _ _ c.reindex.ensures.others (others_of id Index _ c.file_name-2.ensures))
    (others_both id)
