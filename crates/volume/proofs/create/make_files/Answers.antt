use Rattle.volume_items.specs.Changes.{ChangesOnly, LeavesOthers}
use Rattle.volume_items.specs.declared.file_names.Part.TheVariants.{Items, Index, Sign}
use Rattle.volume_items.proofs.Told.{both_twice, told_related_both}
use Rattle.volume_items.proofs.Apart.{others_of, others_both}
use Rattle.volume.proofs.create.make_files.Goals as goal

pub returns-in_err-remove_settled-clause-others : goal.returns-in_err-remove_settled-clause-others
returns-in_err-remove_settled-clause-others g c =
    told_related_both (ChangesOnly c.file_name-sign.result) (LeavesOthers c.args.id) _ _ c.remove_settled.ensures.others (others_of c.args.id Sign _ c.file_name-sign.ensures)

pub returns-in_err-make_with-clause-others : goal.returns-in_err-make_with-clause-others
returns-in_err-make_with-clause-others g c =
    let id = c.args.id in
    both_twice (LeavesOthers id) (LeavesOthers id) (LeavesOthers id) _ _ _
    (told_related_both (ChangesOnly c.file_name-sign.result) (LeavesOthers id) _ _ c.remove_settled.ensures.others (others_of id Sign _ c.file_name-sign.ensures))
    (told_related_both (ChangesOnly c.file_name.result) (LeavesOthers id) _ _ c.make_with.ensures.others (others_of id Items _ c.file_name.ensures))
    (others_both id)

pub returns-in_err-make_settled-clause-others : goal.returns-in_err-make_settled-clause-others
returns-in_err-make_settled-clause-others g c =
    let id = c.args.id in
    both_twice (LeavesOthers id) (LeavesOthers id) (LeavesOthers id) _ _ _
    (told_related_both (ChangesOnly c.file_name-sign.result) (LeavesOthers id) _ _ c.remove_settled.ensures.others (others_of id Sign _ c.file_name-sign.ensures))
    (both_twice (LeavesOthers id) (LeavesOthers id) (LeavesOthers id) _ _ _
    (told_related_both (ChangesOnly c.file_name.result) (LeavesOthers id) _ _ c.make_with.ensures.others (others_of id Items _ c.file_name.ensures))
    (told_related_both (ChangesOnly c.file_name-2.result) (LeavesOthers id) _ _ c.make_settled.ensures.others (others_of id Index _ c.file_name-2.ensures))
    (others_both id)) (others_both id)

pub returns-clause-others : goal.returns-clause-others
returns-clause-others g c =
    let id = c.args.id in
    both_twice (LeavesOthers id) (LeavesOthers id) (LeavesOthers id) _ _ _
    (told_related_both (ChangesOnly c.file_name-sign.result) (LeavesOthers id) _ _ c.remove_settled.ensures.others (others_of id Sign _ c.file_name-sign.ensures))
    (both_twice (LeavesOthers id) (LeavesOthers id) (LeavesOthers id) _ _ _
    (told_related_both (ChangesOnly c.file_name.result) (LeavesOthers id) _ _ c.make_with.ensures.others (others_of id Items _ c.file_name.ensures))
    (both_twice (LeavesOthers id) (LeavesOthers id) (LeavesOthers id) _ _ _
    (told_related_both (ChangesOnly c.file_name-2.result) (LeavesOthers id) _ _ c.make_settled.ensures.others (others_of id Index _ c.file_name-2.ensures))
    (told_related_both (ChangesOnly c.file_name-sign.result) (LeavesOthers id) _ _ c.make_settled-2.ensures.others (others_of id Sign _ c.file_name-sign.ensures))
    (others_both id)) (others_both id)) (others_both id)
