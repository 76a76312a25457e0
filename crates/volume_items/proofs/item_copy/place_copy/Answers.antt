use Rattle.std.proofs.Common.{List, ℕ, refl, sym, subst, ap, ◌∙◌}
use Rattle.std.specs.Prelude.{IfSome}
use Rattle.std.specs.Option.{option_map}
use Rattle.weed_base.specs.Files.{BothTold, IsThere, renamed}
use Rattle.volume_items.specs.Changes.{LeavesOthers}
use Rattle.volume_items.proofs.Growing.{on_ok}
use Rattle.volume_items.proofs.Onward.{renamed_others}
use Rattle.volume_items.proofs.Told.{both_done, both_failed, both_unchanged, moved}
use Rattle.volume_items.proofs.item_copy.place_copy.Goals as goal

pub returns-in_err-sync-clause-others : goal.returns-in_err-sync-clause-others
returns-in_err-sync-clause-others g c = both_unchanged (LeavesOthers c.args.id) _ _ c.sync.ensures.files (λ files. λ other apart. refl)

pub rename-requires-clause-there : goal.rename-requires-clause-there
rename-requires-clause-there g c =
    subst (λ (n : List ℕ). IfSome (g.D.Disk.files c.sync.new.self) (IsThere n)) (sym c.file_name-copy.ensures) (moved (IsThere _) (sym c.sync.ensures.files) c.requires.there)

pub returns-in_err-rename-clause-others : goal.returns-in_err-rename-clause-others
returns-in_err-rename-clause-others g c =
    subst (λ o. BothTold (LeavesOthers c.args.id) o (g.D.Disk.files c.rename.new.self)) c.sync.ensures.files
    (both_failed (LeavesOthers c.args.id) (renamed c.file_name-copy.result c.file_name-items.result) (g.D.Disk.files c.sync.new.self) _ c.in_err-rename.ensures.files (λ files. λ other apart. refl)
    (renamed_others c.args.id c.file_name-copy.result c.file_name-items.result c.file_name-copy.ensures c.file_name-items.ensures))

pub returns-clause-placed : goal.returns-clause-placed
returns-clause-placed g c =
    on_ok c.sync-2.result (c.sync-2.ensures.files ∙ c.in_ok-rename.ensures.files
    ∙ (λ i. option_map (renamed (c.file_name-copy.ensures i) (c.file_name-items.ensures i)) (c.sync.ensures.files i)))

pub returns-clause-others : goal.returns-clause-others
returns-clause-others g c =
    both_done (LeavesOthers c.args.id) (renamed c.file_name-copy.result c.file_name-items.result) _ _
    (c.sync-2.ensures.files ∙ c.in_ok-rename.ensures.files ∙ ap (option_map (renamed c.file_name-copy.result c.file_name-items.result)) c.sync.ensures.files)
    (renamed_others c.args.id c.file_name-copy.result c.file_name-items.result c.file_name-copy.ensures c.file_name-items.ensures)
