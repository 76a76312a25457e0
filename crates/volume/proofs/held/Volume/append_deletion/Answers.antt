use Rattle.std.proofs.Common.{◌++◌, ◌∙◌, [], refl, rules, subst, arith}
use Rattle.std.proofs.lemmas.List.{append-nil}
use Rattle.needle.specs.declared.item.Item.TheVariants.{Gone}
use Rattle.weed_base.specs.Files.{BothTold}
use Rattle.needle_index.specs.Text.{entry_for, entry_text}
use Rattle.volume.specs.Appending.{GrowBy, taken_by}
use Rattle.volume.proofs.Grown.{taken_as, told_holds}
use Rattle.volume.proofs.held.Volume.append_deletion.Goals as goal

pub returns-clause-holds : goal.returns-clause-holds
returns-clause-holds g c =
    let old = c.args.self.now in
    let gone = Gone c.args.cookie c.args.key in
    told_holds old c.append.new.self gone c.args.moment _ (g.D.Disk.files c.args.disk.now) (g.D.Disk.files c.append.new.disk) c.requires.open.1
    (append-nil c.as_slice.result.now ∙ c.as_slice.ensures ∙ c.new-text.ensures)
    (search rules) (search rules) c.in_ok-append.ensures.bytes (omega arith) (search rules)
    (taken_as old _ c.append.new.self c.at-entry.result (entry_for old.end gone) c.in_ok-taken.taken (taken_by old.block.version gone)
    (record { one = record { id = refl; block = refl; mode = refl }; end = refl; index_end = refl; greatest = refl; index = c.reserve.ensures.spots; broken = refl })
    c.at-entry.ensures c.in_ok-taken.ensures.0 c.in_ok-append.ensures.taken)
    (subst (λ entry. BothTold (GrowBy old.id (c.as_slice.result.now ++ []) (entry_text entry)) (g.D.Disk.files c.args.disk.now) (g.D.Disk.files c.append.new.disk)) c.at-entry.ensures c.in_ok-append.ensures.done)
