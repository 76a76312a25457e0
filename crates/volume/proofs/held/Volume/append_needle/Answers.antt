use Rattle.std.proofs.Common.{◌≡◌, ◌+◌, ◌++◌, ◌≤◌, ℕ, refl, rules, subst, ap, ◌∙◌}
use Rattle.weed_base.specs.Files.{BothTold}
use Rattle.needle.specs.Layout.{padded}
use Rattle.needle.specs.declared.item.Item.TheVariants.{Live}
use Rattle.needle_index.specs.Text.{entry_at, entry_for, entry_text}
use Rattle.volume.specs.Appending.{GrowBy, taken_by}
use Rattle.volume_items.specs.Contents.{last_end}
use Rattle.volume.proofs.Grown.{taken_as, told_holds}
use Rattle.volume.proofs.held.Volume.append_needle.Goals as goal

pub returns-clause-holds : goal.returns-clause-holds
returns-clause-holds g c =
    let old = c.args.self.now in
    let needle = c.args.needle.now in
    let framed = c.in_ok-framed.framed in
    let size = c.size-size.ensures in
    let entry_is : c.at-entry.result ≡ entry_for old.end (Live needle) = c.at-entry.ensures ∙ ap (λ (n : ℕ). entry_at old.end needle.key n) size in
    let taken_is : c.in_ok-taken.taken ≡ taken_by old.block.version (Live needle) = c.in_ok-taken.ensures.0 ∙ ap (padded old.block.version) size in
    told_holds old c.append.new.self (Live needle) c.args.moment _ (g.D.Disk.files c.args.disk.now) (g.D.Disk.files c.append.new.disk) c.requires.open.1
    ((λ i. framed.head ++ (c.as_slice.ensures i ++ c.as_slice-2.ensures i)) ∙ c.in_ok-framed.ensures.text)
    c.in_ok-framed.ensures.fits (search rules) c.in_ok-append.ensures.bytes c.requires.sized.1
    (subst (λ (n : ℕ). old.end + n ≤ last_end) taken_is c.in_ok-taken.ensures.1)
    (taken_as old _ c.append.new.self c.at-entry.result (entry_for old.end (Live needle)) c.in_ok-taken.taken (taken_by old.block.version (Live needle))
    (record { one = record { id = refl; block = refl; mode = refl }; end = refl; index_end = refl; greatest = refl; index = c.reserve.ensures.spots; broken = refl })
    entry_is taken_is c.in_ok-append.ensures.taken)
    (subst (λ e. BothTold (GrowBy old.id (framed.head ++ (c.as_slice.result.now ++ c.as_slice-2.result.now)) (entry_text e)) (g.D.Disk.files c.args.disk.now) (g.D.Disk.files c.append.new.disk)) entry_is c.in_ok-append.ensures.done)
