use Rattle.std.proofs.Common.{List, ℕ, rules, subst}
use Rattle.weed_base.specs.Files.{BothTold}
use Rattle.volume_items.specs.Changes.{ChangesOnly}
use Rattle.volume_items.proofs.Onward.{told_made}
use Rattle.volume_items.proofs.item_copy.make_copy.Goals as goal

pub returns-clause-made : goal.returns-clause-made
returns-clause-made g c =
    told_made c.make_with.result c.args.id c.args.block c.file_name.result c.write.result (g.D.Disk.files c.args.disk.now) (g.D.Disk.files c.make_with.new.disk) c.file_name.ensures
    (search rules) (λ i. search rules) c.write.ensures c.make_with.ensures.files

pub returns-clause-others : goal.returns-clause-others
returns-clause-others g c =
    subst (λ (n : List ℕ). BothTold (ChangesOnly n) (g.D.Disk.files c.args.disk.now) (g.D.Disk.files c.make_with.new.disk)) c.file_name.ensures c.make_with.ensures.others
