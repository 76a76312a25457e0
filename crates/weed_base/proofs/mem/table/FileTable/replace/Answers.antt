use Rattle.std.proofs.Common.{sym, ap, ◌∙◌}
use Rattle.std.specs.FinMap.{get}
use Rattle.weed_base.proofs.TableLemmas.{get-table, there, lent-table}
use Rattle.weed_base.proofs.mem.table.FileTable.replace.Goals as goal

pub unwrap-requires : goal.unwrap-requires
unwrap-requires c =
    let found = sym (get-table c.self.inside.files c.args.name.now) ∙ ap (λ files. get files c.args.name.now) c.self.view_is in
    there _ _ (c.get_mut.ensures.value ∙ found) c.requires

pub returns : goal.returns
returns c =
    lent-table c.self.inside.files (c.get_mut.follows.lender c.args.file) c.args.name.now c.args.file c.args.self.now c.self.view_is c.requires (c.get_mut.follows.holds c.args.file).3
