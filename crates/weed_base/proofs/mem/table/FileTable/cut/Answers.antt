use Rattle.std.proofs.Common.{take, sym, ap, ◌∙◌}
use Rattle.std.specs.FinMap.{get, insert}
use Rattle.weed_base.proofs.TableLemmas.{get-table, there, content-lent, lent-table}
use Rattle.weed_base.proofs.mem.table.FileTable.cut.Goals as goal

pub unwrap-requires : goal.unwrap-requires
unwrap-requires c =
    let found = sym (get-table c.self.inside.files c.args.name.now) ∙ ap (λ files. get files c.args.name.now) c.self.view_is in
    there _ _ (c.get_mut.ensures.value ∙ found) c.requires

pub returns : goal.returns
returns c =
    let name = c.args.name.now in
    let table = c.args.self.now in
    let found = sym (get-table c.self.inside.files name) ∙ ap (λ files. get files name) c.self.view_is in
    let content = content-lent _ _ table name (c.get_mut.ensures.value ∙ found) c.unwrap.ensures in
    lent-table c.self.inside.files (c.get_mut.follows.lender c.cut.new.self) name c.cut.new.self table c.self.view_is c.requires (c.get_mut.follows.holds c.cut.new.self).3
    ∙ ap (insert table name) (c.cut.ensures ∙ ap (take c.args.to) (sym content))
