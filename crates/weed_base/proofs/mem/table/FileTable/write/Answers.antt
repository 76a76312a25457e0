use Rattle.std.proofs.Common.{sym, ap, ◌∙◌}
use Rattle.std.proofs.lemmas.Result.{on_ok_weaker, on_err_weaker}
use Rattle.std.specs.FinMap.{get, insert}
use Rattle.weed_base.specs.Files.{spliced}
use Rattle.weed_base.proofs.TableLemmas.{get-table, there, content-lent, lent-table, insert-content}
use Rattle.weed_base.proofs.mem.table.FileTable.write.Goals as goal

pub unwrap-requires : goal.unwrap-requires
unwrap-requires c =
    let name = c.args.name.now in
    let found = sym (get-table c.self.inside.files name) ∙ ap (λ files. get files name) c.self.view_is in
    there _ _ (c.get_mut.ensures.value ∙ found) c.requires

pub returns-clause-ok : goal.returns-clause-ok
returns-clause-ok c =
    let name = c.args.name.now in
    let table = c.args.self.now in
    let found = sym (get-table c.self.inside.files name) ∙ ap (λ files. get files name) c.self.view_is in
    let content = content-lent _ _ table name (c.get_mut.ensures.value ∙ found) c.unwrap.ensures in
    let there = c.requires in
    let after = lent-table c.self.inside.files (c.get_mut.follows.lender c.write.new.self) name c.write.new.self table c.self.view_is there (c.get_mut.follows.holds c.write.new.self).3 in
    on_ok_weaker c.write.result (λ wrote. after ∙ ap (insert table name) (wrote ∙ ap (λ bytes. spliced bytes c.args.at c.args.piece.now) (sym content))) c.write.ensures.ok

pub returns-clause-err : goal.returns-clause-err
returns-clause-err c =
    let name = c.args.name.now in
    let table = c.args.self.now in
    let found = sym (get-table c.self.inside.files name) ∙ ap (λ files. get files name) c.self.view_is in
    let content = content-lent _ _ table name (c.get_mut.ensures.value ∙ found) c.unwrap.ensures in
    let there = c.requires in
    let after = lent-table c.self.inside.files (c.get_mut.follows.lender c.write.new.self) name c.write.new.self table c.self.view_is there (c.get_mut.follows.holds c.write.new.self).3 in
    on_err_weaker c.write.result (λ same. after ∙ ap (insert table name) (same ∙ sym content) ∙ insert-content table name there) c.write.ensures.err
