use Rattle.std.proofs.Common.{ap, ◌∙◌}
use Rattle.std.specs.FinMap.{insert}
use Rattle.weed_base.proofs.TableLemmas.{insert-table}
use Rattle.weed_base.proofs.mem.table.FileTable.insert.Goals as goal

pub returns-clause-ok : goal.returns-clause-ok
returns-clause-ok c =
    let updates = rw c.copy.ensures at c.in_ok-insert.ensures.updates in
    insert-table c.self.inside.files c.insert.new.self c.args.name.now c.args.file updates ∙ ap (λ files. insert files c.args.name.now c.args.file) c.self.view_is
