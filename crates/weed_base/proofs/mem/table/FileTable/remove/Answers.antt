use Rattle.std.proofs.Common.{sym, ap, ◌∙◌}
use Rattle.std.specs.FinMap.{get, remove}
use Rattle.weed_base.proofs.TableLemmas.{get-table, remove-table}
use Rattle.weed_base.proofs.mem.table.FileTable.remove.Goals as goal

pub returns-clause-file : goal.returns-clause-file
returns-clause-file c =
    c.remove.ensures.value ∙ sym (get-table c.self.inside.files c.args.name.now) ∙ ap (λ files. get files c.args.name.now) c.self.view_is

pub returns-clause-after : goal.returns-clause-after
returns-clause-after c =
    remove-table c.self.inside.files c.remove.new.self c.args.name.now c.remove.ensures.updates ∙ ap (λ files. remove files c.args.name.now) c.self.view_is
