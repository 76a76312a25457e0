use Rattle.std.proofs.Common.{sym, ap, ◌∙◌}
use Rattle.std.specs.FinMap.{get}
use Rattle.weed_base.proofs.TableLemmas.{get-table}
use Rattle.weed_base.proofs.mem.table.FileTable.get.Goals as goal

pub returns : goal.returns
returns c =
    c.get.ensures.value ∙ sym (get-table c.self.inside.files c.args.name.now) ∙ ap (λ files. get files c.args.name.now) c.self.view_is
