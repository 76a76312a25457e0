use Rattle.std.proofs.Common.{sym, ap, ◌∙◌}
use Rattle.std.proofs.lemmas.Result.{IfOk-weaker}
use Rattle.std.specs.FinMap.{keys}
use Rattle.weed_base.proofs.TableLemmas.{keys-table}
use Rattle.weed_base.proofs.mem.table.FileTable.names.Goals as goal

pub returns : goal.returns
returns c =
    let same = sym (keys-table c.self.inside.files c.copied_names.ensures.ordered) ∙ ap keys c.self.view_is in
    IfOk-weaker c.copied_names.result _ _ (λ names copied. copied ∙ same) c.copied_names.ensures.names
