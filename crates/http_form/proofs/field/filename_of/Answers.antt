use Rattle.std.proofs.Common.{◌∙◌, codes}
use Rattle.http_form.specs.Field.{named, value_behind}
use Rattle.http_form.proofs.FieldLemmas.{on_found}
use Rattle.http_form.proofs.field.filename_of.Goals as goal

pub returns : goal.returns
returns c =
    c.named.ensures
    ∙ on_found named c.value_behind.result c.in_ok-value.value (value_behind (codes "\r\ncontent-disposition:") c.args.lines.now) c.value_behind.ensures c.in_ok-value.was
