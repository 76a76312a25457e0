use Rattle.std.proofs.Common.{subst, sym, ◌∙◌, List, ℕ}
use Rattle.std.proofs.lemmas.Bool.{and_parts}
use Rattle.std.specs.Str.Parse.{ParsesUnsigned}
use Rattle.file_id.proofs.Digits.{number_parsed}
use Rattle.file_id.proofs.reading.number.Goals as goal

pub as_str-requires : goal.as_str-requires
as_str-requires c = (and_parts _ _ (sym c.if-not-is_number.ensures)).0

pub returns : goal.returns
returns c =
    c.ok.ensures.value
    ∙ number_parsed c.args.text.now _ (sym c.if-not-is_number.ensures)
    (subst (λ (bs : List ℕ). ParsesUnsigned 64 10 bs c.parse.result) c.as_str.ensures c.parse.ensures.value.0)
