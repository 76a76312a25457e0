use Rattle.std.proofs.Common.{◌∙◌, ap, sym, subst, arith, ◌++◌, List, ℕ, decimal}
use Rattle.std.specs.Prelude.{IsTrue}
use Rattle.weed_base.specs.FileName.{is_file_name}
use Rattle.volume_items.proofs.FileNames.{name_allowed, some_where}
use Rattle.volume_items.proofs.file_names.file_name.Goals as goal

pub unwrap-requires : goal.unwrap-requires
unwrap-requires c =
    let digits = c.as_bytes-digits.ensures.value ∙ c.format.ensures.text in
    some_where _ _ _ c.new.ensures
    (subst (λ (t : List ℕ). IsTrue (is_file_name t))
    (sym (c.joined-text.ensures ∙ ap (λ (d : List ℕ). d ++ c.ending.result.now) digits ∙ ap (λ (e : List ℕ). decimal c.args.id ++ e) c.ending.ensures))
    (name_allowed c.args.id c.args.part (omega arith)))
