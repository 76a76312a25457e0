use Rattle.std.proofs.Common.{ℕ, List, ◌++◌, ◌∙◌, ap, Some}
use Rattle.std.proofs.lemmas.Slice.Eq.{strip_prefix_is, strip_suffix_is}
use Rattle.std.proofs.lemmas.Bool.Decides.{Decides-eqb}
use Rattle.meta_log.proofs.Names.{stripped}
use Rattle.meta_log.proofs.standing.digits_of.Goals as goal

pub returns : goal.returns
returns c = stripped c.args.stem c.args.name.now c.in_ok-strip_prefix.field-0.now c.strip_suffix.result (strip_prefix_is Decides-eqb c.args.name.now c.prefix.result.now (Some c.in_ok-strip_prefix.field-0) c.in_ok-strip_prefix.ensures.cases ∙ ap (λ (l : List ℕ). l ++ c.in_ok-strip_prefix.field-0.now) c.prefix.ensures) (strip_suffix_is Decides-eqb _ _ _ c.strip_suffix.ensures.cases)
