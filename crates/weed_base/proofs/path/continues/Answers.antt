use Rattle.std.proofs.Common.{◌≡◌, ◌≢◌, ◌++◌, ◌∷◌, ◌∙◌, None, Some, codes, drop, List, ℕ, ap, sym}
use Rattle.std.proofs.lemmas.Bool.{false≢true}
use Rattle.std.proofs.lemmas.Bool.Decides.{Decides-eqb}
use Rattle.std.proofs.lemmas.List.{append_cancel_left}
use Rattle.std.proofs.lemmas.Slice.Eq.{strip_prefix_is, starts_is}
use Rattle.weed_base.proofs.path.continues.Goals as goal

pub returns-in-Some : goal.returns-in-Some
returns-in-Some c =
    let bytes = c.args.bytes.now in
    let first = c.args.first.now in
    let rest = c.in-Some.rest.now in
    let whole : bytes ≡ first ++ rest = strip_prefix_is Decides-eqb bytes first (Some c.in-Some.rest) c.in-Some.ensures.cases in
    let begins = starts_is Decides-eqb rest (codes "/") c.starts_with.result c.starts_with.ensures.value in (
      λ is. (drop 1 rest, whole ∙ ap (λ more. first ++ more) (begins.0 is)),
      λ more. begins.1 more.0 (append_cancel_left first rest (47 ∷ more.0) (sym whole ∙ more.1)),
    )

pub returns-in-None : goal.returns-in-None
returns-in-None c =
    let never : (rest : List ℕ) → c.args.bytes.now ≢ c.args.first.now ++ rest = strip_prefix_is Decides-eqb c.args.bytes.now c.args.first.now None c.in-None.ensures.cases in
    (λ is. absurd (false≢true is), λ more. absurd (never (47 ∷ more.0) more.1))
