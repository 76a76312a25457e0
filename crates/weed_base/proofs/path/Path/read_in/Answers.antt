use Rattle.std.proofs.Common.{◌∷◌, [], ◌++◌, ◌∙◌, ap, subst, sym}
use Rattle.weed_base.specs.Path.{IsPath, parts_of}
use Rattle.weed_base.proofs.PathLemmas.{IsKept}
use Rattle.weed_base.proofs.PathFaultLemmas.{join_sound}
use Rattle.weed_base.proofs.path.Path.read_in.Goals as goal

pub invariant_of-result : goal.invariant_of-result
invariant_of-result c =
    let bytes = c.spelling_of-bytes.result.now in
    let kept : IsKept bytes = (c.spelling_of-bytes.ensures.spelling, c.spelling_of-bytes.ensures.path) in
    let sound = join_sound bytes c.args.name.now kept (sym c.in_default-fault_of_join.ensures) in
    subst IsKept (sym c.in_ok-spelling_with.ensures) sound.0

pub returns-clause-found : goal.returns-clause-found
returns-clause-found c =
    let bytes = c.spelling_of-bytes.result.now in
    let name = c.args.name.now in
    let kept : IsKept bytes = (c.spelling_of-bytes.ensures.spelling, c.spelling_of-bytes.ensures.path) in
    let sound = join_sound bytes name kept (sym c.in_default-fault_of_join.ensures) in
    let made = ap parts_of c.in_ok-spelling_with.ensures in (
      subst IsPath (sym made) sound.0.1,
      made ∙ sound.1 ∙ ap (λ front. front ++ name ∷ []) c.spelling_of-bytes.ensures.parts,
    )
