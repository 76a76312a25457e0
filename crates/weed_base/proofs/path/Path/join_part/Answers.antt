use Rattle.std.proofs.Common.{◌≡◌, ◌∷◌, [], ◌++◌, ◌∙◌, ap, subst, sym}
use Rattle.weed_base.specs.Path.{IsPath, parts_of}
use Rattle.weed_base.proofs.PathLemmas.{IsKept}
use Rattle.weed_base.proofs.PathFaultLemmas.{join_sound}
use Rattle.weed_base.proofs.path.Path.join_part.Goals as goal

pub invariant_of-result : goal.invariant_of-result
invariant_of-result c =
    let bytes = c.as_slice-bytes.result.now in
    let name = c.args.name.now in
    let kept : IsKept bytes = subst IsKept (sym c.as_slice-bytes.ensures.value) c.self.invariant in
    let sound = join_sound bytes name kept (sym c.in_default.ensures) in
    subst IsKept (sym c.in_ok-spelling_with.ensures) sound.0

pub returns-clause-joined : goal.returns-clause-joined
returns-clause-joined c =
    let bytes = c.as_slice-bytes.result.now in
    let name = c.args.name.now in
    let kept : IsKept bytes = subst IsKept (sym c.as_slice-bytes.ensures.value) c.self.invariant in
    let sound = join_sound bytes name kept (sym c.in_default.ensures) in
    let parts : parts_of c.in_ok-spelling_with.field-0.items ≡ parts_of bytes ++ name ∷ [] = ap parts_of c.in_ok-spelling_with.ensures ∙ sound.1 in
    let path_is : parts_of bytes ≡ c.args.self.now = ap parts_of c.as_slice-bytes.ensures.value ∙ c.self.view_is in (
      subst IsPath (sym (ap parts_of c.in_ok-spelling_with.ensures)) sound.0.1,
      parts ∙ ap (λ front. front ++ name ∷ []) path_is,
    )
