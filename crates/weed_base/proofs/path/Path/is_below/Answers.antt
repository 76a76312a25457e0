use Rattle.std.proofs.Common.{◌≡◌, ◌∙◌, ap, subst, sym}
use Rattle.weed_base.specs.Path.{IsBelow, parts_of}
use Rattle.weed_base.proofs.PathLemmas.{IsKept, below_from_bytes, bytes_from_below}
use Rattle.weed_base.proofs.path.Path.is_below.Goals as goal

pub returns : goal.returns
returns c =
    let bytes = c.deref.result.now in
    let top = c.deref-2.result.now in
    let kept : IsKept bytes = subst IsKept (sym c.deref.ensures.value) c.self.invariant in
    let kept_top : IsKept top = subst IsKept (sym c.deref-2.ensures.value) c.top.invariant in
    let path_is : parts_of bytes ≡ c.args.self.now = ap parts_of c.deref.ensures.value ∙ c.self.view_is in
    let top_is : parts_of top ≡ c.args.top.now = ap parts_of c.deref-2.ensures.value ∙ c.top.view_is in (
      λ is. subst (λ t. IsBelow c.args.self.now t) top_is (subst (λ p. IsBelow p (parts_of top)) path_is
          (let more = c.continues.ensures.0 is in below_from_bytes bytes top more.0 more.1)),
      λ below. c.continues.ensures.1 (bytes_from_below bytes top kept kept_top
          (subst (λ p. IsBelow p (parts_of top)) (sym path_is) (subst (λ t. IsBelow c.args.self.now t) (sym top_is) below))),
    )
