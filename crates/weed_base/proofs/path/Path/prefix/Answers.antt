use Rattle.std.proofs.Common.{subst, sym}
use Rattle.weed_base.proofs.PathLemmas.{IsKept, IsKept-take}
use Rattle.weed_base.proofs.path.Path.prefix.Goals as goal

pub of_spelling-requires : goal.of_spelling-requires
of_spelling-requires c =
    let kept : IsKept c.as_slice-bytes.result.now = subst IsKept (sym c.as_slice-bytes.ensures.value) c.self.invariant in
    let front = IsKept-take c.as_slice-bytes.result.now c.end_of_parts-end.result c.args.parts kept c.end_of_parts-end.ensures.cut in
    record { spelling = front.0; path = front.1 }
