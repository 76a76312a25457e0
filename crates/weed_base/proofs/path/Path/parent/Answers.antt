use Rattle.std.proofs.Common.{◌≡◌, ◌+◌, ◌∷◌, [], ◌∙◌, Some, ap, drop, subst, sym, take}
use Rattle.weed_base.specs.Path.{parent_of, parts_of}
use Rattle.weed_base.proofs.PathLemmas.{IsKept, IsKept-front, parts_of_at_last, parent_of-append}
use Rattle.weed_base.proofs.path.Path.parent.Goals as goal

pub of_spelling-requires : goal.of_spelling-requires
of_spelling-requires c =
    let bytes = c.as_slice-bytes.result.now in
    let slash = c.in-Some.slash in
    let found = c.in-Some.ensures in
    let kept : IsKept bytes = subst IsKept (sym c.as_slice-bytes.ensures.value) c.self.invariant in
    let front = IsKept-front bytes slash (drop (slash + 1) bytes ∷ []) kept (parts_of_at_last bytes slash found.0 found.1 found.2) in
    record { spelling = front.0; path = front.1 }

pub returns : goal.returns
returns c =
    let bytes = c.as_slice-bytes.result.now in
    let slash = c.in-Some.slash in
    let found = c.in-Some.ensures in
    let parts : parts_of bytes ≡ c.args.self.now = ap parts_of c.as_slice-bytes.ensures.value ∙ c.self.view_is in
    let parent : parent_of (parts_of bytes) ≡ Some (parts_of (take slash bytes)) =
    ap parent_of (parts_of_at_last bytes slash found.0 found.1 found.2) ∙ parent_of-append (parts_of (take slash bytes)) (drop (slash + 1) bytes) in
    ap Some c.in_ok-of_spelling.ensures ∙ sym parent ∙ ap parent_of parts
