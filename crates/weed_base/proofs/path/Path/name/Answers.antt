use Rattle.std.proofs.Common.{◌++◌, ◌∷◌, IsUtf8, subst, ◌≡◌, ◌+◌, ◌∙◌, None, Some, ap, arith, drop, length, sym, take}
use Rattle.std.specs.List.{last_or}
use Rattle.std.proofs.lemmas.Slice.{between_to_end}
use Rattle.weed_base.specs.Path.{parts_of}
use Rattle.weed_base.proofs.PathLemmas.{IsKept, IsUtf8-after_slash, cut_at_slash, kept_bytes, parts_of_at_last, last_or-append}
use Rattle.weed_base.proofs.path.Path.name.Goals as goal

pub returns-clause-last : goal.returns-clause-last
returns-clause-last c =
    let bytes = c.as_slice-bytes.result.now in
    let slash = c.in_ok-slash.slash in
    let found = c.in_ok-slash.ensures in
    let parts : parts_of bytes ≡ c.args.self.now = ap parts_of c.as_slice-bytes.ensures.value ∙ c.self.view_is in
    let last : last_or None (parts_of bytes) ≡ Some (drop (slash + 1) bytes) =
    ap (last_or None) (parts_of_at_last bytes slash found.0 found.1 found.2) ∙ last_or-append (parts_of (take slash bytes)) (drop (slash + 1) bytes) None in
    ap Some (between_to_end bytes (slash + 1) (length bytes) (omega arith)) ∙ sym last ∙ ap (last_or None) parts

pub returns-clause-utf8 : goal.returns-clause-utf8
returns-clause-utf8 c =
    let bytes = c.as_slice-bytes.result.now in
    let slash = c.in_ok-slash.slash in
    let found = c.in_ok-slash.ensures in
    let kept : IsKept bytes = subst IsKept (sym c.as_slice-bytes.ensures.value) c.self.invariant in
    let whole : IsUtf8 (take slash bytes ++ 47 ∷ drop (slash + 1) bytes) =
    subst IsUtf8 (cut_at_slash bytes slash found.0 found.1) (kept_bytes (parts_of bytes) bytes kept.0 kept.1).2 in
    subst IsUtf8 (sym (between_to_end bytes (slash + 1) (length bytes) (omega arith))) (IsUtf8-after_slash (take slash bytes) (drop (slash + 1) bytes) whole)
