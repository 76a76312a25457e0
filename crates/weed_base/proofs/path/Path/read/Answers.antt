use Rattle.std.proofs.Common.{◌≡◌, ◌∙◌, None, Ok, inl, ap, subst, sym}
use Rattle.weed_base.specs.Path.{IsPath, parts_in, text_of}
use Rattle.weed_base.specs.PathFaults.{read_fault}
use Rattle.weed_base.proofs.PathLemmas.{root_is_path}
use Rattle.weed_base.proofs.PathFaultLemmas.{read_kept, read_only, read_root, long_parts_in}
use Rattle.weed_base.proofs.path.Path.read.Goals as goal

pub returns-in-Some-clause-only : goal.returns-in-Some-clause-only
returns-in-Some-clause-only c = λ parts path is.
    let none : read_fault c.args.text.now ≡ None = (read_only c.args.text.now parts path is).0 in
    absurd (cc (none, c.in-Some.ensures))

pub returns-then-text-eq1-clause-found : goal.returns-then-text-eq1-clause-found
returns-then-text-eq1-clause-found c =
    subst (λ path. IsPath path × (c.args.text.now ≡ text_of path)) (sym c.root.ensures)
    (root_is_path, read_root c.args.text.now (sym c.in_default.ensures) c.if-text-eq1.true)

pub of_spelling-requires : goal.of_spelling-requires
of_spelling-requires c =
    let kept = read_kept c.args.text.now (sym c.in_default.ensures) c.if-text-eq1.false in
    record { spelling = kept.0.0; path = kept.0.1 }

pub returns-clause-found : goal.returns-clause-found
returns-clause-found c =
    let kept = read_kept c.args.text.now (sym c.in_default.ensures) c.if-text-eq1.false in
    subst (λ path. IsPath path × (c.args.text.now ≡ text_of path)) (sym c.in_ok-of_spelling.ensures) (kept.0.1, kept.1)

pub returns-clause-only : goal.returns-clause-only
returns-clause-only c = λ parts path is.
    let whole : parts_in c.args.text.now ≡ parts = (read_only c.args.text.now parts path is).1 in
    inl (ap Ok (c.in_ok-of_spelling.ensures ∙ sym (long_parts_in c.args.text.now c.if-text-eq1.false) ∙ whole))
