use Rattle.std.proofs.Common.{sym, ap, ◌∙◌}
use Rattle.std.specs.FinMap.{get}
use Rattle.mem_keeper.specs.Items.{items}
use Rattle.mem_keeper.specs.Names.{names_of}
use Rattle.mem_keeper.proofs.NameLemmas.{answered, looked_up, none_at_root, found_is_valid}
use Rattle.mem_keeper.proofs.names.NameTree.find.Goals as goal

pub returns-clause-found : goal.returns-clause-found
returns-clause-found c =
    let es = items c.self.inside.tree in
    answered c.find.result (λ found is. is ∙ sym (looked_up es c.args.path.now c.self.invariant.0) ∙ ap (λ names. get names c.args.path.now) c.self.view_is)
    (c.find.ensures c.self.invariant.0)

pub returns-clause-root : goal.returns-clause-root
returns-clause-root c root =
    let es = items c.self.inside.tree in
    answered c.find.result (λ found is. none_at_root (names_of es) c.args.path.now found c.self.invariant.1 (is ∙ sym (looked_up es c.args.path.now c.self.invariant.0)) root)
    (c.find.ensures c.self.invariant.0)

pub returns-clause-valid : goal.returns-clause-valid
returns-clause-valid c =
    let es = items c.self.inside.tree in
    answered c.find.result (λ found is. found_is_valid (names_of es) c.args.path.now found c.self.invariant.1 (is ∙ sym (looked_up es c.args.path.now c.self.invariant.0)))
    (c.find.ensures c.self.invariant.0)
