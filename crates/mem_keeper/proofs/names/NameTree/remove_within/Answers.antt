use Rattle.std.proofs.Common.{◌≡◌, sym, ap, ◌∙◌, subst}
use Rattle.name_core.specs.declared.change.Change.TheVariants.{Drop}
use Rattle.name_core.specs.Namespace.{step}
use Rattle.name_core.specs.Pages.{AreNamed}
use Rattle.mem_keeper.specs.Items.{items, Rises, IsSearchTree, without}
use Rattle.mem_keeper.specs.Names.{names_of}
use Rattle.mem_keeper.proofs.NameLemmas.{without_rises, left_by_drop, drop_keeps}
use Rattle.mem_keeper.proofs.names.NameTree.remove_within.Goals as goal

pub invariant_of-self : goal.invariant_of-self
invariant_of-self c =
    let top = c.args.top.now in
    let es = items c.self.inside.tree in
    let was : c.replace-tree.result ≡ c.self.inside.tree = c.replace-tree.ensures.value in
    let done : items c.without.result ≡ without top es =
    c.without.ensures (subst IsSearchTree (sym was) c.self.invariant.0) ∙ ap (λ tree. without top (items tree)) was in (
      subst Rises (sym done) (without_rises top es c.self.invariant.0),
      subst AreNamed (sym (ap names_of done ∙ left_by_drop top es c.self.invariant.0)) (drop_keeps top (names_of es) c.self.invariant.1),
    )

pub returns-clause-names : goal.returns-clause-names
returns-clause-names c =
    let top = c.args.top.now in
    let es = items c.self.inside.tree in
    let was : c.replace-tree.result ≡ c.self.inside.tree = c.replace-tree.ensures.value in
    let done : items c.without.result ≡ without top es =
    c.without.ensures (subst IsSearchTree (sym was) c.self.invariant.0) ∙ ap (λ tree. without top (items tree)) was in
    ap names_of done ∙ left_by_drop top es c.self.invariant.0 ∙ ap (step (Drop top)) c.self.view_is

pub returns-clause-named : goal.returns-clause-named
returns-clause-named c =
    let top = c.args.top.now in
    let es = items c.self.inside.tree in
    let was : c.replace-tree.result ≡ c.self.inside.tree = c.replace-tree.ensures.value in
    let done : items c.without.result ≡ without top es =
    c.without.ensures (subst IsSearchTree (sym was) c.self.invariant.0) ∙ ap (λ tree. without top (items tree)) was in
    subst AreNamed (sym (ap names_of done ∙ left_by_drop top es c.self.invariant.0)) (drop_keeps top (names_of es) c.self.invariant.1)
