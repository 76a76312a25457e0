use Rattle.std.proofs.Common.{◌≡◌, sym, ap, ◌∙◌, subst}
use Rattle.std.specs.FinMap.{put, insert}
use Rattle.weed_base.specs.Path.{IsPath}
use Rattle.weed_base.specs.PathOrder.{path_cmp}
use Rattle.name_core.specs.Pages.{AreNamed}
use Rattle.mem_keeper.specs.Items.{items, Rises, IsSearchTree}
use Rattle.mem_keeper.specs.Names.{names_of}
use Rattle.mem_keeper.proofs.NameLemmas.{put_rises, put_in, put_keeps}
use Rattle.mem_keeper.proofs.names.NameTree.put.Goals as goal

pub invariant_of-self : goal.invariant_of-self
invariant_of-self c =
    let n = c.args.node.value in
    let es = items c.self.inside.tree in
    let was : c.replace-tree.result ≡ c.self.inside.tree = c.replace-tree.ensures.value in
    let done : items c.put.result ≡ put path_cmp n.path n.entry es =
    c.put.ensures (subst IsSearchTree (sym was) c.self.invariant.0) ∙ ap (λ tree. put path_cmp n.path n.entry (items tree)) was in (
      subst Rises (sym done) (put_rises n.path n.entry es c.self.invariant.0),
      subst AreNamed (sym (ap names_of done ∙ put_in n.path n.entry es c.self.invariant.0))
          (put_keeps n.path n.entry (names_of es) (subst (λ n. IsPath n.path) c.deref.ensures c.text.ensures.valid) c.requires.rootless c.requires.valid c.self.invariant.1),
    )

pub returns-clause-names : goal.returns-clause-names
returns-clause-names c =
    let n = c.args.node.value in
    let es = items c.self.inside.tree in
    let was : c.replace-tree.result ≡ c.self.inside.tree = c.replace-tree.ensures.value in
    let done : items c.put.result ≡ put path_cmp n.path n.entry es =
    c.put.ensures (subst IsSearchTree (sym was) c.self.invariant.0) ∙ ap (λ tree. put path_cmp n.path n.entry (items tree)) was in
    ap names_of done ∙ put_in n.path n.entry es c.self.invariant.0 ∙ ap (λ names. insert names n.path n.entry) c.self.view_is

pub returns-clause-named : goal.returns-clause-named
returns-clause-named c =
    let n = c.args.node.value in
    let es = items c.self.inside.tree in
    let was : c.replace-tree.result ≡ c.self.inside.tree = c.replace-tree.ensures.value in
    let done : items c.put.result ≡ put path_cmp n.path n.entry es =
    c.put.ensures (subst IsSearchTree (sym was) c.self.invariant.0) ∙ ap (λ tree. put path_cmp n.path n.entry (items tree)) was in
    subst AreNamed (sym (ap names_of done ∙ put_in n.path n.entry es c.self.invariant.0))
    (put_keeps n.path n.entry (names_of es) (subst (λ n. IsPath n.path) c.deref.ensures c.text.ensures.valid) c.requires.rootless c.requires.valid c.self.invariant.1)
