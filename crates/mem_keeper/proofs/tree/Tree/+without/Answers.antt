use Rattle.std.proofs.Common.{◌≡◌, true, false, ◌∷◌, ◌++◌, sym, ap, ◌∙◌}
use Rattle.weed_base.specs.PathOrder.{path_cmp, path_cmp-IsAntisymmetric}
use Rattle.name_core.specs.Namespace.{is_within}
use Rattle.mem_keeper.specs.Items.{items, node_items}
use Rattle.mem_keeper.proofs.TreeLemmas.{left_rises, right_rises}
use Rattle.mem_keeper.proofs.WithinLemmas.{within_itself}
use Rattle.mem_keeper.proofs.WithoutLemmas.{without_at, without_left, without_right, turned_less}
use Rattle.mem_keeper.proofs.tree.Tree.+without.Goals as goal

pub returns-then-stands_within : goal.returns-then-stands_within
returns-then-stands_within t c rises =
    let n = c.into_inner-left.result in
    c.join.ensures
    ∙ (λ i. c.without.ensures (left_rises _ (items n.left) (n.path, n.entry) (items n.right) (ap items c.in-Fork.is ∙ ap node_items (sym c.into_inner-left.ensures)) rises) i
    ++ c.without-then-stands_within.ensures (right_rises _ (items n.left) (n.path, n.entry) (items n.right) (ap items c.in-Fork.is ∙ ap node_items (sym c.into_inner-left.ensures)) rises) i)
    ∙ without_at c.args.top.now _ (items n.left) (n.path, n.entry) (items n.right) (ap items c.in-Fork.is ∙ ap node_items (sym c.into_inner-left.ensures))
    (ap (λ n. is_within c.args.top.now n.path) (c.into_inner-left.ensures ∙ sym c.deref.ensures) ∙ sym c.stands_within.ensures ∙ c.if-stands_within.true)

pub unreachable-requires : goal.unreachable-requires
unreachable-requires t c =
    let same = path_cmp-IsAntisymmetric c.args.top.now c.deref-in-Fork.result.now.path (sym c.order.ensures ∙ c.in-Equal.is) in
    let within = ap (is_within c.args.top.now) (ap (λ n. n.path) (c.deref.ensures ∙ sym c.deref-in-Fork.ensures) ∙ sym same) ∙ within_itself c.args.top.now in
    let apart = sym c.stands_within.ensures ∙ c.if-stands_within.false in
    let wrong : true ≡ false = sym within ∙ apart in cc

pub returns-in-Less : goal.returns-in-Less
returns-in-Less t c rises =
    let n = c.deref_mut.result.now in
    let cut = ap items c.in-Fork.is ∙ ap node_items (sym c.deref_mut.ensures.value) ∙ ap (λ left. items left ++ (n.path, n.entry) ∷ items n.right) (sym c.replace-left.ensures.value) in
    c.join_at.ensures
    ∙ ap (λ right. items c.without-in-Less.result ++ (c.deref_mut-in-Less.result.now.path, c.deref_mut-in-Less.result.now.entry) ∷ items right) c.replace-right.ensures.value
    ∙ ap (λ m. items c.without-in-Less.result ++ (m.path, m.entry) ∷ items m.right) c.deref_mut-in-Less.ensures.value
    ∙ ap (λ left. left ++ (n.path, n.entry) ∷ items n.right) (c.without-in-Less.ensures (left_rises _ (items c.replace-left.result) (n.path, n.entry) (items n.right) cut rises))
    ∙ without_left c.args.top.now _ (items c.replace-left.result) (n.path, n.entry) (items n.right) cut rises
    (ap (λ n. is_within c.args.top.now n.path) (c.deref_mut.ensures.value ∙ sym c.deref.ensures) ∙ sym c.stands_within.ensures ∙ c.if-stands_within.false)
    (ap (λ n. path_cmp c.args.top.now n.path) (c.deref_mut.ensures.value ∙ sym c.deref-in-Fork.ensures) ∙ sym c.order.ensures ∙ c.in-Less.is)

pub returns-in-Greater : goal.returns-in-Greater
returns-in-Greater t c rises =
    let n = c.deref_mut-in-Greater.result.now in
    let cut = ap items c.in-Fork.is ∙ ap node_items (sym c.deref_mut-in-Greater.ensures.value)
    ∙ ap (λ right. items n.left ++ (n.path, n.entry) ∷ items right) (sym (c.replace-right-in-Greater.ensures.value ∙ ap (λ m. m.right) c.deref_mut-in-Greater-2.ensures.value)) in
    c.join_at-in-Greater.ensures
    ∙ ap (λ m. items c.replace-left-in-Greater.result ++ (m.path, m.entry) ∷ items c.without-in-Greater.result) c.deref_mut-in-Greater-2.ensures.value
    ∙ ap (λ left. items left ++ (n.path, n.entry) ∷ items c.without-in-Greater.result) c.replace-left-in-Greater.ensures.value
    ∙ ap (λ right. items n.left ++ (n.path, n.entry) ∷ right) (c.without-in-Greater.ensures (right_rises _ (items n.left) (n.path, n.entry) (items c.replace-right-in-Greater.result) cut rises))
    ∙ without_right c.args.top.now _ (items n.left) (n.path, n.entry) (items c.replace-right-in-Greater.result) cut rises
    (ap (λ n. is_within c.args.top.now n.path) (c.deref_mut-in-Greater.ensures.value ∙ sym c.deref.ensures) ∙ sym c.stands_within.ensures ∙ c.if-stands_within.false)
    (turned_less n.path c.args.top.now (ap (λ n. path_cmp c.args.top.now n.path) (c.deref_mut-in-Greater.ensures.value ∙ sym c.deref-in-Fork.ensures) ∙ sym c.order.ensures ∙ c.in-Greater.is))
