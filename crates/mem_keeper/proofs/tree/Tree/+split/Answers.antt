use Rattle.std.proofs.Common.{◌∷◌, ◌++◌, sym, ap, ◌∙◌}
use Rattle.weed_base.specs.PathOrder.{path_cmp}
use Rattle.mem_keeper.specs.Items.{items, node_items}
use Rattle.mem_keeper.proofs.TreeLemmas.{left_rises, right_rises, put_in_left, put_at, put_in_right}
use Rattle.mem_keeper.proofs.tree.Tree.+split.Goals as goal

pub returns-in-Less : goal.returns-in-Less
returns-in-Less t c entry rises =
    let n = c.deref_mut.result.now in
    put_in_left c.args.at.now entry _ (items c.replace-left.result) (n.path, n.entry) (items n.right) _ _
    (ap items c.in-Fork.is ∙ ap node_items (sym c.deref_mut.ensures.value) ∙ ap (λ left. items left ++ (n.path, n.entry) ∷ items n.right) (sym c.replace-left.ensures.value))
    (c.in-Less.ensures ∙ ap (λ n. path_cmp c.args.at.now n.path) (c.deref.ensures ∙ sym c.deref_mut.ensures.value))
    (c.split-before.ensures entry (left_rises _ (items c.replace-left.result) (n.path, n.entry) (items n.right)
    (ap items c.in-Fork.is ∙ ap node_items (sym c.deref_mut.ensures.value) ∙ ap (λ left. items left ++ (n.path, n.entry) ∷ items n.right) (sym c.replace-left.ensures.value)) rises))
    ∙ ap (λ behind. items c.split-before.result.0 ++ (c.args.at.now, entry) ∷ behind) (sym (c.join_at.ensures
    ∙ ap (λ right. items c.split-before.result.1 ++ (c.deref_mut-in-Less.result.now.path, c.deref_mut-in-Less.result.now.entry) ∷ items right) c.replace-right.ensures.value
    ∙ ap (λ m. items c.split-before.result.1 ++ (m.path, m.entry) ∷ items m.right) c.deref_mut-in-Less.ensures.value))

pub returns-in-Equal : goal.returns-in-Equal
returns-in-Equal t c entry rises =
    let n = c.into_inner-left.result in
    put_at c.args.at.now entry _ (items n.left) (n.path, n.entry) (items n.right)
    (ap items c.in-Fork.is ∙ ap node_items (sym c.into_inner-left.ensures)) rises
    (c.in-Equal.ensures ∙ ap (λ n. path_cmp c.args.at.now n.path) (c.deref.ensures ∙ sym c.into_inner-left.ensures))

pub returns-in-Greater : goal.returns-in-Greater
returns-in-Greater t c entry rises =
    let n = c.deref_mut-in-Greater.result.now in
    put_in_right c.args.at.now entry _ (items n.left) (n.path, n.entry) (items c.replace-right-in-Greater.result) _ _
    (ap items c.in-Fork.is ∙ ap node_items (sym c.deref_mut-in-Greater.ensures.value)
    ∙ ap (λ right. items n.left ++ (n.path, n.entry) ∷ items right) (sym (c.replace-right-in-Greater.ensures.value ∙ ap (λ m. m.right) c.deref_mut-in-Greater-2.ensures.value))) rises
    (c.in-Greater.ensures ∙ ap (λ n. path_cmp c.args.at.now n.path) (c.deref.ensures ∙ sym c.deref_mut-in-Greater.ensures.value))
    (c.split-before-in-Greater.ensures entry (right_rises _ (items n.left) (n.path, n.entry) (items c.replace-right-in-Greater.result)
    (ap items c.in-Fork.is ∙ ap node_items (sym c.deref_mut-in-Greater.ensures.value)
    ∙ ap (λ right. items n.left ++ (n.path, n.entry) ∷ items right) (sym (c.replace-right-in-Greater.ensures.value ∙ ap (λ m. m.right) c.deref_mut-in-Greater-2.ensures.value))) rises))
    ∙ ap (λ before. before ++ (c.args.at.now, entry) ∷ items c.split-before-in-Greater.result.1) (sym (c.join_at-in-Greater.ensures
    ∙ ap (λ m. items c.replace-left-in-Greater.result ++ (m.path, m.entry) ∷ items c.split-before-in-Greater.result.0) c.deref_mut-in-Greater-2.ensures.value
    ∙ ap (λ left. items left ++ (n.path, n.entry) ∷ items c.split-before-in-Greater.result.0) c.replace-left-in-Greater.ensures.value))
