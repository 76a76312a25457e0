use Rattle.std.proofs.Common.{◌≡◌, sym, ap, ◌∙◌, subst, Some}
use Rattle.std.specs.Prelude.{IfOk}
use Rattle.weed_base.specs.PathOrder.{path_cmp}
use Rattle.mem_keeper.specs.Items.{items, node_items}
use Rattle.mem_keeper.proofs.TreeLemmas.{left_rises, right_rises, found_left, found_at, found_right}
use Rattle.mem_keeper.proofs.tree.Tree.+find.Goals as goal

pub returns-in-Less : goal.returns-in-Less
returns-in-Less t c rises =
    let n = c.deref-in-Less.result.now in
    subst (λ f. IfOk c.find.result (λ found. found ≡ f))
    (found_left c.args.path.now _ (items n.left) (n.path, n.entry) (items n.right) (ap items c.in-Fork.is ∙ ap node_items (sym c.deref-in-Less.ensures)) rises
    (c.in-Less.ensures ∙ ap (λ n. path_cmp c.args.path.now n.path) (c.deref.ensures ∙ sym c.deref-in-Less.ensures)))
    (c.find.ensures (left_rises _ (items n.left) (n.path, n.entry) (items n.right) (ap items c.in-Fork.is ∙ ap node_items (sym c.deref-in-Less.ensures)) rises))

pub returns-in_ok-copy-in-Equal : goal.returns-in_ok-copy-in-Equal
returns-in_ok-copy-in-Equal t c rises =
    let n = c.deref-in-Equal.result.now in
    ap Some c.in_ok-copy-in-Equal.ensures ∙
    found_at c.args.path.now _ (items n.left) (n.path, n.entry) (items n.right) (ap items c.in-Fork.is ∙ ap node_items (sym c.deref-in-Equal.ensures)) rises
    (c.in-Equal.ensures ∙ ap (λ n. path_cmp c.args.path.now n.path) (c.deref.ensures ∙ sym c.deref-in-Equal.ensures))

pub returns-in-Greater : goal.returns-in-Greater
returns-in-Greater t c rises =
    let n = c.deref-in-Greater.result.now in
    subst (λ f. IfOk c.find-in-Greater.result (λ found. found ≡ f))
    (found_right c.args.path.now _ (items n.left) (n.path, n.entry) (items n.right) (ap items c.in-Fork.is ∙ ap node_items (sym c.deref-in-Greater.ensures)) rises
    (c.in-Greater.ensures ∙ ap (λ n. path_cmp c.args.path.now n.path) (c.deref.ensures ∙ sym c.deref-in-Greater.ensures)))
    (c.find-in-Greater.ensures (right_rises _ (items n.left) (n.path, n.entry) (items n.right) (ap items c.in-Fork.is ∙ ap node_items (sym c.deref-in-Greater.ensures)) rises))
