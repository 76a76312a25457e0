use Rattle.std.proofs.Common.{◌≡◌, ◌++◌, take, sym, ap, ◌∙◌, subst, option_copied, rules}
use Rattle.std.specs.Prelude.{OnOk}
use Rattle.mem_keeper.specs.Items.{items, listed, named, node_items, bound}
use Rattle.mem_keeper.specs.Places.{StandsAt}
use Rattle.mem_keeper.proofs.SearchLemmas.{rises_to, rises_from, rises_amid, when_ahead, when_behind, none_among, none_added, full_page, also, few_after, found_with, found_without}
use Rattle.mem_keeper.proofs.search.Search.+gather.Goals as goal

pub returns-then-len-self : goal.returns-then-len-self
returns-then-len-self g t c rises few = full_page _ c.args.page.now.items _ few (search rules)

pub returns-then-branch : goal.returns-then-branch
returns-then-branch g t c rises few =
    none_added _ c.args.page.now.items _ few (none_among (g.W.Wanted.belongs c.args.self.now.wanted.now) (option_copied c.args.least) _ (option_copied c.args.most) rises (c.in_ok-skips-in-Fork.ensures c.if-branch.true))

pub returns-in-Ahead : goal.returns-in-Ahead
returns-in-Ahead g t c rises few =
    let n = c.deref-node.result.now in
    let cut = ap items c.in-Fork.is ∙ ap node_items (sym c.deref-node.ensures) in
    let b = bound (option_copied c.args.least) in
    let m = bound (option_copied c.args.most) in
    subst (λ more. OnOk c.gather.result (listed c.gather.new.page.items ≡ take c.args.self.now.room (listed c.args.page.now.items ++ more)))
    (when_ahead (g.W.Wanted.belongs c.args.self.now.wanted.now) _ (items n.left) (named n) (items n.right) cut (rises_amid b _ m rises) (subst (StandsAt (g.W.Wanted.belongs c.args.self.now.wanted.now) n.path) c.in-Ahead.is c.in_ok-place-in-Fork.ensures))
    (c.gather.ensures (rises_from b _ m (items n.left) (named n) (items n.right) cut rises) few)

pub returns-in_ok-add-in-Within : goal.returns-in_ok-add-in-Within
returns-in_ok-add-in-Within g t c rises few =
    let n = c.deref-node.result.now in
    let cut = ap items c.in-Fork.is ∙ ap node_items (sym c.deref-node.ensures) in
    let b = bound (option_copied c.args.least) in
    let m = bound (option_copied c.args.most) in
    let left = c.in_ok-gather-in-Within.ensures (rises_to b _ m (items n.left) (named n) (items n.right) cut rises) few in
    let mid = c.in_ok-add-in-Within.ensures (few_after _ _ _ left) in
    also c.gather-in-Within-2.result
    (found_with (g.W.Wanted.belongs c.args.self.now.wanted.now) c.args.self.now.room c.args.page.now.items _ _ (items n.left) (named n) (items n.right) cut left _ _ (subst (StandsAt (g.W.Wanted.belongs c.args.self.now.wanted.now) n.path) c.in-Within.is c.in_ok-place-in-Fork.ensures) mid)
    (c.gather-in-Within-2.ensures (rises_from b _ m (items n.left) (named n) (items n.right) cut rises) (few_after _ _ _ mid))

pub returns-in_ok-gather-in-Apart : goal.returns-in_ok-gather-in-Apart
returns-in_ok-gather-in-Apart g t c rises few =
    let n = c.deref-node.result.now in
    let cut = ap items c.in-Fork.is ∙ ap node_items (sym c.deref-node.ensures) in
    let b = bound (option_copied c.args.least) in
    let m = bound (option_copied c.args.most) in
    let left = c.in_ok-gather-in-Apart.ensures (rises_to b _ m (items n.left) (named n) (items n.right) cut rises) few in
    also c.gather-in-Apart-2.result
    (found_without (g.W.Wanted.belongs c.args.self.now.wanted.now) c.args.self.now.room c.args.page.now.items _ _ (items n.left) (named n) (items n.right) cut left _ (subst (StandsAt (g.W.Wanted.belongs c.args.self.now.wanted.now) n.path) c.in-Apart.is c.in_ok-place-in-Fork.ensures))
    (c.gather-in-Apart-2.ensures (rises_from b _ m (items n.left) (named n) (items n.right) cut rises) (few_after _ _ _ left))

pub returns-in-Behind : goal.returns-in-Behind
returns-in-Behind g t c rises few =
    let n = c.deref-node.result.now in
    let cut = ap items c.in-Fork.is ∙ ap node_items (sym c.deref-node.ensures) in
    let b = bound (option_copied c.args.least) in
    let m = bound (option_copied c.args.most) in
    subst (λ more. OnOk c.gather-in-Behind.result (listed c.gather-in-Behind.new.page.items ≡ take c.args.self.now.room (listed c.args.page.now.items ++ more)))
    (when_behind (g.W.Wanted.belongs c.args.self.now.wanted.now) _ (items n.left) (named n) (items n.right) cut (rises_amid b _ m rises) (subst (StandsAt (g.W.Wanted.belongs c.args.self.now.wanted.now) n.path) c.in-Behind.is c.in_ok-place-in-Fork.ensures))
    (c.gather-in-Behind.ensures (rises_to b _ m (items n.left) (named n) (items n.right) cut rises) few)
