use Rattle.std.proofs.Common.{◌≤◌, ◌++◌, length, take, sym, ap, ◌∙◌, arith, subst}
use Rattle.name_core.specs.Pages.{page_of, IsPage}
use Rattle.mem_keeper.specs.Items.{items, listed, wanted_of}
use Rattle.mem_keeper.proofs.NameLemmas.{page_found, page_is, no_bounds}
use Rattle.mem_keeper.proofs.names.NameTree.first.Goals as goal

pub returns-clause-first : goal.returns-clause-first
returns-clause-first g c =
    let es = items c.self.inside.tree in
    let wanted = g.W.Wanted.belongs c.args.wanted.now in
    let few : length c.new-found.result.items ≤ c.args.room = omega (arith, ap length c.new-found.ensures.items) in
    page_found es _ c.args.room wanted c.self.invariant.0
    (c.in_ok-gather.ensures (no_bounds es c.self.invariant.0) few ∙ ap (λ found. take c.args.room (listed found ++ wanted_of wanted es)) c.new-found.ensures.items)
    ∙ ap (λ names. page_of names c.args.room wanted) c.self.view_is

pub returns-clause-page : goal.returns-clause-page
returns-clause-page g c =
    let es = items c.self.inside.tree in
    let wanted = g.W.Wanted.belongs c.args.wanted.now in
    let few : length c.new-found.result.items ≤ c.args.room = omega (arith, ap length c.new-found.ensures.items) in
    subst (IsPage c.args.room wanted) (sym (
    c.in_ok-gather.ensures (no_bounds es c.self.invariant.0) few ∙ ap (λ found. take c.args.room (listed found ++ wanted_of wanted es)) c.new-found.ensures.items))
    (page_is es c.args.room wanted c.self.invariant.0 c.self.invariant.1)
