use Rattle.std.proofs.Common.{sym, ap, ◌∙◌, subst, map, option_copied}
use Rattle.name_core.specs.Pages.{in_directory, is_child_past, IsPage}
use Rattle.mem_keeper.specs.Items.{listed}
use Rattle.mem_keeper.specs.Names.{child_of}
use Rattle.mem_keeper.proofs.NameLemmas.{answered}
use Rattle.mem_keeper.proofs.PlaceLemmas.{children_are}
use Rattle.mem_keeper.proofs.names.NameTree.children_after.Goals as goal

pub returns-clause-first : goal.returns-clause-first
returns-clause-first c =
    let dir = c.args.dir.now in
    answered c.children.result (λ page is.
    ap (in_directory dir) (is ∙ ap (λ nodes. map child_of (listed nodes)) c.deref.ensures.value)
    ∙ children_are dir (option_copied c.args.after) (listed c.in_ok-found.found.items) c.in_ok-found.ensures.page.each ∙ c.in_ok-found.ensures.first)
    c.children.ensures

pub returns-clause-page : goal.returns-clause-page
returns-clause-page c =
    let dir = c.args.dir.now in
    answered c.children.result (λ page is.
    subst (IsPage c.args.room (is_child_past dir (option_copied c.args.after))) (sym (
    ap (in_directory dir) (is ∙ ap (λ nodes. map child_of (listed nodes)) c.deref.ensures.value)
    ∙ children_are dir (option_copied c.args.after) (listed c.in_ok-found.found.items) c.in_ok-found.ensures.page.each))
    c.in_ok-found.ensures.page)
    c.children.ensures
