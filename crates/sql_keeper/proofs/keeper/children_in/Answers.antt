use Rattle.std.proofs.Common.{sym, ap, ◌∙◌, subst, option_copied}
use Rattle.name_core.specs.Pages.{in_directory, is_child_past, IsPage}
use Rattle.mem_keeper.proofs.PlaceLemmas.{children_are}
use Rattle.sql_keeper.proofs.keeper.children_in.Goals as goal

pub returns : goal.returns
returns c =
    let dir = c.args.dir.now in
    subst (IsPage c.args.room (is_child_past dir (option_copied c.args.after)))
    (sym (ap (in_directory dir) c.in_ok-children.ensures ∙ children_are dir (option_copied c.args.after) c.in_ok-page.page.items c.in_ok-page.ensures.each))
    c.in_ok-page.ensures
