use Rattle.std.proofs.Common.{◌==◌, ◌+◌, length, option_copied, sym, ap, ◌∙◌}
use Rattle.std.specs.Option.{option_map}
use Rattle.name_core.specs.Pages.{child_path}
use Rattle.mem_keeper.proofs.PlaceLemmas.{stands_before, stands_at_top, stands_behind, stands_within, stands_ahead, is_lower_child, as_long}
use Rattle.mem_keeper.proofs.directory.ChildrenWanted.place.Goals as goal

pub returns-in-Less : goal.returns-in-Less
returns-in-Less c =
    let dir = c.args.self.now.dir.now in
    stands_before dir (option_map (child_path dir) (option_copied c.args.self.now.after)) (λ path. length path == length dir + 1) (is_lower_child dir) c.args.path.now (sym c.order.ensures ∙ c.in-Less.is)

pub returns-in-Equal : goal.returns-in-Equal
returns-in-Equal c =
    let dir = c.args.self.now.dir.now in
    stands_at_top dir (option_map (child_path dir) (option_copied c.args.self.now.after)) (λ path. length path == length dir + 1) (is_lower_child dir) c.args.path.now (sym c.order.ensures ∙ c.in-Equal.is)

pub returns-in-Greater : goal.returns-in-Greater
returns-in-Greater c =
    let dir = c.args.self.now.dir.now in
    stands_behind dir (option_map (child_path dir) (option_copied c.args.self.now.after)) (λ path. length path == length dir + 1) (is_lower_child dir) c.args.path.now (sym c.order.ensures ∙ c.in-Greater.is)
    (λ below. let so = c.is_below.ensures.1 below in let isnt = c.if-not-is_below.true in cc)

pub returns-then-not-branch : goal.returns-then-not-branch
returns-then-not-branch c =
    let dir = c.args.self.now.dir.now in
    stands_ahead dir (option_map (child_path dir) (option_copied c.args.self.now.after)) (λ path. length path == length dir + 1) (is_lower_child dir) c.args.path.now (sym c.in_ok-is_past.ensures ∙ c.if-not-branch.true)

pub returns-then-depth : goal.returns-then-depth
returns-then-depth c =
    let dir = c.args.self.now.dir.now in
    stands_within dir (option_map (child_path dir) (option_copied c.args.self.now.after)) (λ path. length path == length dir + 1) (is_lower_child dir) c.args.path.now
    (c.is_below.ensures.0 c.if-not-is_below.false) (as_long _ _ (sym c.depth.ensures.depth ∙ c.if-depth.true ∙ ap (λ d. d + 1) c.depth-2.ensures.depth)) (sym c.in_ok-is_past.ensures ∙ c.if-not-branch.false)
