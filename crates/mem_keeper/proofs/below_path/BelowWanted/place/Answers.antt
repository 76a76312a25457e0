use Rattle.std.proofs.Common.{nat_lt, length, option_copied, sym, ◌∙◌}
use Rattle.mem_keeper.proofs.PlaceLemmas.{stands_before, stands_at_top, stands_behind, stands_within, stands_ahead, is_lower, below_is_lower}
use Rattle.mem_keeper.proofs.below_path.BelowWanted.place.Goals as goal

pub returns-in-Less : goal.returns-in-Less
returns-in-Less c =
    let top = c.args.self.now.top.now in
    stands_before top (option_copied c.args.self.now.after) (λ path. nat_lt (length top) (length path)) (is_lower top) c.args.path.now (sym c.order.ensures ∙ c.in-Less.is)

pub returns-in-Equal : goal.returns-in-Equal
returns-in-Equal c =
    let top = c.args.self.now.top.now in
    stands_at_top top (option_copied c.args.self.now.after) (λ path. nat_lt (length top) (length path)) (is_lower top) c.args.path.now (sym c.order.ensures ∙ c.in-Equal.is)

pub returns-in-Greater : goal.returns-in-Greater
returns-in-Greater c =
    let top = c.args.self.now.top.now in
    stands_behind top (option_copied c.args.self.now.after) (λ path. nat_lt (length top) (length path)) (is_lower top) c.args.path.now (sym c.order.ensures ∙ c.in-Greater.is)
    (λ below. let so = c.is_below.ensures.1 below in let isnt = c.if-not-is_below.true in cc)

pub returns-then-is_past : goal.returns-then-is_past
returns-then-is_past c =
    let top = c.args.self.now.top.now in
    let below = c.is_below.ensures.0 c.if-not-is_below.false in
    stands_within top (option_copied c.args.self.now.after) (λ path. nat_lt (length top) (length path)) (is_lower top) c.args.path.now below (below_is_lower top c.args.path.now below) (sym c.is_past.ensures ∙ c.if-is_past.true)

pub returns-else-is_past : goal.returns-else-is_past
returns-else-is_past c =
    let top = c.args.self.now.top.now in
    stands_ahead top (option_copied c.args.self.now.after) (λ path. nat_lt (length top) (length path)) (is_lower top) c.args.path.now (sym c.is_past.ensures ∙ c.if-is_past.false)
