use Rattle.std.proofs.Common.{rules, ◌≡◌, ◌∷◌, ◌++◌, take, drop}
use Rattle.name_core.specs.declared.change.Change.TheVariants.{Drop}
use Rattle.name_core.specs.Plan.{prefixes_from, puts}
use Rattle.name_plans.proofs.Ways.{past_makeable}
use Rattle.name_plans.proofs.way.way_past.Goals as goal

pub returns-clause-makeable : goal.returns-clause-makeable
returns-clause-makeable c =
    let all : c.of.result ≡ Drop c.args.file ∷ c.args.above.items ++ puts c.args.time (prefixes_from (take c.args.depth c.args.directory.now) (drop c.args.depth c.args.directory.now)) = search rules in
    past_makeable c.args.time c.args.file c.args.above.items (take c.args.depth c.args.directory.now) (drop c.args.depth c.args.directory.now) c.of.result c.requires.filled c.requires.above all
