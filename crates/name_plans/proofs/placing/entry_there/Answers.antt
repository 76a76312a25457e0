use Rattle.name_plans.proofs.Ways.{there_cleared}
use Rattle.name_plans.proofs.placing.entry_there.Goals as goal

pub returns-then-clears-clause-there : goal.returns-then-clears-clause-there
returns-then-clears-clause-there g c = there_cleared (g.V.Names.map c.args.view.now) c.args.clears c.args.path.now c.if-clears.true
