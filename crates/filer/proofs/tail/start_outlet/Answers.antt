use Rattle.std.proofs.lemmas.Result.{IfOk-weaker}
use Rattle.filer.proofs.Tails.{stands_longer}
use Rattle.filer.proofs.tail.start_outlet.Goals as goal

pub returns-clause-stands : goal.returns-clause-stands
returns-clause-stands g c = IfOk-weaker c.start.result _ _
    (λ outlet stands. stands_longer (g.O.Outlet.StandsFor outlet) c.args.texts.now c.count_ahead.result c.args.count c.count_ahead.ensures.within c.requires.few stands)
    c.start.ensures.stands
