use Rattle.filer.proofs.Openings.{filed, opens_weaker}
use Rattle.filer.proofs.filer.Filer.open.Goals as goal

pub returns-in-Ok-clause-opened : goal.returns-in-Ok-clause-opened
returns-in-Ok-clause-opened g c =
    opens_weaker g.D.Disk _ _ c.args.disk.now c.begin.new.disk (λ files records begun. filed g.K.Names.map _ files records c.front-published.ensures.front begun) c.in-Ok.ensures.opened
