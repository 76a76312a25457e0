use Rattle.std.proofs.lemmas.Result.{IfOk-weaker}
use Rattle.topology.proofs.Tallies.{met_writable}
use Rattle.topology.proofs.writable.writable_volumes.Goals as goal

pub returns : goal.returns
returns c =
    IfOk-weaker c.met_volumes.result _ _ (λ volumes is. met_writable c.args.kind.now c.args.members.now c.in_ok-tallies.tallies volumes.items c.in_ok-tallies.ensures is) c.met_volumes.ensures
