use Rattle.std.proofs.Common.{◌<◌, length, arith}
use Rattle.std.proofs.lemmas.Grind.{common_steps}
use Rattle.weed_base.specs.declared.source.Failed.{Failed}
use Rattle.http_bodies.proofs.ReadLemmas.{pending_read}
use Rattle.http_bodies.proofs.read.take_some.Goals as goal

pub returns-clause-bytes : goal.returns-clause-bytes
returns-clause-bytes g c =
    let some : 0 < length c.args.inbox.now = grind (arith, common_steps, c.if-is_empty.ensures, c.pending.ensures) in
    pending_read Failed c.args.inbox.now c.take_pending.new.inbox c.take_pending.new.room (g.S.Source.left c.args.from.now) c.take_pending.result some (grind (arith, common_steps)) c.take_pending.ensures.inbox c.take_pending.ensures.room
