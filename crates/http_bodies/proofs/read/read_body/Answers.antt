use Rattle.http_wire.specs.Inbox.{left_of}
use Rattle.http_bodies.proofs.ReadLemmas.{behind_marks}
use Rattle.http_bodies.proofs.read.read_body.Goals as goal

pub returns-clause-read : goal.returns-clause-read
returns-clause-read g c =
    behind_marks c.read_data.result c.args.body.now c.pass_marks.new.body c.read_data.new.body
    (left_of c.args.inbox.now (g.S.Source.left c.args.from.now)) (left_of c.pass_marks.new.inbox (g.S.Source.left c.pass_marks.new.from)) (left_of c.read_data.new.inbox (g.S.Source.left c.read_data.new.from))
    c.read_data.new.room c.in_ok-pass_marks.ensures.passed.1 c.read_data.ensures.read
