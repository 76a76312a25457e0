use Rattle.std.proofs.Common.{Ok, ap, subst, ◌∙◌}
use Rattle.httparse.specs.Outcome.{IfComplete}
use Rattle.httparse.specs.Borrowed.{HoldsSomeRequest}
use Rattle.http_head.specs.Request.{parts_of}
use Rattle.http_head.proofs.FrontLemmas.{holds_parts, reads_whole}
use Rattle.http_head.proofs.front.read_in_room.Goals as goal

pub take_whole-requires : goal.take_whole-requires
take_whole-requires c =
    let request = c.parse.new.self in
    let bytes = c.args.bytes.now in
    let held : HoldsSomeRequest bytes request c.in-Ok-Complete.count = subst (λ r. IfComplete r (HoldsSomeRequest bytes request)) (c.in-Ok-Complete.is ∙ ap Ok c.in-Ok-Complete.field-0-is) c.parse.ensures.complete in
    (parts_of held.0, holds_parts bytes c.in-Ok-Complete.count request held.0 held.1)

pub returns-in-Ok-Complete : goal.returns-in-Ok-Complete
returns-in-Ok-Complete c =
    let request = c.parse.new.self in
    let bytes = c.args.bytes.now in
    let count = c.in-Ok-Complete.count in
    let held : HoldsSomeRequest bytes request count = subst (λ r. IfComplete r (HoldsSomeRequest bytes request)) (c.in-Ok-Complete.is ∙ ap Ok c.in-Ok-Complete.field-0-is) c.parse.ensures.complete in
    reads_whole bytes _ count request held.0 c.take_whole.result held.1 (c.take_whole.ensures (parts_of held.0) (holds_parts bytes count request held.0 held.1))
