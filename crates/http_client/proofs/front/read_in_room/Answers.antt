use Rattle.std.proofs.Common.{Ok, ap, subst, ◌∙◌}
use Rattle.httparse.specs.Outcome.{IfComplete}
use Rattle.httparse.specs.Borrowed.{HoldsSomeResponse}
use Rattle.http_client.specs.AnswerHead.{parts_of}
use Rattle.http_client.proofs.AnswerFrontLemmas.{holds_parts, reads_whole}
use Rattle.http_client.proofs.front.read_in_room.Goals as goal

pub take_whole-requires : goal.take_whole-requires
take_whole-requires c =
    let response = c.parse.new.self in
    let bytes = c.args.bytes.now in
    let held : HoldsSomeResponse bytes response c.in-Ok-Complete.count = subst (λ r. IfComplete r (HoldsSomeResponse bytes response)) (c.in-Ok-Complete.is ∙ ap Ok c.in-Ok-Complete.field-0-is) c.parse.ensures.complete in
    (parts_of held.0, holds_parts bytes c.in-Ok-Complete.count response held.0 held.1)

pub returns-in-Ok-Complete : goal.returns-in-Ok-Complete
returns-in-Ok-Complete c =
    let response = c.parse.new.self in
    let bytes = c.args.bytes.now in
    let count = c.in-Ok-Complete.count in
    let held : HoldsSomeResponse bytes response count = subst (λ r. IfComplete r (HoldsSomeResponse bytes response)) (c.in-Ok-Complete.is ∙ ap Ok c.in-Ok-Complete.field-0-is) c.parse.ensures.complete in
    reads_whole bytes _ count response held.0 c.take_whole.result held.1 (c.take_whole.ensures (parts_of held.0) (holds_parts bytes count response held.0 held.1))
