use Rattle.std.proofs.Common.{◌≡◌, ◌∙◌, ◌+◌, min, length, arith}
use Rattle.std.proofs.lemmas.List.{length-drop}
use Rattle.std.proofs.lemmas.Result.{err_from_is_err_and}
use Rattle.http_client.proofs.FillLemmas.{consumes_both, both_ended}
use Rattle.http_client.proofs.body.fill_room.Goals as goal

pub returns-in_err-count-clause-bytes : goal.returns-in_err-count-clause-bytes
returns-in_err-count-clause-bytes g c =
    let p = err_from_is_err_and c.from_residual.result c.from_residual.ensures.1 in
    let left = g.S.Source.left in
    let pending = c.args.inbox.now in
    let room = c.read_rest.new.room in
    let first = c.take_pending-first.result in
    let some = c.in_err-count.ensures.bytes in
    let is = c.take_pending-first.ensures.count in
    rw (p.1) (first + some.0, omega (arith, some.1, length-drop first room), rw c.take_pending-first.ensures.inbox (consumes_both pending room first some.0 (left c.args.from.now) (left c.read_rest.new.from) (omega (arith, is, c.read_rest.auto.room, c.take_pending-first.auto.room)) (c.in_err-count.ensures.front ∙ c.take_pending-first.ensures.room) some.2))

pub returns-clause-bytes : goal.returns-clause-bytes
returns-clause-bytes g c =
    let left = g.S.Source.left in
    let pending = c.args.inbox.now in
    let room = c.read_rest.new.room in
    let first = c.take_pending-first.result in
    let count = c.in_ok-count.count in
    let reads = c.in_ok-count.ensures.bytes in
    let is : first ≡ min (length room) (length pending) = omega (arith, c.take_pending-first.ensures.count, c.read_rest.auto.room, c.take_pending-first.auto.room) in (
      omega (arith, reads.0, is, length-drop first room),
      rw c.take_pending-first.ensures.inbox (consumes_both pending room first count (left c.args.from.now) (left c.read_rest.new.from) is (c.in_ok-count.ensures.front ∙ c.take_pending-first.ensures.room) reads.1),
      λ less. rw c.take_pending-first.ensures.inbox (both_ended pending room first (left c.read_rest.new.from) is (omega (arith, less)) (reads.2 (omega (arith, less, length-drop first room)))),
    )
