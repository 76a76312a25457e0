use Rattle.std.proofs.Common.{◌∙◌, ap, take, drop, ◌++◌, arith}
use Rattle.std.proofs.lemmas.List.{length-drop, length-take-le}
use Rattle.http_wire.proofs.InboxLemmas.{part-same, part-more}
use Rattle.http_wire.proofs.inbox.read_more.Goals as goal

pub returns-clause-bytes : goal.returns-clause-bytes
returns-clause-bytes g c =
    let room = c.make_room.result in
    let moved = c.make_room.new.buffer in
    let buffer = c.read_behind.new.buffer in
    let count = c.in_ok-count.count in
    let reads = c.in_ok-count.ensures.bytes in
    let bytes = take count (drop room.end buffer) in
    let kept = part-same room.start room.end buffer moved c.make_room.ensures.ordered c.in_ok-count.ensures.front ∙ c.make_room.ensures.part in
    let grown = part-more room.start room.end count buffer c.make_room.ensures.ordered ∙ ap (λ xs. xs ++ bytes) kept in
    (bytes, length-take-le count (drop room.end buffer) reads.0, grown, reads.1, λ none. reads.2 none (omega (arith, length-drop room.end buffer)))
