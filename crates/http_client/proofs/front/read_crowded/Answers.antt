use Rattle.std.proofs.Common.{◌≡◌, Ok, None, length, subst, arith}
use Rattle.http_client.specs.AnswerFront.{ReadsInRoom}
use Rattle.http_client.proofs.AnswerFrontLemmas.{never_crowded}
use Rattle.http_client.proofs.front.read_crowded.Goals as goal

pub unreachable-requires : goal.unreachable-requires
unreachable-requires c =
    let bytes = c.args.bytes.now in
    let room : length c.as_mut_slice.result.now ≡ 5462 = grind (arith, c.as_mut_slice.ensures.len, c.in_ok-room.ensures.len) in
    let none = subst (λ o. ReadsInRoom bytes (length c.as_mut_slice.result.now) (Ok o)) c.in-None.is c.in_ok-front.ensures in
    never_crowded bytes c.requires (subst (λ n. ReadsInRoom bytes n (Ok None)) room none)
