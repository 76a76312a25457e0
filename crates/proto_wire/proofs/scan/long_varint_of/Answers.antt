use Rattle.std.proofs.Common.{◌≡◌, ◌≤◌, ◌+◌, get_or, refl, arith}
use Rattle.std.proofs.lemmas.List.{take_rest}
use Rattle.proto_wire.proofs.Groups.{group_fits, goes_on, ends, too_large, cut}
use Rattle.proto_wire.proofs.scan.long_varint_of.Goals as goal
use Rattle.proto_wire.proofs.scan.long_varint_of.Goals.{else-index-eq9-via-then-index-eq9+else-byte-gt1, else-index-eq9-via-else-index-eq9}

pub returns-then-byte-gt1 : goal.returns-then-byte-gt1
returns-then-byte-gt1 c = too_large c.args.text.now c.loop-index.index c.loop-index.value _ c.if-index-eq9.true c.loop-index-test.true refl c.if-byte-gt1.true c.loop-index.invariant

pub overflow_add-value : goal.overflow_add-value
overflow_add-value c =
    let last : c.loop-index.index ≡ 9 → get_or c.args.text.now c.loop-index.index 0 ≤ 1 =
    elim c.else-index-eq9.branch [
      | else-index-eq9-via-then-index-eq9+else-byte-gt1 w ↦ λ nine. omega arith
      | else-index-eq9-via-else-index-eq9 w ↦ λ nine. absurd (omega arith)
    ] in
    omega (arith, group_fits _ _ c.loop-index.invariant.within last, c.group_at-value.ensures)

pub returns-then-byte-lt128 : goal.returns-then-byte-lt128
returns-then-byte-lt128 c =
    let last : c.loop-index.index ≡ 9 → get_or c.args.text.now c.loop-index.index 0 ≤ 1 =
    elim c.else-index-eq9.branch [
      | else-index-eq9-via-then-index-eq9+else-byte-gt1 w ↦ λ nine. omega arith
      | else-index-eq9-via-else-index-eq9 w ↦ λ nine. absurd (omega arith)
    ] in
    rw (c.group_at-value.ensures, take_rest c.args.text.now (c.loop-index.index + 1)) (ends c.args.text.now c.loop-index.index c.loop-index.value _ c.loop-index-test.true refl c.if-byte-lt128.true last c.loop-index.invariant)

pub loop-index-preserved : goal.loop-index-preserved
loop-index-preserved c =
    let last : c.loop-index.index ≡ 9 → get_or c.args.text.now c.loop-index.index 0 ≤ 1 =
    elim c.else-index-eq9.branch [
      | else-index-eq9-via-then-index-eq9+else-byte-gt1 w ↦ λ nine. omega arith
      | else-index-eq9-via-else-index-eq9 w ↦ λ nine. absurd (omega arith)
    ] in
    rw c.group_at-value.ensures (goes_on c.args.text.now c.loop-index.index c.loop-index.value _ c.loop-index-test.true refl (omega (arith, c.type_inv.text c.loop-index.index)) c.if-byte-lt128.false last c.loop-index.invariant)

pub returns : goal.returns
returns c = cut c.args.text.now _ _ c.loop-index-test.false c.loop-index.invariant
