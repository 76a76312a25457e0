use Rattle.std.proofs.Common.{[]}
use Rattle.records.proofs.Sizes.{as_number, as_bytes}
use Rattle.records.proofs.counting.attributes_size.Goals as goal

pub returns : goal.returns
returns c =
    let mode = as_number _ _ 3 _ _ c.from.ensures (c.varint-3.ensures _ (c.varint-2.ensures _ (c.varint.ensures [] c.none-text.ensures))) in
    let owner = as_number _ _ 5 _ _ c.from-3.ensures (c.varint-5.ensures _ (as_number _ _ 4 _ _ c.from-2.ensures (c.varint-4.ensures _ mode))) in
    let typed = as_bytes _ _ 7 _ _ c.as_slice.ensures (c.bytes.ensures _ (c.varint-6.ensures _ owner)) in
    let kept = as_number _ _ 10 _ _ c.from-4.ensures (c.varint-7.ensures _ typed) in
    as_bytes _ _ 14 _ _ c.digest_of.ensures (c.bytes-2.ensures _ kept)
