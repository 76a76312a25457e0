use Rattle.std.proofs.Common.{[]}
use Rattle.entry.specs.EntryWriting.{fid_text}
use Rattle.records.proofs.Sizes.{as_number, as_bytes}
use Rattle.records.proofs.counting.chunk_size.Goals as goal

pub returns : goal.returns
returns c =
    let place = c.varint-3.ensures _ (c.varint-2.ensures _ (c.varint.ensures [] c.none-text.ensures)) in
    let named = c.message.ensures _ (fid_text c.args.chunk.now.fid) place c.fid_size.ensures in
    let keyed = as_bytes _ _ 9 _ _ c.key_of.ensures (c.bytes.ensures _ named) in
    let packed = as_number _ _ 10 _ _ c.bit_if.ensures (c.varint-4.ensures _ keyed) in
    as_number _ _ 11 _ _ c.bit_if-2.ensures (c.varint-5.ensures _ packed)
