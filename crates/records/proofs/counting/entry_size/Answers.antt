use Rattle.std.proofs.Common.{[]}
use Rattle.entry.specs.AttributesText.{attributes_text}
use Rattle.records.proofs.Sizes.{as_number, as_chunks}
use Rattle.records.proofs.counting.entry_size.Goals as goal

pub returns : goal.returns
returns c =
    let kind = as_number _ _ 2 _ _ c.bit_of.ensures (c.varint.ensures _ (c.bytes.ensures [] c.none-text.ensures)) in
    let chunks = as_chunks _ _ _ _ c.as_slice.ensures (c.count_chunks.ensures _ kind) in
    c.message.ensures _ (attributes_text c.args.entry.now.attributes) chunks c.attributes_size.ensures
