use Rattle.std.proofs.Common.{[]}
use Rattle.records.proofs.Sizes.{as_number}
use Rattle.records.proofs.counting.fid_size.Goals as goal

pub returns : goal.returns
returns c = c.fixed32.ensures _ (c.varint-2.ensures _ (as_number _ [] 1 _ _ c.from.ensures (c.varint.ensures [] c.none-text.ensures)))
