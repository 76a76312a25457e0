use Rattle.std.proofs.Common.{[]}
use Rattle.records.proofs.Sizes.{as_events}
use Rattle.records.proofs.counting.record_length.Goals as goal

pub returns : goal.returns
returns c = as_events _ _ _ _ c.as_slice.ensures (c.count_events.ensures _ (c.varint.ensures [] c.none-text.ensures))
