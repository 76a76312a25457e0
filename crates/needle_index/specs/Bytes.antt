-- How many bytes of a volume the needles of a map take.
use Rattle.std.specs.Prelude.{ℕ, Option}
use Rattle.std.specs.Option.{option_map_or}
use Rattle.std.specs.List.{sum_by}
use Rattle.std.specs.FinMap.{values}
use Rattle.needle.specs.Layout.{padded}
use Rattle.needle.specs.declared.version.Version.{Version}
use Rattle.needle_index.specs.Index.{Spots}
use Rattle.needle_index.specs.declared.spot.Spot.{Spot}

-- The padded length of a needle, 0 where there is none.
abbrev pub padded_in : Version → Option Spot → ℕ
padded_in version spot = option_map_or (λ s. padded version s.size) spot 0

-- The padded lengths of all needles together.
abbrev pub live : Version → Spots → ℕ
live version spots = sum_by (λ spot. padded version spot.size) (values spots)
