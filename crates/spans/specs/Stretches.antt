-- What is seen of chunks as stretches of positions, one behind another.
use Rattle.std.specs.Prelude.{◌≡◌, ℕ, nat_lt, if◌then◌else◌, List, [], ◌∷◌, filter, Option, None, Some, option_map}
use Rattle.entry.specs.declared.chunk.Chunk.{Chunk}
use Rattle.spans.specs.declared.stretch.Seen.{Seen}
use Rattle.spans.specs.declared.stretch.Stretch.{Stretch}
use Rattle.spans.specs.Denotation.{covers, Placed, placed_from, newest}

-- The time and the place of a chunk.
abbrev pub mark : Placed → Seen
mark placed = record { modified = placed.chunk.modified; place = placed.place }

-- The one of the later time, and of equal times the one behind.
abbrev pub topmost : Option Seen → Option Seen → Option Seen
topmost None behind = behind
topmost (Some one) None = Some one
topmost (Some one) (Some behind) = if nat_lt behind.modified one.modified then Some one else Some behind

-- What is seen at a position: that of the first stretch that ends behind it, and `past` behind all.
abbrev pub seen_in : List Stretch → Option Seen → ℕ → Option Seen
seen_in [] past position = past
seen_in (stretch ∷ stretches) past position = if nat_lt position stretch.to then stretch.seen else seen_in stretches past position

-- The chunk that is seen at a position, by its mark, where the first chunk has that place.
abbrev pub mark_seen : ℕ → List Chunk → ℕ → Option Seen
mark_seen first chunks position = option_map mark (newest (filter (λ placed. covers position placed.chunk) (placed_from first chunks)))

-- At each position the stretches tell what is seen of the chunks.
abbrev pub AreStretches : ℕ → List Chunk → List Stretch → Type 0
AreStretches first chunks stretches = (position : ℕ) → seen_in stretches None position ≡ mark_seen first chunks position
