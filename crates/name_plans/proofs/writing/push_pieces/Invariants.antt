use Rattle.std.proofs.Common.{◌≡◌, ◌++◌, map, take}
use Rattle.name_plans.specs.Writing.{chunk_at}
use Rattle.name_plans.proofs.writing.push_pieces.Given as goal

-- The pieces so far stand behind the chunks.
abbrev pub invariant-loop-piece : goal.invariant-loop-piece
invariant-loop-piece l = l.chunks.items ≡ l.fn.chunks.items ++ map (chunk_at l.time) (take l.piece-index l.pieces)
