-- Where a member stands in a list in the order of ids.
use Rattle.std.specs.Prelude.{◌≡◌, ℕ, ◌<◌, ◌≤◌, List, length, slice_index_or, slice_set, Some, None}
use Rattle.std.specs.List.{insert}
use Rattle.std.specs.FinMap.{get}
use Rattle.std.specs.FinMap.Entries.{put}
use Rattle.std.specs.Ordering.{nat_cmp}
use Rattle.std.specs.Cmp.Lexicographic.{slice_cmp}
use Rattle.topology.specs.Nodes.{nodes_of, with_ids}
use Rattle.topology.specs.declared.member.Member.{Member}
use Rattle.topology.specs.declared.member.Seat.{Seat}
use Rattle.topology.specs.declared.member.Seat.TheVariants.{Taken, Free}

-- The list with this member put where its id belongs.
abbrev pub HasPut : List ℕ → Member → List Member → List Member → Type 0
HasPut id member old new = with_ids new ≡ put (slice_cmp nat_cmp) id member (with_ids old)

-- The member with the id stands there.
pub record IsPlace (id : List ℕ) (members : List Member) (at : ℕ) : Type 0 where
  pub within : at < length members
  pub found : (d : Member) → get (nodes_of members) id ≡ Some (slice_index_or members at d)
  pub same : (d : Member) → id ≡ (slice_index_or members at d).node.id
  pub replaced : (member : Member) → member.node.id ≡ id → HasPut id member members (slice_set members at member)

-- No member has the id, and one that has it belongs there.
pub record IsGap (id : List ℕ) (members : List Member) (at : ℕ) : Type 0 where
  pub within : at ≤ length members
  pub none : get (nodes_of members) id ≡ None
  pub inserted : (member : Member) → member.node.id ≡ id → HasPut id member members (insert members at member)

-- What a search for the id finds.
abbrev pub IsSeat : List ℕ → List Member → Seat → Type 0
IsSeat id members (Taken at) = IsPlace id members at
IsSeat id members (Free at) = IsGap id members at
