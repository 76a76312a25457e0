-- Which nodes may keep the copies of a new volume.
use Rattle.std.specs.Prelude.{◌≡◌, ℕ, ◌+◌, Bool, true, not, ◌&&◌, nat_eq, nat_lt, List, map, filter, length}
use Rattle.std.specs.List.{All, Contains, IsDistinct}
use Rattle.std.specs.FinMap.{len, values}
use Rattle.std.specs.Cmp.Lexicographic.{pointwise}
use Rattle.needle.specs.declared.placement.Placement.{Placement}
use Rattle.topology.specs.declared.member.Member.{Member}
use Rattle.topology.specs.declared.fault.TopologyFault.{TopologyFault}
use Rattle.topology.specs.declared.fault.TopologyFault.TheVariants.{TooManyNodes, UnknownNode, NoPlace, Memory}
use Rattle.topology.specs.Nodes.{Nodes}
use Rattle.topology.specs.Writable.{copies}

-- Whether a node has fewer volumes than room.
abbrev pub has_room : Member → Bool
has_room member = nat_lt (len member.reports) member.node.room

-- How many nodes have room.
abbrev pub free_nodes : Nodes → ℕ
free_nodes nodes = length (filter has_room (values nodes))

abbrev pub id_of : Member → List ℕ
id_of member = member.node.id

abbrev pub center_of : Member → List ℕ
center_of member = member.node.data_center

abbrev pub rack_of : Member → List ℕ
rack_of member = member.node.rack

-- Whether a node stands in this data center.
abbrev pub is_in_center : List ℕ → Member → Bool
is_in_center center member = pointwise nat_eq (center_of member) center

-- Whether a node stands in this rack of this data center.
abbrev pub is_main : List ℕ → List ℕ → Member → Bool
is_main center rack member = is_in_center center member && pointwise nat_eq (rack_of member) rack

-- Whether it stands in another rack of this data center.
abbrev pub is_beside : List ℕ → List ℕ → Member → Bool
is_beside center rack member = is_in_center center member && not (pointwise nat_eq (rack_of member) rack)

-- Whether it stands in another data center.
abbrev pub is_away : List ℕ → Member → Bool
is_away center member = not (is_in_center center member)

-- No two of these texts are the same.
abbrev pub Differ : List (List ℕ) → Type 0
Differ texts = IsDistinct (pointwise nat_eq) texts

-- Nodes around a main rack of a main data center, as a placement `xyz` wants them: z + 1 in that rack, y in as many
-- other racks of that data center, and x in as many other data centers.
pub record Surround (placement : Placement) (center rack : List ℕ) (members : List Member) : Type 0 where
  pub in_rack : length (filter (is_main center rack) members) ≡ placement.z + 1
  pub beside : length (filter (is_beside center rack) members) ≡ placement.y
  pub racks : Differ (map rack_of (filter (is_beside center rack) members))
  pub away : length (filter (is_away center) members) ≡ placement.x
  pub centers : Differ (map center_of (filter (is_away center) members))

-- Distinct nodes of these.
pub record AreOf (all members : List Member) : Type 0 where
  pub there : All (Contains all) members
  pub differ : Differ (map id_of members)

-- Distinct nodes of these, each with room, that meet a placement.
pub record Meet (placement : Placement) (nodes : Nodes) (members : List Member) : Type 0 where
  pub are : AreOf (values nodes) members
  pub room : All (λ member. has_room member ≡ true) members
  pub center : List ℕ
  pub rack : List ℕ
  pub surround : Surround placement center rack members

-- These are the ids of nodes that meet a placement.
abbrev pub IsChoice : Placement → Nodes → List (List ℕ) → Type 0
IsChoice placement nodes ids = (members : List Member) × (ids ≡ map id_of members) × Meet placement nodes members

-- No nodes meet a placement.
abbrev pub HasNoChoice : Placement → Nodes → Type 0
HasNoChoice placement nodes = (members : List Member) → Meet placement nodes members → ⊥

-- No place is found only where no nodes meet the placement.
abbrev pub IsPlaceFault : Placement → Nodes → TopologyFault → Type 0
IsPlaceFault placement nodes TooManyNodes = ⊥
IsPlaceFault placement nodes UnknownNode = ⊥
IsPlaceFault placement nodes (NoPlace wanted free) = HasNoChoice placement nodes × (wanted ≡ copies placement) × (free ≡ free_nodes nodes)
IsPlaceFault placement nodes Memory = Unit {0}
