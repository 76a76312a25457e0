-- Nodes by their ids, and what they report.
use Rattle.std.specs.Prelude.{ℕ, Bool, not, nat_eq, List, map, length, ◌≤◌, IsTrue}
use Rattle.std.specs.FinMap.{FinMap, from_sorted}
use Rattle.std.specs.FinMap.Entries.{is_sorted}
use Rattle.std.specs.Ordering.{nat_cmp, is_gt}
use Rattle.std.specs.Cmp.Lexicographic.{slice_cmp, pointwise}
use Rattle.topology.specs.declared.node.Node.{Node}
use Rattle.topology.specs.declared.node.Location.{Location}
use Rattle.topology.specs.declared.report.VolumeReport.{VolumeReport}
use Rattle.topology.specs.declared.member.Member.{Member}

-- From ids to the nodes, each with its last moment and its reports.
abbrev pub Nodes : Type 0
Nodes = FinMap (slice_cmp nat_cmp) Member

-- From volumes to reports.
abbrev pub Reports : Type 0
Reports = FinMap nat_cmp VolumeReport

-- Whether a member's id is this one.
abbrev pub has_id : List ℕ → Member → Bool
has_id id member = pointwise nat_eq id member.node.id

-- Whether a member's id is this one or stands behind it.
abbrev pub is_from : List ℕ → Member → Bool
is_from id member = not (is_gt (slice_cmp nat_cmp id member.node.id))

-- Members with their ids.
abbrev pub with_ids : List Member → List (List ℕ × Member)
with_ids members = map (λ member. (member.node.id, member)) members

-- The ids rise.
abbrev pub AreInOrder : List Member → Type 0
AreInOrder members = IsTrue (is_sorted (slice_cmp nat_cmp) (with_ids members))

-- The ids rise, and there are at most 1,024.
abbrev pub AreKept : List Member → Type 0
AreKept members = AreInOrder members × (length members ≤ 1024)

-- The nodes of such a list.
abbrev pub nodes_of : List Member → Nodes
nodes_of members = from_sorted (with_ids members)

-- Where a node is reached.
abbrev pub location_of : Node → Location
location_of node = record { url = node.id; public_url = node.public }
