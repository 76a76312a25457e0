-- What a call changes of the nodes.
use Rattle.std.specs.Prelude.{◌≡◌, ℕ, ◌-◌, ◌≤◌, Bool, nat_le, List, Some, None, cond, Result, Err, MatchOption, IsOkUnless}
use Rattle.std.specs.Option.{option_map_or, option_and_then}
use Rattle.std.specs.FinMap.{get, insert, empty, len}
use Rattle.std.specs.List.{fold}
use Rattle.topology.specs.Nodes.{Nodes, Reports}
use Rattle.topology.specs.declared.node.Node.{Node}
use Rattle.topology.specs.declared.report.VolumeReport.{VolumeReport}
use Rattle.topology.specs.declared.member.Member.{Member}
use Rattle.topology.specs.declared.fault.TopologyFault.{TopologyFault}
use Rattle.topology.specs.declared.fault.TopologyFault.TheVariants.{TooManyNodes, UnknownNode, NoPlace, Memory}

-- What the node of an id reports; nothing where there is none.
abbrev pub reports_at : List ℕ → Nodes → Reports
reports_at id nodes = option_map_or (λ member. member.reports) (get nodes id) empty

-- With a node that joins: it takes the place of one of its id, and keeps its reports.
abbrev pub joined : Node → ℕ → Nodes → Nodes
joined node now nodes = insert nodes node.id (record { node = node; heard = now; reports = reports_at node.id nodes })

-- The map of a list of reports. Of two of one volume the last counts.
abbrev pub reports_of : List VolumeReport → Reports
reports_of reports = fold (λ made report. insert made report.volume report) empty reports

-- A node that was heard at a moment, with what it reports.
abbrev pub member_of : Node → List VolumeReport → ℕ → Member
member_of node reports now = record { node = node; heard = now; reports = reports_of reports }

-- With a node and what it reports, in place of one of its id.
abbrev pub reported : Node → List VolumeReport → ℕ → Nodes → Nodes
reported node reports now nodes = insert nodes node.id (member_of node reports now)

-- A node joins only where fewer than 1,024 others are there.
abbrev pub IsJoinFault : Node → Nodes → TopologyFault → Type 0
IsJoinFault node nodes TooManyNodes = (get nodes node.id ≡ None) × (1024 ≤ len nodes)
IsJoinFault node nodes UnknownNode = ⊥
IsJoinFault node nodes (NoPlace wanted free) = ⊥
IsJoinFault node nodes Memory = Unit {0}

-- The nodes that were heard within 25 seconds before a moment.
abbrev pub is_heard : ℕ → Member → Bool
is_heard now member = nat_le (now - member.heard) 25000000000

-- Nodes from which each silent one has left.
abbrev pub AreHeard : ℕ → Nodes → Nodes → Type 0
AreHeard now old new = (id : List ℕ) → get new id ≡ option_and_then (λ member. cond (is_heard now member) (Some member) None) (get old id)

-- With a node's reports told anew at a moment.
abbrev pub beaten : List ℕ → List VolumeReport → ℕ → Nodes → Nodes
beaten id reports now nodes =
    option_map_or (λ member. insert nodes id (record { node = member.node; heard = now; reports = reports_of reports })) (get nodes id) nodes

-- With one more report of a node, in place of one of the same volume.
abbrev pub with_report : List ℕ → VolumeReport → Nodes → Nodes
with_report id report nodes =
    option_map_or (λ member. insert nodes id (record { node = member.node; heard = member.heard; reports = insert member.reports report.volume report })) (get nodes id) nodes

-- Ok but for want of memory where the node is there, and else refused.
abbrev pub NeedsNode : List ℕ → Nodes → Result (Unit {0}) TopologyFault → Type 0
NeedsNode id nodes result = MatchOption (get nodes id) (result ≡ Err UnknownNode) (λ _. IsOkUnless result Memory)
