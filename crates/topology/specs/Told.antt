-- What is told of nodes and volumes.
use Rattle.std.specs.Prelude.{◌≡◌, ℕ, Bool, List, [], ◌∷◌, Option, None, map, filter}
use Rattle.std.specs.Option.{option_or}
use Rattle.std.specs.FinMap.{get, contains_key, values}
use Rattle.topology.specs.Nodes.{Nodes, Reports, location_of}
use Rattle.topology.specs.declared.node.Location.{Location}
use Rattle.topology.specs.declared.report.VolumeReport.{VolumeReport}
use Rattle.topology.specs.declared.member.Member.{Member}

-- Whether a node reports a volume.
abbrev pub reports : ℕ → Member → Bool
reports volume member = contains_key member.reports volume

-- Where a volume is reached at these nodes.
abbrev pub locations_in : ℕ → List Member → List Location
locations_in volume members = map (λ member. location_of member.node) (filter (reports volume) members)

-- Where a volume is reached, in the order of the nodes' ids.
abbrev pub locations_of : ℕ → Nodes → List Location
locations_of volume nodes = locations_in volume (values nodes)

-- What the first of these nodes that reports a volume tells of it.
abbrev pub first_report : ℕ → List Member → Option VolumeReport
first_report volume [] = None
first_report volume (member ∷ members) = option_or (get member.reports volume) (first_report volume members)

-- One report for each volume that is reported, by rising volume: that of the first node, by id, that reports it.
abbrev pub AreFirstReports : Nodes → List VolumeReport → Type 0
AreFirstReports nodes reports =
    (table : Reports) × ((volume : ℕ) → get table volume ≡ first_report volume (values nodes)) × (reports ≡ values table)
