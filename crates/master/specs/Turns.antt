-- What each call of a master does.
use Rattle.std.specs.Prelude.{◌≡◌, ℕ, ◌+◌, ◌-◌, ◌^◌, ◌<◌, ◌≤◌, max, Bool, true, false, List, [], ◌∷◌, length, Option, None, MatchOption, Result, Ok, Err, Vec}
use Rattle.std.specs.Global.{Global}
use Rattle.std.specs.List.{fold}
use Rattle.std.specs.Option.{option_map_or}
use Rattle.std.specs.FinMap.{get, len, values}
use Rattle.needle.specs.declared.placement.Placement.{Placement}
use Rattle.topology.specs.declared.node.Node.{Node}
use Rattle.topology.specs.declared.node.Location.{Location}
use Rattle.topology.specs.declared.report.VolumeReport.{VolumeReport}
use Rattle.topology.specs.Nodes.{Nodes}
use Rattle.topology.specs.Changes.{AreHeard, reported, with_report}
use Rattle.topology.specs.Told.{locations_of, AreFirstReports}
use Rattle.topology.specs.Writable.{is_writable, copies}
use Rattle.topology.specs.Choices.{IsChoice, HasNoChoice, free_nodes}
use Rattle.master.specs.declared.master.Master.{Master}
use Rattle.master.specs.declared.heartbeat.Heartbeat.{Heartbeat}
use Rattle.master.specs.declared.turns.Assigned.{Assigned}
use Rattle.master.specs.declared.turns.Grown.{Grown}
use Rattle.master.specs.declared.fault.MasterFault.{MasterFault}
use Rattle.master.specs.declared.fault.MasterFault.TheVariants.{TooManyNodes, NoWritable, KeysSpent, UnknownVolume, NoPlace, IdsSpent, Memory}

-- The greatest number of these volumes, 0 where there are none.
abbrev pub greatest_volume : List VolumeReport → ℕ
greatest_volume reports = fold (λ top report. max top report.volume) 0 reports

-- A master from which each silent node has left.
pub record IsHeard (now : ℕ) (old heard : Master) : Type 0 where
  pub nodes : AreHeard now old.topology heard.topology
  pub next : heard.next ≡ old.next
  pub greatest : heard.greatest ≡ old.greatest
  pub limit : heard.limit ≡ old.limit

-- Each silent node leaves, and then this holds.
abbrev pub OnceHeard : ℕ → Master → (Master → Type 0) → Type 0
OnceHeard now old P = (heard : Master) × IsHeard now old heard × P heard

-- 1,024 nodes are there, and none of this id.
abbrev pub IsFull : Node → Nodes → Type 0
IsFull node nodes = (get nodes node.id ≡ None) × (1024 ≤ len nodes)

-- With a beat: its node is in and reports its volumes, and the keys and numbers that it tells are passed.
abbrev pub beaten : Heartbeat → ℕ → Master → Master
beaten beat now master = record {
  topology = reported beat.node beat.volumes now master.topology;
  next = max master.next (beat.greatest + 1);
  greatest = max master.greatest (greatest_volume beat.volumes);
  limit = master.limit;
}

-- Why a beat is refused.
abbrev pub IsBeatFault : Heartbeat → Master → MasterFault → Type 0
IsBeatFault beat master (KeysSpent next) = (beat.greatest ≡ 2 ^ 64 - 1) × (next ≡ master.next)
IsBeatFault beat master TooManyNodes = (beat.greatest < 2 ^ 64 - 1) × IsFull beat.node master.topology
IsBeatFault beat master Memory = (beat.greatest < 2 ^ 64 - 1) × (IsFull beat.node master.topology → ⊥)
IsBeatFault beat master NoWritable = ⊥
IsBeatFault beat master UnknownVolume = ⊥
IsBeatFault beat master (NoPlace wanted free) = ⊥
IsBeatFault beat master (IdsSpent greatest) = ⊥

-- A beat: it is taken, or refused and changes nothing.
abbrev pub IsBeat : Heartbeat → ℕ → Master → Result (Unit {0}) MasterFault → Master → Type 0
IsBeat beat now before (Ok done) after = (beat.greatest < 2 ^ 64 - 1) × (after ≡ beaten beat now before)
IsBeat beat now before (Err fault) after = IsBeatFault beat before fault × (after ≡ before)

-- Whether a volume of a kind may be written.
abbrev pub may_write : Placement → List ℕ → Master → ℕ → Bool
may_write placement ttl master volume = is_writable placement ttl master.limit (values master.topology) volume

-- A volume of a kind that may be written, or none where there is none.
abbrev pub IsWritableVolume : Placement → List ℕ → Master → Option ℕ → Type 0
IsWritableVolume placement ttl master found =
    MatchOption found ((volume : ℕ) → may_write placement ttl master volume ≡ false) (λ volume. may_write placement ttl master volume ≡ true)

-- With so many keys given.
abbrev pub with_given : ℕ → Master → Master
with_given count master = record { topology = master.topology; next = master.next + count; greatest = master.greatest; limit = master.limit }

-- Keys are given from the next one on, for needles of a volume that may be written, at the first of its locations.
pub record IsGiven (placement : Placement) (ttl : List ℕ) (count cookie : ℕ) (before : Master) (assigned : Assigned) (after : Master) : Type 0 where
  pub writable : may_write placement ttl before assigned.fid.volume ≡ true
  pub key : assigned.fid.key ≡ before.next
  pub cookie_is : assigned.fid.cookie ≡ cookie
  pub count_is : assigned.count ≡ count
  pub fits : before.next + count ≤ 2 ^ 64 - 1
  pub others : List Location
  pub location : locations_of assigned.fid.volume before.topology ≡ assigned.location ∷ others
  pub moved : after ≡ with_given count before

-- Why no keys are given.
abbrev pub IsAssignFault : Placement → List ℕ → ℕ → Master → MasterFault → Type 0
IsAssignFault placement ttl count master NoWritable = (volume : ℕ) → may_write placement ttl master volume ≡ false
IsAssignFault placement ttl count master (KeysSpent next) =
    ((volume : ℕ) × (may_write placement ttl master volume ≡ true)) × (2 ^ 64 - 1 < master.next + count) × (next ≡ master.next)
IsAssignFault placement ttl count master Memory = Unit {0}
IsAssignFault placement ttl count master TooManyNodes = ⊥
IsAssignFault placement ttl count master UnknownVolume = ⊥
IsAssignFault placement ttl count master (NoPlace wanted free) = ⊥
IsAssignFault placement ttl count master (IdsSpent greatest) = ⊥

-- Keys are given, or refused and nothing changes.
abbrev pub IsAssign : Placement → List ℕ → ℕ → ℕ → Master → Result Assigned MasterFault → Master → Type 0
IsAssign placement ttl count cookie before (Ok assigned) after = IsGiven placement ttl count cookie before assigned after
IsAssign placement ttl count cookie before (Err fault) after = IsAssignFault placement ttl count before fault × (after ≡ before)

-- Why a volume's locations aren't told.
abbrev pub IsLookupFault : ℕ → Master → MasterFault → Type 0
IsLookupFault volume master UnknownVolume = locations_of volume master.topology ≡ []
IsLookupFault volume master Memory = Unit {0}
IsLookupFault volume master TooManyNodes = ⊥
IsLookupFault volume master NoWritable = ⊥
IsLookupFault volume master (KeysSpent next) = ⊥
IsLookupFault volume master (NoPlace wanted free) = ⊥
IsLookupFault volume master (IdsSpent greatest) = ⊥

-- A volume's locations, of which there are some.
abbrev pub IsLookup : ℕ → Master → Result (Vec Location Global) MasterFault → Type 0
IsLookup volume master (Ok locations) = (locations.items ≡ locations_of volume master.topology) × (0 < length locations.items)
IsLookup volume master (Err fault) = IsLookupFault volume master fault

-- With one number of a volume more.
abbrev pub with_grown : Master → Master
with_grown master = record { topology = master.topology; next = master.next; greatest = master.greatest + 1; limit = master.limit }

-- A volume gets the next number, and nodes that meet its placement.
pub record IsGrown (placement : Placement) (before : Master) (grown : Grown) (after : Master) : Type 0 where
  pub choice : IsChoice placement before.topology grown.nodes
  pub number : grown.volume ≡ before.greatest + 1
  pub fits : before.greatest < 2 ^ 32 - 1
  pub moved : after ≡ with_grown before

-- Why no volume is grown.
abbrev pub IsGrowFault : Placement → Master → MasterFault → Type 0
IsGrowFault placement master (NoPlace wanted free) = HasNoChoice placement master.topology × (wanted ≡ copies placement) × (free ≡ free_nodes master.topology)
IsGrowFault placement master (IdsSpent greatest) = ((ids : List (List ℕ)) × IsChoice placement master.topology ids) × (master.greatest ≡ 2 ^ 32 - 1) × (greatest ≡ master.greatest)
IsGrowFault placement master Memory = Unit {0}
IsGrowFault placement master TooManyNodes = ⊥
IsGrowFault placement master NoWritable = ⊥
IsGrowFault placement master (KeysSpent next) = ⊥
IsGrowFault placement master UnknownVolume = ⊥

-- A volume is grown, or refused and nothing changes.
abbrev pub IsGrow : Placement → Master → Result Grown MasterFault → Master → Type 0
IsGrow placement before (Ok grown) after = IsGrown placement before grown after
IsGrow placement before (Err fault) after = IsGrowFault placement before fault × (after ≡ before)

-- What a node reports of a volume that it has made.
abbrev pub made_report : ℕ → Placement → List ℕ → VolumeReport
made_report volume placement ttl = record { volume = volume; placement = placement; ttl = ttl; size = 8; read_only = false }

-- With a volume that a node has made, where the node is there.
abbrev pub with_made : List ℕ → VolumeReport → Master → Master
with_made id report master =
    option_map_or (λ _. record {
      topology = with_report id report master.topology;
      next = master.next;
      greatest = max master.greatest report.volume;
      limit = master.limit;
    }) (get master.topology id) master

-- It is taken, or memory is wanting and nothing changes.
abbrev pub IsMade : List ℕ → VolumeReport → Master → Result (Unit {0}) MasterFault → Master → Type 0
IsMade id report before (Ok done) after = after ≡ with_made id report before
IsMade id report before (Err fault) after = (fault ≡ Memory) × (after ≡ before)

-- All volumes, or memory is wanting.
abbrev pub IsVolumes : Master → Result (Vec VolumeReport Global) MasterFault → Type 0
IsVolumes master (Ok reports) = AreFirstReports master.topology reports.items
IsVolumes master (Err fault) = fault ≡ Memory
