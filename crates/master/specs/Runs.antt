-- Lists of calls of one master, each with its answer.
use Rattle.std.specs.Prelude.{◌≡◌, ℕ, ◌+◌, ◌<◌, ◌≤◌, List, [], ◌∷◌, Result, Ok, Err, Vec}
use Rattle.std.specs.Global.{Global}
use Rattle.std.specs.List.{AllByRecursion}
use Rattle.needle.specs.declared.placement.Placement.{Placement}
use Rattle.topology.specs.declared.node.Location.{Location}
use Rattle.topology.specs.declared.report.VolumeReport.{VolumeReport}
use Rattle.master.specs.declared.master.Master.{Master}
use Rattle.master.specs.declared.heartbeat.Heartbeat.{Heartbeat}
use Rattle.master.specs.declared.turns.Assigned.{Assigned}
use Rattle.master.specs.declared.turns.Grown.{Grown}
use Rattle.master.specs.declared.fault.MasterFault.{MasterFault}
use Rattle.master.specs.Turns.{OnceHeard, IsBeat, IsAssign, IsLookup, IsGrow, IsMade, IsVolumes, greatest_volume}

-- A call with what it was given, and its answer.
pub data Turn : Type 0 where
  Beat : Heartbeat → ℕ → Result (Unit {0}) MasterFault → Turn
  Assign : Placement → List ℕ → ℕ → ℕ → ℕ → Result Assigned MasterFault → Turn
  Lookup : ℕ → ℕ → Result (Vec Location Global) MasterFault → Turn
  Grow : Placement → ℕ → Result Grown MasterFault → Turn
  Made : List ℕ → VolumeReport → Result (Unit {0}) MasterFault → Turn
  Volumes : ℕ → Result (Vec VolumeReport Global) MasterFault → Turn

-- What the call makes of a master.
abbrev pub IsTurn : Master → Turn → Master → Type 0
IsTurn before (Beat beat now result) after = OnceHeard now before (λ heard. IsBeat beat now heard result after)
IsTurn before (Assign placement ttl count cookie now result) after = OnceHeard now before (λ heard. IsAssign placement ttl count cookie heard result after)
IsTurn before (Lookup volume now result) after = OnceHeard now before (λ heard. IsLookup volume heard result × (after ≡ heard))
IsTurn before (Grow placement now result) after = OnceHeard now before (λ heard. IsGrow placement heard result after)
IsTurn before (Made id report result) after = IsMade id report before result after
IsTurn before (Volumes now result) after = OnceHeard now before (λ heard. IsVolumes heard result × (after ≡ heard))

-- Calls one after another.
abbrev pub IsRun : Master → List Turn → Master → Type 0
IsRun start [] end = end ≡ start
IsRun start (turn ∷ turns) end = (after : Master) × IsTurn start turn after × IsRun after turns end

-- The first key behind those that a call gave or was told, 0 where it has none.
abbrev pub past_keys : Turn → ℕ
past_keys (Beat beat now (Ok done)) = beat.greatest + 1
past_keys (Beat beat now (Err fault)) = 0
past_keys (Assign placement ttl count cookie now (Ok assigned)) = assigned.fid.key + assigned.count
past_keys (Assign placement ttl count cookie now (Err fault)) = 0
past_keys (Lookup volume now result) = 0
past_keys (Grow placement now result) = 0
past_keys (Made id report result) = 0
past_keys (Volumes now result) = 0

-- The first key that a call gives, if it gives one, is none below a bound.
abbrev pub GivesFrom : ℕ → Turn → Type 0
GivesFrom bound (Assign placement ttl count cookie now (Ok assigned)) = bound ≤ assigned.fid.key
GivesFrom bound (Assign placement ttl count cookie now (Err fault)) = Unit {0}
GivesFrom bound (Beat beat now result) = Unit {0}
GivesFrom bound (Lookup volume now result) = Unit {0}
GivesFrom bound (Grow placement now result) = Unit {0}
GivesFrom bound (Made id report result) = Unit {0}
GivesFrom bound (Volumes now result) = Unit {0}

-- Each call gives keys behind all that a call before it gave or was told.
abbrev pub KeysRise : List Turn → Type 0
KeysRise [] = Unit {0}
KeysRise (turn ∷ turns) = AllByRecursion (GivesFrom (past_keys turn)) turns × KeysRise turns

-- The greatest number of a volume that a call gave or was told, 0 where it has none.
abbrev pub top_number : Turn → ℕ
top_number (Beat beat now (Ok done)) = greatest_volume beat.volumes
top_number (Beat beat now (Err fault)) = 0
top_number (Grow placement now (Ok grown)) = grown.volume
top_number (Grow placement now (Err fault)) = 0
top_number (Assign placement ttl count cookie now result) = 0
top_number (Lookup volume now result) = 0
top_number (Made id report result) = 0
top_number (Volumes now result) = 0

-- The number that a call gives, if it gives one, is behind this one.
abbrev pub GrowsPast : ℕ → Turn → Type 0
GrowsPast number (Grow placement now (Ok grown)) = number < grown.volume
GrowsPast number (Grow placement now (Err fault)) = Unit {0}
GrowsPast number (Beat beat now result) = Unit {0}
GrowsPast number (Assign placement ttl count cookie now result) = Unit {0}
GrowsPast number (Lookup volume now result) = Unit {0}
GrowsPast number (Made id report result) = Unit {0}
GrowsPast number (Volumes now result) = Unit {0}

-- Each call gives a number behind all that a call before it gave or was told.
abbrev pub NumbersRise : List Turn → Type 0
NumbersRise [] = Unit {0}
NumbersRise (turn ∷ turns) = AllByRecursion (GrowsPast (top_number turn)) turns × NumbersRise turns
