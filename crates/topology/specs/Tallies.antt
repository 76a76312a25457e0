-- What nodes tell of each volume, taken together.
use Rattle.std.specs.Prelude.{ℕ, ◌-◌, Bool, true, ◌&&◌, nat_eq, List, map, filter, length, Option, Some, None}
use Rattle.std.specs.Option.{unwrap_or}
use Rattle.std.specs.List.{list_all}
use Rattle.std.specs.Ordering.{nat_cmp}
use Rattle.std.specs.FinMap.{FinMap, get}
use Rattle.topology.specs.declared.report.VolumeReport.{VolumeReport}
use Rattle.topology.specs.declared.member.Member.{Member}
use Rattle.topology.specs.declared.writable.Kind.{Kind}
use Rattle.topology.specs.declared.writable.Tally.{Tally}
use Rattle.topology.specs.Told.{reports}
use Rattle.topology.specs.Writable.{copies, is_open, allows}

-- Of a volume of which no node told.
abbrev pub untold : Kind → Tally
untold kind = record { missing = copies kind.placement; writable = true }

-- With what one node more tells.
abbrev pub told : Kind → Tally → Option VolumeReport → Tally
told kind tally None = tally
told kind tally (Some report) =
    record { missing = tally.missing - 1; writable = tally.writable && is_open kind.placement kind.ttl kind.limit report }

-- What a map of tallies has at a volume.
abbrev pub tally_at : Kind → FinMap nat_cmp Tally → ℕ → Tally
tally_at kind tallies volume = unwrap_or (get tallies volume) (untold kind)

-- What these nodes tell of a volume.
abbrev pub tally_of : Kind → List Member → ℕ → Tally
tally_of kind members volume = record {
  missing = copies kind.placement - length (filter (reports volume) members);
  writable = list_all (allows kind.placement kind.ttl kind.limit volume) members;
}

-- Whether enough nodes told of a volume, and each lets it be written.
abbrev pub is_met : Tally → Bool
is_met tally = nat_eq tally.missing 0 && tally.writable

-- The volumes of such tallies.
abbrev pub met_in : List (ℕ × Tally) → List ℕ
met_in tallies = map (λ tally. tally.0) (filter (λ tally. is_met tally.1) tallies)
