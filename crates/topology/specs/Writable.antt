-- Which volumes may be written.
use Rattle.std.specs.Prelude.{◌≡◌, ℕ, ◌+◌, Bool, true, false, not, Option, MatchOption, ◌&&◌, nat_eq, nat_le, nat_lt, List, filter, length}
use Rattle.std.specs.Option.{option_map_or}
use Rattle.std.specs.List.{list_all, list_any}
use Rattle.std.specs.List.Sorted.{IsStrictlySortedBy}
use Rattle.std.specs.Ordering.{nat_cmp}
use Rattle.std.specs.FinMap.{get, values}
use Rattle.std.specs.Cmp.Lexicographic.{pointwise}
use Rattle.needle.specs.declared.placement.Placement.{Placement}
use Rattle.topology.specs.declared.report.VolumeReport.{VolumeReport}
use Rattle.topology.specs.declared.member.Member.{Member}
use Rattle.topology.specs.Nodes.{Nodes}
use Rattle.topology.specs.Told.{reports}

-- How many nodes keep a volume.
abbrev pub copies : Placement → ℕ
copies placement = placement.x + placement.y + placement.z + 1

-- Whether two placements are the same.
abbrev pub is_placement : Placement → Placement → Bool
is_placement left right = nat_eq left.x right.x && nat_eq left.y right.y && nat_eq left.z right.z

-- Whether a report lets its volume be written: it is of this placement and time to live, not read-only, and below the limit.
abbrev pub is_open : Placement → List ℕ → ℕ → VolumeReport → Bool
is_open placement ttl limit report =
    is_placement report.placement placement && pointwise nat_eq report.ttl ttl && not report.read_only && nat_lt report.size limit

-- Whether a node's report of a volume lets it be written, where it has one.
abbrev pub allows : Placement → List ℕ → ℕ → ℕ → Member → Bool
allows placement ttl limit volume member = option_map_or (is_open placement ttl limit) (get member.reports volume) true

-- Whether as many of these nodes report a volume as its placement wants, and each lets it be written.
abbrev pub is_writable : Placement → List ℕ → ℕ → List Member → ℕ → Bool
is_writable placement ttl limit members volume =
    nat_le (copies placement) (length (filter (reports volume) members)) && list_all (allows placement ttl limit volume) members

-- These volumes rise, and are those that may be written.
pub record AreWritableAt (placement : Placement) (ttl : List ℕ) (limit : ℕ) (members : List Member) (volumes : List ℕ) : Type 0 where
  pub rise : IsStrictlySortedBy nat_cmp volumes
  pub are : (volume : ℕ) → list_any (nat_eq volume) volumes ≡ is_writable placement ttl limit members volume

-- The same of nodes by their ids.
abbrev pub AreWritable : Placement → List ℕ → ℕ → Nodes → List ℕ → Type 0
AreWritable placement ttl limit nodes volumes = AreWritableAt placement ttl limit (values nodes) volumes

-- A volume that may be written at these nodes, or none where there is none.
abbrev pub IsWritableAt : Placement → List ℕ → ℕ → List Member → Option ℕ → Type 0
IsWritableAt placement ttl limit members found =
    MatchOption found ((volume : ℕ) → is_writable placement ttl limit members volume ≡ false) (λ volume. is_writable placement ttl limit members volume ≡ true)
