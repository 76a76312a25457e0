-- How nodes are picked for a placement.
use Rattle.std.specs.Prelude.{◌≡◌, ◌≤◌, ◌<◌, ℕ, Bool, true, not, ◌&&◌, nat_eq, nat_lt, List, map, length}
use Rattle.std.specs.List.{All, Contains}
use Rattle.std.specs.Set.{is_member}
use Rattle.std.specs.Borrow.{Bor}
use Rattle.std.specs.Cmp.Lexicographic.{pointwise}
use Rattle.topology.specs.declared.member.Member.{Member}
use Rattle.topology.specs.declared.placing.Part.{Part}
use Rattle.topology.specs.declared.placing.Part.TheVariants.{Main, Beside, Away}
use Rattle.needle.specs.declared.placement.Placement.{Placement}
use Rattle.topology.specs.Choices.{is_main, is_beside, is_away, id_of, rack_of, center_of, Differ, AreOf, Surround}

-- Whether a node may stand in a part of a choice around this main node.
abbrev pub takes : Part → Member → Member → Bool
takes Main main = is_main (center_of main) (rack_of main)
takes Beside main = is_beside (center_of main) (rack_of main)
takes Away main = is_away (center_of main)

-- What differs among the nodes of a part.
abbrev pub mark_of : Part → Member → List ℕ
mark_of Main = id_of
mark_of Beside = rack_of
mark_of Away = center_of

-- The members that references stand for.
abbrev pub shown : List (Bor Member) → List Member
shown members = map (λ member. member.now) members

-- Whether one of these members has a mark.
abbrev pub has_mark : Part → List ℕ → List Member → Bool
has_mark part mark members = is_member (pointwise nat_eq) (map (mark_of part) members) mark

-- Whether one member more is wanted of a part.
abbrev pub wants : Part → Member → ℕ → List Member → Member → Bool
wants part main count picked member = nat_lt (length picked) count && takes part main member && not (has_mark part (mark_of part member) picked)

-- As many of these members as are wanted for a part, or each of another mark.
pub record IsPick (part : Part) (main : Member) (count : ℕ) (free picked : List Member) : Type 0 where
  pub differ : Differ (map (mark_of part) picked)
  pub taken : All (λ member. takes part main member ≡ true) picked
  pub there : All (Contains free) picked
  pub most : length picked ≤ count
  pub all : length picked < count → (member : Member) → Contains free member → takes part main member ≡ true → has_mark part (mark_of part member) picked ≡ true

-- These are nodes around a main one, as a placement wants them, and distinct where all are.
pub record AreAround (placement : Placement) (main : Member) (free members : List Member) : Type 0 where
  pub there : All (Contains free) members
  pub differ : Differ (map id_of free) → Differ (map id_of members)
  pub surround : Surround placement (center_of main) (rack_of main) members

-- No nodes around this main one are as a placement wants them.
abbrev pub NoneAround : Placement → Member → List Member → Type 0
NoneAround placement main free = (members : List Member) → AreOf free members → Surround placement (center_of main) (rack_of main) members → ⊥

-- These are nodes around a main one of them.
abbrev pub AreAroundOne : Placement → List Member → List Member → Type 0
AreAroundOne placement free members = (main : Member) × AreAround placement main free members

-- No nodes are as a placement wants them around any of these.
abbrev pub NoneAroundAny : Placement → List Member → Type 0
NoneAroundAny placement free = (main : Member) → Contains free main → NoneAround placement main free
