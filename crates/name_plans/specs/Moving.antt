-- Paths and entries that are moved from one top to another.
use Rattle.std.specs.Prelude.{ℕ, nat_le, not, ◌&&◌, Bool, List, [], ◌∷◌, ◌++◌, length, drop, map, All, ◌≢◌, Result}
use Rattle.std.specs.List.{list_any}
use Rattle.std.specs.Str.{IsUtf8}
use Rattle.weed_base.specs.Path.{IsPart, text_of}
use Rattle.name_core.specs.declared.change.Change.{Change}
use Rattle.name_core.specs.declared.change.Change.TheVariants.{Put}
use Rattle.name_core.specs.declared.command.Refusal.{Refusal}
use Rattle.name_core.specs.declared.command.Refusal.TheVariants.{PathLimit}
use Rattle.name_core.specs.Pages.{Named}
use Rattle.name_plans.specs.Refusing.{refuse_if, unless}

-- A path moved from one top to another.
abbrev pub moved_path : List (List ℕ) → List (List ℕ) → List (List ℕ) → List (List ℕ)
moved_path from to path = to ++ drop (length from) path

-- At most 64 parts, and a text of at most 4,096 bytes.
abbrev pub fits : List (List ℕ) → Bool
fits path = nat_le (length path) 64 && nat_le (length (text_of path)) 4096

-- All but the limits of a path other than the root: parts, whose text is UTF-8 without a zero byte.
pub record AreParts (parts : List (List ℕ)) : Type 0 where
  pub filled : parts ≢ []
  pub each : All IsPart parts
  pub no_zero : All (λ b. b ≢ 0) (text_of parts)
  pub utf8 : IsUtf8 (text_of parts)

-- The path, unless it is past a limit.
abbrev pub within_limits : List (List ℕ) → Result (List (List ℕ)) Refusal
within_limits path = unless (refuse_if (not (fits path)) PathLimit ∷ []) path

-- An entry put where its path is moved to.
abbrev pub moved_put : List (List ℕ) → List (List ℕ) → Named → Change
moved_put from to item = Put (moved_path from to item.0) item.1

-- One of the paths would be past a limit where it is moved to.
abbrev pub outgrows : List (List ℕ) → List (List ℕ) → List Named → Bool
outgrows from to items = list_any (λ item. not (fits (moved_path from to item.0))) items

-- A put for each, in their order, unless a path would be past a limit.
abbrev pub puts_moved : List (List ℕ) → List (List ℕ) → List Named → Result (List Change) Refusal
puts_moved from to items = unless (refuse_if (outgrows from to items) PathLimit ∷ []) (map (moved_put from to) items)
