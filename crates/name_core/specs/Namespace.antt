-- Namespaces: finite maps from paths to entries, in the order of the paths' parts, and what changes make of them.
use Rattle.std.specs.Prelude.{◌≡◌, ◌≢◌, ℕ, List, [], ◌∷◌, ◌++◌, All, None, IsSome, IsSomeAnd, Bool, not}
use Rattle.std.specs.List.{starts_with}
use Rattle.std.specs.Str.{bytes_eq}
use Rattle.std.specs.FinMap.{FinMap, get, insert, retain_keys}
use Rattle.weed_base.specs.PathOrder.{path_cmp}
use Rattle.entry.specs.declared.entry.Entry.{Entry}
use Rattle.entry.specs.declared.entry.Kind.TheVariants.{Directory}
use Rattle.name_core.specs.declared.change.Change.{Change}
use Rattle.name_core.specs.declared.change.Change.TheVariants.{Put, Drop}

-- From paths to entries.
abbrev pub Namespace : Type 0
Namespace = FinMap path_cmp Entry

-- The path that a change names.
abbrev pub path_of : Change → List (List ℕ)
path_of (Put path entry) = path
path_of (Drop path) = path

-- No change names the root.
abbrev pub AreRootless : List Change → Type 0
AreRootless changes = All (λ change. path_of change ≢ []) changes

-- Whether the second path is the first one, or below it.
abbrev pub is_within : List (List ℕ) → List (List ℕ) → Bool
is_within top path = starts_with bytes_eq path top

-- A Put sets its path; a Drop removes its path and all below.
abbrev pub step : Change → Namespace → Namespace
step (Put path entry) names = insert names path entry
step (Drop path) names = retain_keys names (λ other. not (is_within path other))

-- After changes, one by one.
abbrev pub after_changes : List Change → Namespace → Namespace
after_changes [] names = names
after_changes (change ∷ later) names = after_changes later (step change names)

-- The path is the root, or a directory of the map.
abbrev pub IsDirectoryIn : Namespace → List (List ℕ) → Type 0
IsDirectoryIn names [] = Unit {0}
IsDirectoryIn names (part ∷ parts) = IsSomeAnd (get names (part ∷ parts)) (λ entry. entry.kind ≡ Directory)

-- The root isn't in the map, and the parent of each of its paths is the root or a directory of the map.
pub record IsWellFormed (names : Namespace) : Type 0 where
  pub rootless : get names [] ≡ None
  pub parents : (parent : List (List ℕ)) (name : List ℕ) → IsSome (get names (parent ++ name ∷ [])) → IsDirectoryIn names parent

-- Each change in order leaves a well-formed map.
abbrev pub KeepsWellFormed : List Change → Namespace → Type 0
KeepsWellFormed [] names = Unit {0}
KeepsWellFormed (change ∷ later) names = IsWellFormed (step change names) × KeepsWellFormed later (step change names)
