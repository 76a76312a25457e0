-- Pages: some first entries of a namespace, of those that stand in a directory, or below a path.
use Rattle.std.specs.Prelude.{◌≡◌, ◌≢◌, ℕ, ◌+◌, ◌≤◌, ◌==◌, ◌&&◌, nat_lt, List, [], ◌∷◌, ◌++◌, length, take, map, filter, All, Bool, true, IsTrue, Option, None, Some}
use Rattle.std.specs.Option.{option_map}
use Rattle.std.specs.Ordering.{is_lt}
use Rattle.std.specs.FinMap.{entries, get, is_sorted}
use Rattle.weed_base.specs.Path.{IsPath}
use Rattle.weed_base.specs.PathOrder.{path_cmp}
use Rattle.entry.specs.declared.entry.Entry.{Entry}
use Rattle.entry.specs.Entry.{IsValid}
use Rattle.name_core.specs.Namespace.{Namespace, is_within}

-- The path comes after another, if there is one, in the order of paths.
abbrev pub is_past : Option (List (List ℕ)) → List (List ℕ) → Bool
is_past None path = true
is_past (Some after) path = is_lt (path_cmp after path)

-- The path is below the top, and past another.
abbrev pub is_below_past : List (List ℕ) → Option (List (List ℕ)) → List (List ℕ) → Bool
is_below_past top after path = is_within top path && (nat_lt (length top) (length path) && is_past after path)

-- The path of a name in a directory.
abbrev pub child_path : List (List ℕ) → List ℕ → List (List ℕ)
child_path dir name = dir ++ name ∷ []

-- The path is that of a name in the directory, past another name.
abbrev pub is_child_past : List (List ℕ) → Option (List ℕ) → List (List ℕ) → Bool
is_child_past dir after path =
    is_within dir path && ((length path == length dir + 1) && is_past (option_map (child_path dir) after) path)

-- What stands at a path other than the root.
abbrev pub Named : Type 0
Named = List (List ℕ) × Entry

-- A path other than the root, and a valid entry.
abbrev pub IsNamed : Named → Type 0
IsNamed item = IsPath item.0 × (item.0 ≢ []) × IsValid item.1

-- What holds of all names: each stands at a path other than the root, and is valid.
pub record AreNamed (names : Namespace) : Type 0 where
  pub each : (path : List (List ℕ)) (entry : Entry) → get names path ≡ Some entry → IsPath path × (path ≢ []) × IsValid entry

-- At most so many items in the order of their paths, each of which belongs.
pub record IsPage (room : ℕ) (belongs : List (List ℕ) → Bool) (items : List Named) : Type 0 where
  pub few : length items ≤ room
  pub rising : IsTrue (is_sorted path_cmp items)
  pub each : All (λ item. IsNamed item × IsTrue (belongs item.0)) items

-- The first so many entries of a namespace that belong, in the order of their paths.
abbrev pub page_of : Namespace → ℕ → (List (List ℕ) → Bool) → List Named
page_of names room belongs = take room (filter (λ item. belongs item.0) (entries names))

-- Names with entries, as items with the paths in a directory.
abbrev pub in_directory : List (List ℕ) → List ((List ℕ) × Entry) → List Named
in_directory dir items = map (λ item. (child_path dir item.0, item.1)) items
