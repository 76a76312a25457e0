-- Where paths stand beside those that are wanted.
use Rattle.std.specs.Prelude.{◌≡◌, ℕ, Bool, true, false, List, Option, None, Some}
use Rattle.std.specs.declared.cmp.Ordering.TheVariants.{Less}
use Rattle.weed_base.specs.PathOrder.{path_cmp}
use Rattle.mem_keeper.specs.declared.tree.Node.{Node}
use Rattle.mem_keeper.specs.declared.places.Place.{Place}
use Rattle.mem_keeper.specs.declared.places.Place.TheVariants.{Ahead, Within, Apart, Behind}

-- What a place says of a path, and of those before it or behind it.
abbrev pub StandsAt : (List (List ℕ) → Bool) → List (List ℕ) → Place → Type 0
StandsAt wanted path Ahead = (wanted path ≡ false) × ((other : List (List ℕ)) → path_cmp other path ≡ Less → wanted other ≡ false)
StandsAt wanted path Within = wanted path ≡ true
StandsAt wanted path Apart = wanted path ≡ false
StandsAt wanted path Behind = (wanted path ≡ false) × ((other : List (List ℕ)) → path_cmp path other ≡ Less → wanted other ≡ false)

-- None of the paths between two is wanted.
abbrev pub IsNoneBetween : (List (List ℕ) → Bool) → List (List ℕ) → List (List ℕ) → Type 0
IsNoneBetween wanted least most =
    (other : List (List ℕ)) → path_cmp least other ≡ Less → path_cmp other most ≡ Less → wanted other ≡ false

-- The same of two nodes, which are there.
abbrev pub IsNoneAmong : (List (List ℕ) → Bool) → Option Node → Option Node → Type 0
IsNoneAmong wanted None most = ⊥
IsNoneAmong wanted (Some least) None = ⊥
IsNoneAmong wanted (Some least) (Some most) = IsNoneBetween wanted least.path most.path
