-- What each command changes of a namespace, and its refusals in their order.
use Rattle.std.specs.Prelude.{ℕ, ◌&&◌, nat_lt, not, Bool, List, [], ◌∷◌, ◌++◌, length, filter, None, is_none, is_some, ok_or, ◌||◌, Result, Ok}
use Rattle.std.specs.FinMap.{entries, get}
use Rattle.name_core.specs.declared.change.Change.{Change}
use Rattle.name_core.specs.declared.change.Change.TheVariants.{Put, Drop}
use Rattle.name_core.specs.declared.command.Refusal.{Refusal}
use Rattle.name_core.specs.declared.command.Refusal.TheVariants.{RootFixed, NotFound, NotEmpty, IntoItself, Exists}
use Rattle.entry.specs.declared.entry.Entry.{Entry}
use Rattle.name_core.specs.Namespace.{Namespace, is_within}
use Rattle.name_core.specs.Plan.{directories_at, prefixes}
use Rattle.name_core.specs.Pages.{Named, is_below_past}
use Rattle.name_core.specs.RecordText.{directory_of}
use Rattle.name_plans.specs.Refusing.{refuse_if, unless, and_then, is_root}
use Rattle.name_plans.specs.Moving.{puts_moved}
use Rattle.name_plans.specs.Writing.{Written, file_written}

-- All that is below a path, in the order of paths.
abbrev pub below : Namespace → List (List ℕ) → List Named
below names top = filter (λ item. is_below_past top None item.0) (entries names)

-- Something is below the path.
abbrev pub has_below : Namespace → List (List ℕ) → Bool
has_below names top = nat_lt 0 (length (below names top))

-- A removal: one drop.
abbrev pub removal : Namespace → List (List ℕ) → Bool → Result (List Change) Refusal
removal names path recursive = unless
    (refuse_if (is_root path) RootFixed
    ∷ refuse_if (is_none (get names path)) NotFound
    ∷ refuse_if (not recursive && has_below names path) NotEmpty
    ∷ [])
    (Drop path ∷ [])

-- A new directory at each missing ancestor of a path, unless one of them is a file.
abbrev pub parents_at : Namespace → ℕ → List (List ℕ) → Result (List Change) Refusal
parents_at names time path = directories_at names time (prefixes (directory_of path))

-- A write: the missing ancestors, and the file.
abbrev pub writing : Namespace → ℕ → List (List ℕ) → Written → Result (List Change) Refusal
writing names time path w =
    and_then (parents_at names time path) (λ parents.
    and_then (file_written time path (get names path) w) (λ file.
    Ok (parents ++ Put path file ∷ [])))

-- What is moved, unless the move is refused: it, or where it goes, is the root; nothing is there; it goes to itself or below.
abbrev pub moved_entry : Namespace → List (List ℕ) → List (List ℕ) → Result Entry Refusal
moved_entry names from to =
    and_then (unless (refuse_if (is_root from || is_root to) RootFixed ∷ []) (get names from)) (λ found.
    and_then (ok_or found NotFound) (λ entry.
    unless (refuse_if (is_within from to) IntoItself ∷ []) entry))

-- The missing ancestors of where it goes, unless one is a file or something is there.
abbrev pub vacated : Namespace → ℕ → List (List ℕ) → Result (List Change) Refusal
vacated names time to =
    and_then (parents_at names time to) (λ parents. unless (refuse_if (is_some (get names to)) Exists ∷ []) parents)

-- A move: the missing ancestors of where it goes, a drop, and a put for what was there and for all below it, in the
-- order of their paths.
abbrev pub moving : Namespace → ℕ → List (List ℕ) → List (List ℕ) → Result (List Change) Refusal
moving names time from to =
    and_then (moved_entry names from to) (λ entry.
    and_then (vacated names time to) (λ parents.
    and_then (puts_moved from to (below names from)) (λ moved.
    Ok (parents ++ Drop from ∷ Put to entry ∷ moved))))
