-- What changes keep of a namespace.
use Rattle.std.proofs.Common.{◌≡◌, ℕ, List, [], ◌∷◌, ◌++◌, Some, refl, sym, ap, ◌∙◌, subst, inl, inr}
use Rattle.std.specs.Prelude.{IsSome, IsSomeAnd}
use Rattle.std.specs.FinMap.{get, insert, empty, get-empty}
use Rattle.std.proofs.lemmas.Bool.{false≢true}
use Rattle.weed_base.specs.PathOrder.{path_cmp}
use Rattle.entry.specs.declared.entry.Entry.{Entry}
use Rattle.entry.specs.declared.entry.Kind.TheVariants.{Directory}
use Rattle.name_core.specs.declared.change.Change.{Change}
use Rattle.name_core.specs.Namespace.{Namespace, step, after_changes, IsDirectoryIn, IsWellFormed, KeepsWellFormed}
use Rattle.name_core.proofs.Paths.{cases_path, get-insert_same, get-insert_other, filled-append, parent_is}

-- A directory at a path of the map, whatever the path's form
pub IsDirectoryIn-found : (names : Namespace) (path : List (List ℕ)) (entry : Entry) → get names path ≡ Some entry → entry.kind ≡ Directory → IsDirectoryIn names path
IsDirectoryIn-found names [] entry found is = tt
IsDirectoryIn-found names (part ∷ parts) entry found is =
    subst (λ o. IsSomeAnd o (λ e. e.kind ≡ Directory)) (sym found) is

pub IsDirectoryIn-same : (old new : Namespace) (path : List (List ℕ)) → get new path ≡ get old path → IsDirectoryIn old path → IsDirectoryIn new path
IsDirectoryIn-same old new [] same is = tt
IsDirectoryIn-same old new (part ∷ parts) same is =
    subst (λ o. IsSomeAnd o (λ e. e.kind ≡ Directory)) (sym same) is

-- To put a directory leaves the directories.
pub IsDirectoryIn-insert : (names : Namespace) (path : List (List ℕ)) (entry : Entry) → entry.kind ≡ Directory → (q : List (List ℕ)) → IsDirectoryIn names q → IsDirectoryIn (insert names path entry) q
IsDirectoryIn-insert names path entry kind q is =
    elim (cases_path q path) [
      | inl same ↦ IsDirectoryIn-found _ q entry (ap (get (insert names path entry)) same ∙ get-insert_same names path entry) kind
      | inr apart ↦ IsDirectoryIn-same names _ q (get-insert_other names path entry q apart.1) is
    ]

-- To put a directory below the root or a directory keeps the map well-formed.
pub IsWellFormed-insert : (names : Namespace) (top : List (List ℕ)) (part : List ℕ) (entry : Entry) → entry.kind ≡ Directory → IsDirectoryIn names top → IsWellFormed names → IsWellFormed (insert names (top ++ part ∷ []) entry)
IsWellFormed-insert names top part entry kind above formed = record {
  rootless = get-insert_other names (top ++ part ∷ []) entry [] (λ e. filled-append top part (sym e)) ∙ formed.rootless;
  parents = λ parent name there.
      let stays : (q : List (List ℕ)) → IsDirectoryIn names q → IsDirectoryIn (insert names (top ++ part ∷ []) entry) q = IsDirectoryIn-insert names (top ++ part ∷ []) entry kind in
      elim (cases_path (parent ++ name ∷ []) (top ++ part ∷ [])) [
        | inl same ↦ stays parent (subst (IsDirectoryIn names) (sym (parent_is parent top name part same)) above)
        | inr apart ↦ stays parent (formed.parents parent name (subst IsSome (get-insert_other names (top ++ part ∷ []) entry (parent ++ name ∷ []) apart.1) there))
      ];
}

pub IsWellFormed-empty : IsWellFormed empty
IsWellFormed-empty = record {
  rootless = get-empty path_cmp [];
  parents = λ parent name there. absurd (false≢true (subst IsSome (get-empty path_cmp (parent ++ name ∷ [])) there));
}

pub after_changes-append : (xs ys : List Change) (names : Namespace) → after_changes (xs ++ ys) names ≡ after_changes ys (after_changes xs names)
after_changes-append [] ys names = refl
after_changes-append (x ∷ xs) ys names = after_changes-append xs ys (step x names)

pub KeepsWellFormed-append : (xs ys : List Change) (names : Namespace) → KeepsWellFormed xs names → KeepsWellFormed ys (after_changes xs names) → KeepsWellFormed (xs ++ ys) names
KeepsWellFormed-append [] ys names front back = back
KeepsWellFormed-append (x ∷ xs) ys names front back = (front.0, KeepsWellFormed-append xs ys (step x names) front.1 back)

-- The map at the end is well-formed, where the first one is.
pub IsWellFormed-after : (changes : List Change) (names : Namespace) → IsWellFormed names → KeepsWellFormed changes names → IsWellFormed (after_changes changes names)
IsWellFormed-after [] names formed keeps = formed
IsWellFormed-after (x ∷ xs) names formed keeps = IsWellFormed-after xs (step x names) keeps.0 keeps.1
