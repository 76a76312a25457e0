-- What a drop leaves of a well-formed namespace.
use Rattle.std.proofs.Common.{◌≡◌, ℕ, Bool, true, false, cond, not, List, [], ◌∷◌, ◌++◌, length, drop, Option, None, Ok, sym, ap, ◌∙◌, subst, inl, inr, append_assoc}
use Rattle.std.specs.Prelude.{IsSome, IsSomeAnd, is_none, is_some, ◌&&◌}
use Rattle.std.specs.FinMap.{get, get-retain_keys}
use Rattle.std.proofs.lemmas.Bool.{cases_Bool}
use Rattle.weed_base.specs.PathOrder.{path_cmp-IsAntisymmetric}
use Rattle.entry.specs.declared.entry.Entry.{Entry}
use Rattle.entry.specs.declared.entry.Kind.TheVariants.{Directory}
use Rattle.name_core.specs.declared.change.Change.{Change}
use Rattle.name_core.specs.declared.change.Change.TheVariants.{Drop}
use Rattle.name_core.specs.declared.command.Refusal.{Refusal}
use Rattle.name_core.specs.declared.command.Refusal.TheVariants.{RootFixed, NotFound, NotEmpty}
use Rattle.name_core.specs.Namespace.{Namespace, step, is_within, IsDirectoryIn, IsWellFormed, KeepsWellFormed}
use Rattle.name_plans.specs.Commands.{removal, has_below}
use Rattle.name_plans.specs.Refusing.{refuse_if, unless, is_root}
use Rattle.name_plans.proofs.Within.{split_within, join_within}

-- What is at a path after a drop
after_drop : (top path : List (List ℕ)) (names : Namespace) → get (step (Drop top) names) path ≡ cond (not (is_within top path)) (get names path) None
after_drop top path names =
    get-retain_keys names (λ other. not (is_within top other)) path
    (λ other tied. ap (λ p. not (is_within top p)) (sym (path_cmp-IsAntisymmetric path other tied)))

pub gone : (top path : List (List ℕ)) (names : Namespace) → is_within top path ≡ true → get (step (Drop top) names) path ≡ None
gone top path names within = after_drop top path names ∙ ap (λ b. cond (not b) (get names path) None) within

pub stays : (top path : List (List ℕ)) (names : Namespace) → is_within top path ≡ false → get (step (Drop top) names) path ≡ get names path
stays top path names apart = after_drop top path names ∙ ap (λ b. cond (not b) (get names path) None) apart

-- What is below a path within the top is within it.
pub below_within : (top parent : List (List ℕ)) (name : List ℕ) → is_within top parent ≡ true → is_within top (parent ++ name ∷ []) ≡ true
below_within top parent name within =
    let rest = drop (length top) parent in
    subst (λ p. is_within top p ≡ true) (sym (ap (λ p. p ++ name ∷ []) (split_within top parent within) ∙ append_assoc top rest (name ∷ []))) (join_within top (rest ++ name ∷ []))

pub directory_stays : (top parent : List (List ℕ)) (names : Namespace) → is_within top parent ≡ false → IsDirectoryIn names parent → IsDirectoryIn (step (Drop top) names) parent
directory_stays top [] names apart is = tt
directory_stays top (part ∷ parts) names apart is = subst (λ o. IsSomeAnd o (λ entry. entry.kind ≡ Directory)) (sym (stays top (part ∷ parts) names apart)) is

none_there : (path : List (List ℕ)) (o : Option Entry) → o ≡ None → IsSome o → ⊥
none_there path o none there = let told : false ≡ true = sym (ap is_some none) ∙ there in cc

root_gone : (top : List (List ℕ)) (names : Namespace) → get names [] ≡ None → get (step (Drop top) names) [] ≡ None
root_gone top names none =
    elim (cases_Bool (is_within top [])) [ inl within ↦ gone top [] names within | inr apart ↦ stays top [] names apart ∙ none ]

-- Each drop leaves a well-formed namespace.
pub drop_keeps : (top : List (List ℕ)) (names : Namespace) → IsWellFormed names → IsWellFormed (step (Drop top) names)
drop_keeps top names formed = record {
  rootless = root_gone top names formed.rootless;
  parents = λ parent name there.
      elim (cases_Bool (is_within top (parent ++ name ∷ []))) [
        | inl within ↦ absurd (none_there parent _ (gone top (parent ++ name ∷ []) names within) there)
        | inr apart ↦
            elim (cases_Bool (is_within top parent)) [
              | inl above ↦ let told : false ≡ true = sym apart ∙ below_within top parent name above in cc
              | inr beside ↦ directory_stays top parent names beside (formed.parents parent name (subst IsSome (stays top (parent ++ name ∷ []) names apart) there))
            ]
      ];
}

unless_three : (a b c : Bool) (x y z : Refusal) (wanted changes : List Change) → unless (refuse_if a x ∷ refuse_if b y ∷ refuse_if c z ∷ []) wanted ≡ Ok changes → wanted ≡ changes
unless_three true b c x y z wanted changes is = cc
unless_three false true c x y z wanted changes is = cc
unless_three false false true x y z wanted changes is = cc
unless_three false false false x y z wanted changes is = cc

pub removal_keeps : (names : Namespace) (path : List (List ℕ)) (recursive : Bool) (changes : List Change) → IsWellFormed names → removal names path recursive ≡ Ok changes → KeepsWellFormed changes names
removal_keeps names path recursive changes formed is =
    subst (λ l. KeepsWellFormed l names) (unless_three (is_root path) (is_none (get names path)) (not recursive && has_below names path) RootFixed NotFound NotEmpty (Drop path ∷ []) changes is)
    (drop_keeps path names formed, tt)
