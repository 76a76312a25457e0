-- What changes make of the names in a table.
use Rattle.std.proofs.Common.{◌≡◌, ◌≢◌, ◌↔◌, ℕ, Bool, true, false, cond, List, [], ◌∷◌, ◌++◌, length, take, drop, Option, Some, None, Result, Ok, Err, refl, sym, ap, ◌∙◌, subst, inl, inr, IsTrue, not}
use Rattle.std.proofs.lemmas.List.{append-nil, take-append-drop}
use Rattle.std.proofs.Math.Seq.{take-length, take-append_seam}
use Rattle.std.specs.Ordering.{nat_cmp}
use Rattle.std.specs.Prelude.{IsOk, OnOk}
use Rattle.std.specs.Cmp.{eq_by_cmp_equiv}
use Rattle.std.specs.Cmp.Lexicographic.{slice_cmp, texts_ties, lists_ties}
use Rattle.std.specs.FinMap.{find, from_entries, get, insert, get-empty, get-from_entries, get-insert, get-retain_keys, same_map}
use Rattle.std.specs.List.{filter}
use Rattle.std.specs.Map.{lookup}
use Rattle.std.proofs.lemmas.Bool.{cases_Bool}
use Rattle.std.proofs.lemmas.Map.Entries.{lookup-filter-keys}
use Rattle.weed_base.specs.Path.{IsBelow, IsPath}
use Rattle.weed_base.specs.PathOrder.{path_cmp}
use Rattle.entry.specs.declared.entry.Entry.{Entry}
use Rattle.name_core.specs.declared.change.Change.TheVariants.{Put, Drop}
use Rattle.name_core.specs.Namespace.{Namespace, step, is_within}
use Rattle.entry.specs.Entry.{IsValid}
use Rattle.name_core.specs.Pages.{AreNamed}
use Rattle.name_core.proofs.Paths.{same_path, same_path-refl, same_path-exact, get-insert_same, get-insert_other, path_cmp_total, path_cmp-IsAntisymmetric, cases_path}

-- A path is within a top where the top is its front.
within_front : (top path : List (List ℕ)) → is_within top path ≡ same_path top (take (length top) path)
within_front top path = lists_ties (slice_cmp nat_cmp) texts_ties top (take (length top) path)

front_is_within : (top path : List (List ℕ)) → take (length top) path ≡ top → is_within top path ≡ true
front_is_within top path front = within_front top path ∙ ap (same_path top) front ∙ same_path-refl top

front_of_within : (top path : List (List ℕ)) → is_within top path ≡ true → top ≡ take (length top) path
front_of_within top path within = same_path-exact top (take (length top) path) (sym (within_front top path) ∙ within)

-- What is behind a front, if anything
is_or_below : (top path rest : List (List ℕ)) → path ≡ top ++ rest → path ≢ top → ¬ IsBelow path top → ⊥
is_or_below top path [] split other apart = other (split ∙ append-nil top)
is_or_below top path (part ∷ rest) split other apart = apart (part, rest, split)

-- The test of a path by the two tests that it is the top, or below it
pub within_is : (top path : List (List ℕ)) (is_top below : Bool) → (IsTrue is_top ↔ (path ≡ top)) → (IsTrue below ↔ IsBelow path top) → cond is_top true below ≡ is_within top path
within_is top path true below top_is below_is = sym (front_is_within top path (ap (take (length top)) (top_is.0 refl) ∙ take-length top))
within_is top path false true top_is below_is =
    let there = below_is.0 refl in
    sym (front_is_within top path (ap (take (length top)) there.2 ∙ take-append_seam top (there.0 ∷ there.1)))
within_is top path false false top_is below_is =
    elim (cases_Bool (is_within top path)) [
      | inl within ↦
          let split : path ≡ top ++ drop (length top) path = sym (take-append-drop (length top) path) ∙ ap (λ front. front ++ drop (length top) path) (sym (front_of_within top path within)) in
          absurd (is_or_below top path (drop (length top) path) split (λ e. let told : false ≡ true = top_is.1 e in cc) (λ b. let told : false ≡ true = below_is.1 b in cc))
      | inr apart ↦ sym apart
    ]

-- A put says of its path what it puts, and nothing of another.
put_says : (at path : List (List ℕ)) (entry : Entry) → path ≡ at → (names : Namespace) → get (step (Put at entry) names) path ≡ Some entry
put_says at path entry same names = ap (get (insert names at entry)) same ∙ get-insert_same names at entry

put_is_silent : (at path : List (List ℕ)) (entry : Entry) → path ≢ at → (names : Namespace) → get (step (Put at entry) names) path ≡ get names path
put_is_silent at path entry other names = get-insert_other names at entry path other

-- A drop says that nothing is at its path or below, and nothing of another path.
drop_says_of : (top path : List (List ℕ)) (names : Namespace) → get (step (Drop top) names) path ≡ cond (not (is_within top path)) (get names path) None
drop_says_of top path names =
    get-retain_keys names (λ other. not (is_within top other)) path
    (λ other tied. ap (λ p. not (is_within top p)) (sym (path_cmp-IsAntisymmetric path other tied)))

drop_says : (top path : List (List ℕ)) → true ≡ is_within top path → (names : Namespace) → get (step (Drop top) names) path ≡ None
drop_says top path within names = drop_says_of top path names ∙ ap (λ b. cond (not b) (get names path) None) (sym within)

drop_is_silent : (top path : List (List ℕ)) → false ≡ is_within top path → (names : Namespace) → get (step (Drop top) names) path ≡ get names path
drop_is_silent top path apart names = drop_says_of top path names ∙ ap (λ b. cond (not b) (get names path) None) (sym apart)

-- The entries of a table, found by their paths.
abbrev Entries : Type 0
Entries = List (List (List ℕ) × Entry)

found : (path : List (List ℕ)) (entries : Entries) → find path_cmp path entries ≡ lookup (same_path path) entries
found path [] = refl
found path (e ∷ entries) = ap (cond (same_path path e.0) (Some e.1)) (found path entries)

-- A look-up in the entries is a look-up in the names.
pub looked_up : (path : List (List ℕ)) (entries : Entries) → lookup (same_path path) entries ≡ get (from_entries {R = path_cmp} entries) path
looked_up path entries = sym (get-from_entries path_cmp_total entries path ∙ found path entries)

pub found_at : (entries : Entries) (key path : List (List ℕ)) (there : Option Entry) → key ≡ path
    → there ≡ lookup (same_path key) entries → there ≡ get (from_entries {R = path_cmp} entries) path
found_at entries key path there is finds = finds ∙ looked_up key entries ∙ ap (get (from_entries {R = path_cmp} entries)) is

same : (m n : Namespace) → ((path : List (List ℕ)) → get m path ≡ get n path) → m ≡ n
same m n alike = same_map path_cmp_total path_cmp-IsAntisymmetric m n alike

-- Entries that are found alike are the same names.
pub same_names : (old new : Entries) → ((path : List (List ℕ)) → lookup (same_path path) new ≡ lookup (same_path path) old)
    → from_entries {R = path_cmp} new ≡ from_entries old
same_names old new alike = same _ _ (λ path. sym (looked_up path new) ∙ alike path ∙ looked_up path old)

-- An entry put into a table is put into its names.
pub put_in : (old new : Entries) (at : List (List ℕ)) (entry : Entry)
    → ((path : List (List ℕ)) → lookup (same_path path) new ≡ cond (same_path at path) (Some entry) (lookup (same_path path) old))
    → from_entries {R = path_cmp} new ≡ insert (from_entries old) at entry
put_in old new at entry puts = same _ _ (λ path.
    sym (looked_up path new) ∙ puts path
    ∙ ap (λ b. cond b (Some entry) (lookup (same_path path) old)) ((eq_by_cmp_equiv path_cmp_total).symm at path)
    ∙ ap (cond (same_path path at) (Some entry)) (looked_up path old)
    ∙ sym (get-insert path_cmp_total (from_entries old) at entry path))

-- What a call that succeeds ensures
pub as_it_succeeds : {T E P : Type 0} (result : Result T E) → IsOk result → OnOk result P → P
as_it_succeeds (Ok value) ok ensured = ensured
as_it_succeeds (Err error) ok ensured = let told : false ≡ true = ok in cc

-- The entries outside of a top are the names that its drop leaves.
pub left_by_drop : (old new : Entries) (top : List (List ℕ))
    → new ≡ filter (λ e. not (is_within top e.0)) old
    → from_entries {R = path_cmp} new ≡ step (Drop top) (from_entries old)
left_by_drop old new top left = same _ _ (λ path.
    sym (looked_up path new)
    ∙ ap (lookup (same_path path)) left
    ∙ lookup-filter-keys (same_path path) (λ other. not (is_within top other)) (not (is_within top path))
    (λ other tied. ap (λ p. not (is_within top p)) (sym (same_path-exact path other tied))) old
    ∙ ap (λ o. cond (not (is_within top path)) o None) (looked_up path old)
    ∙ sym (drop_says_of top path (from_entries old)))

-- No names are kept.
pub none_kept : (entries : Entries) → entries ≡ [] → AreNamed (from_entries entries)
none_kept entries none = record {
  each = λ path entry there.
      let is : None ≡ Some entry = sym (get-empty _ path) ∙ ap (λ (e : Entries). get {R = path_cmp} (from_entries e) path) (sym none) ∙ there in cc;
}

some_same : (a b : Entry) → Some a ≡ Some b → a ≡ b
some_same a b e = cc

pub put_keeps : (at : List (List ℕ)) (entry : Entry) (names : Namespace) → IsPath at → at ≢ [] → IsValid entry → AreNamed names → AreNamed (step (Put at entry) names)
put_keeps at entry names is_path rootless valid had = record {
  each = λ path found there.
      elim (cases_path path at) [
        | inl same ↦
            let is : Some entry ≡ Some found = sym (put_says at path entry same names) ∙ there in
            (subst IsPath (sym same) is_path, (λ root. rootless (sym same ∙ root)), subst IsValid (some_same entry found is) valid)
        | inr other ↦ had.each path found (sym (put_is_silent at path entry other.1 names) ∙ there)
      ];
}

pub drop_keeps : (top : List (List ℕ)) (names : Namespace) → AreNamed names → AreNamed (step (Drop top) names)
drop_keeps top names had = record {
  each = λ path found there.
      elim (cases_Bool (is_within top path)) [
        | inl within ↦ let gone : None ≡ Some found = sym (drop_says top path (sym within) names) ∙ there in cc
        | inr apart ↦ had.each path found (sym (drop_is_silent top path (sym apart) names) ∙ there)
      ];
}
