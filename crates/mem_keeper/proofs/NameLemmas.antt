-- What is done to a search tree is done to its names.
use Rattle.std.proofs.Common.{◌≡◌, ◌≢◌, ℕ, ◌≤◌, min, Bool, true, false, cond, not, List, [], ◌∷◌, ◌++◌, length, take, filter, Option, None, Some, All, refl, sym, ap, ◌∙◌, subst, arith, append_assoc, drop, inl, inr, IsTrue, T, Equal, IfSome, IsNone, Result, Ok, Err, IfOk}
use Rattle.std.proofs.lemmas.List.{append-nil, length-take, take-append-drop}
use Rattle.std.proofs.lemmas.List.Elements.{All-filter, All-take, filter_passes, All-cons, All-nil}
use Rattle.std.specs.Cmp.{tied_itself}
use Rattle.std.specs.FinMap.{entries-from_sorted, entries-insert, same_entries_map, empty, find, put, get, insert, get-empty, get-from_sorted, get-retain_keys, same_map}
use Rattle.std.specs.FinMap.Entries.{is_sorted-put, is_sorted-where_key, find-where_key}
use Rattle.weed_base.specs.Path.{IsPath}
use Rattle.weed_base.specs.PathOrder.{path_cmp, path_cmp_total, path_cmp-IsAntisymmetric}
use Rattle.entry.specs.declared.entry.Entry.{Entry}
use Rattle.entry.specs.Entry.{IsValid}
use Rattle.name_core.specs.declared.change.Change.TheVariants.{Drop}
use Rattle.name_core.specs.Namespace.{Namespace, step, is_within}
use Rattle.name_core.specs.Pages.{Named, IsNamed, AreNamed, IsPage, page_of}
use Rattle.name_core.proofs.Paths.{get-insert_same, get-insert_other, cases_path}
use Rattle.mem_keeper.specs.Items.{Rises, without}
use Rattle.mem_keeper.specs.Names.{names_of}
use Rattle.mem_keeper.proofs.TreeLemmas.{found_at}
use Rattle.mem_keeper.proofs.SearchLemmas.{before_back}

same : (m n : Namespace) → ((path : List (List ℕ)) → get m path ≡ get n path) → m ≡ n
same m n alike = same_map path_cmp_total path_cmp-IsAntisymmetric m n alike

pub looked_up : (es : List Named) (path : List (List ℕ)) → Rises es → get (names_of es) path ≡ find path_cmp path es
looked_up es path rises = get-from_sorted path_cmp es path (is_told rises)
  where
    is_told : {b : Bool} → b ≡ true → T b
    is_told e = subst T (sym e) tt

told : {b : Bool} → b ≡ true → T b
told e = subst T (sym e) tt

untold : (b : Bool) → T b → b ≡ true
untold true so = refl
untold false so = absurd so

-- No names
pub none_are : names_of [] ≡ empty
none_are = same _ _ (λ path. looked_up [] path refl ∙ sym (get-empty path_cmp path))

pub none_kept : AreNamed (names_of [])
none_kept = record {
  each = λ path entry there.
      let is : None ≡ Some entry = sym (looked_up [] path refl) ∙ there in cc;
}

-- A put
pub put_rises : (at : List (List ℕ)) (entry : Entry) (es : List Named) → Rises es → Rises (put path_cmp at entry es)
put_rises at entry es rises = untold _ (is_sorted-put path_cmp path_cmp_total at entry es (told rises))

pub put_in : (at : List (List ℕ)) (entry : Entry) (es : List Named) → Rises es → names_of (put path_cmp at entry es) ≡ insert (names_of es) at entry
put_in at entry es rises =
    same_entries_map _ _ (entries-from_sorted path_cmp _ (told (put_rises at entry es rises))
    ∙ ap (put path_cmp at entry) (sym (entries-from_sorted path_cmp es (told rises))) ∙ sym (entries-insert path_cmp_total (names_of es) at entry))

-- A drop
pub without_rises : (top : List (List ℕ)) (es : List Named) → Rises es → Rises (without top es)
without_rises top es rises = untold _ (is_sorted-where_key path_cmp (λ path. not (is_within top path)) es (told rises))

alike : (top path other : List (List ℕ)) → path_cmp path other ≡ Equal → not (is_within top other) ≡ not (is_within top path)
alike top path other tied = ap (λ p. not (is_within top p)) (sym (path_cmp-IsAntisymmetric path other tied))

pub left_by_drop : (top : List (List ℕ)) (es : List Named) → Rises es → names_of (without top es) ≡ step (Drop top) (names_of es)
left_by_drop top es rises = same _ _ (λ path.
    looked_up (without top es) path (without_rises top es rises)
    ∙ find-where_key path_cmp (λ other. not (is_within top other)) path (alike top path) es
    ∙ ap (λ found. cond (not (is_within top path)) found None) (sym (looked_up es path rises))
    ∙ sym (get-retain_keys (names_of es) (λ other. not (is_within top other)) path (alike top path)))

some_same : (a b : Entry) → Some a ≡ Some b → a ≡ b
some_same a b e = cc

pub put_keeps : (at : List (List ℕ)) (entry : Entry) (names : Namespace) → IsPath at → at ≢ [] → IsValid entry → AreNamed names → AreNamed (insert names at entry)
put_keeps at entry names is_path rootless valid had = record {
  each = λ path found there.
      elim (cases_path path at) [
        | inl same ↦
            let is : Some entry ≡ Some found = sym (ap (get (insert names at entry)) same ∙ get-insert_same names at entry) ∙ there in
            (subst IsPath (sym same) is_path, (λ root. rootless (sym same ∙ root)), subst IsValid (some_same entry found is) valid)
        | inr other ↦ had.each path found (sym (get-insert_other names at entry path other.1) ∙ there)
      ];
}

pub drop_keeps : (top : List (List ℕ)) (names : Namespace) → AreNamed names → AreNamed (step (Drop top) names)
drop_keeps top names had = record {
  each = λ path found there.
      let is : cond (not (is_within top path)) (get names path) None ≡ Some found =
      sym (get-retain_keys names (λ other. not (is_within top other)) path (alike top path)) ∙ there in
      had.each path found (kept (not (is_within top path)) (get names path) found is);
}
  where
    kept : (b : Bool) (o : Option Entry) (found : Entry) → cond b o None ≡ Some found → o ≡ Some found
    kept true o found e = e
    kept false o found e = cc

-- What is found of kept names
pub found_is_valid : (names : Namespace) (path : List (List ℕ)) (found : Option Entry) → AreNamed names → found ≡ get names path → IfSome found IsValid
found_is_valid names path None had is = tt
found_is_valid names path (Some entry) had is = (had.each path entry (sym is)).2

pub none_at_root : (names : Namespace) (path : List (List ℕ)) (found : Option Entry) → AreNamed names → found ≡ get names path → path ≡ [] → IsNone found
none_at_root names path None had is root = refl
none_at_root names path (Some entry) had is root = absurd ((had.each path entry (sym is)).1 root)

-- The first items of a search are the page.
pub page_found : (es all : List Named) (room : ℕ) (belongs : List (List ℕ) → Bool) → Rises es → all ≡ take room (filter (λ item. belongs item.0) es) → all ≡ page_of (names_of es) room belongs
page_found es all room belongs rises is = is ∙ ap (λ es. take room (filter (λ item. belongs item.0) es)) (sym (entries-from_sorted path_cmp es (told rises)))

pub no_bounds : (es : List Named) → Rises es → Rises ([] ++ (es ++ []))
no_bounds es rises = subst Rises (sym (append-nil es)) rises

-- What follows from a clause of what was answered
pub answered : {A E : Type 0} {P Q : A → Type 0} (result : Result A E) → ((value : A) → P value → Q value) → IfOk result P → IfOk result Q
answered (Ok value) so clause = so value clause
answered (Err error) so clause = clause

-- Each item that is kept stands at a path other than the root, and is valid.
all_named : (es l r : List Named) → es ≡ l ++ r → Rises es → AreNamed (names_of es) → All IsNamed r
all_named es l [] cut rises had = All-nil IsNamed
all_named es l (e ∷ r) cut rises had =
    All-cons IsNamed e r (had.each e.0 e.1 (looked_up es e.0 rises ∙ sym (found_at e.0 es l e r cut rises (sym (tied_itself path_cmp_total e.0)))))
    (all_named es (l ++ e ∷ []) r (cut ∙ sym (append_assoc l (e ∷ []) r)) rises had)

-- The first items that are wanted are a page.
pub page_is : (es : List Named) (room : ℕ) (belongs : List (List ℕ) → Bool) → Rises es → AreNamed (names_of es) → IsPage room belongs (take room (filter (λ item. belongs item.0) es))
page_is es room belongs rises had =
    let some = filter (λ item. belongs item.0) es in
    let named : All IsNamed some = All-filter (λ item. belongs item.0) IsNamed es (all_named es [] es refl rises had) in
    let passed : All (λ item. belongs item.0 ≡ true) some = filter_passes (λ item. belongs item.0) es in record {
      few = omega (arith, length-take room some, least_of room (length some));
      rising = before_back (take room some) (drop room some) (subst Rises (sym (take-append-drop room some)) (untold _ (is_sorted-where_key path_cmp belongs es (told rises))));
      each = All-take (λ item. IsNamed item × IsTrue (belongs item.0)) room some (λ i d h. (named i d h, passed i d h));
    }
  where
    least_of : (a b : ℕ) → min a b ≤ a
    least_of a b = omega arith
