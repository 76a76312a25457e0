-- A tree map of numbers, read as the finite map of its entries.
use Rattle.std.proofs.Common.{◌≡◌, ℕ, cond, List, [], ◌∷◌, Some, length, sym, refl, ap, ◌∙◌}
use Rattle.std.specs.Ordering.{nat_cmp, eq_by_cmp}
use Rattle.std.specs.Cmp.{eq_by_cmp_equiv, nat_cmp_total}
use Rattle.std.specs.FinMap as fin
use Rattle.std.specs.FinMap.{FinMap, nat_cmp-IsAntisymmetric, same_map, get-insert, get-from_entries, entries-insert, empty, len-entries, len-empty}
use Rattle.std.proofs.lemmas.List.{nil_from_length}
use Rattle.std.specs.FinMap.Entries.{put, by_order}
use Rattle.std.specs.List.Sorted.{IsStrictlySortedBy}
use Rattle.std.proofs.lemmas.Map.Keys.{sorted_head, sorted_tail}
use Rattle.std.specs.Map.{lookup, keys_of, values_of}
use Rattle.std.specs.BTreeMap as tree

turned : (key other : ℕ) → eq_by_cmp nat_cmp key other ≡ eq_by_cmp nat_cmp other key
turned = (eq_by_cmp_equiv nat_cmp_total).symm

module _ {V : Type 0} where
  find-lookup : (key : ℕ) (entries : List (ℕ × V)) → fin.find nat_cmp key entries ≡ lookup (tree.is_at (nat_cmp key)) entries
  find-lookup key [] = refl
  find-lookup key (e ∷ es) = ap (cond (eq_by_cmp nat_cmp key e.0) (Some e.1)) (find-lookup key es)

  -- both maps answer alike
  pub get-table : (entries : tree.BTreeMap ℕ V) (key : ℕ) → fin.get (fin.from_entries {R = nat_cmp} entries.entries) key ≡ tree.get nat_cmp entries key
  get-table map key = get-from_entries nat_cmp_total map.entries key ∙ find-lookup key map.entries

  -- maps that answer alike are the same
  pub same_numbered : (left right : FinMap nat_cmp V) → ((key : ℕ) → fin.get left key ≡ fin.get right key) → left ≡ right
  same_numbered = same_map nat_cmp_total nat_cmp-IsAntisymmetric

  -- a tree map with a new value at a number
  pub insert-table : (old new : tree.BTreeMap ℕ V) (key : ℕ) (value : V) → tree.Updates nat_cmp old new key (Some value) → fin.from_entries {R = nat_cmp} new.entries ≡ fin.insert (fin.from_entries old.entries) key value
  insert-table old new key value updates = same_numbered _ _ (λ other.
      get-table new other ∙ updates.0 other
      ∙ ap (cond (eq_by_cmp nat_cmp key other) (Some value)) (sym (get-table old other))
      ∙ ap (λ b. cond b (Some value) (fin.get (fin.from_entries {R = nat_cmp} old.entries) other)) (turned key other)
      ∙ sym (get-insert nat_cmp_total (fin.from_entries old.entries) key value other))

  put-sorted : (e : ℕ × V) (es : List (ℕ × V)) → IsStrictlySortedBy nat_cmp (keys_of (e ∷ es)) → put nat_cmp e.0 e.1 es ≡ e ∷ es
  put-sorted e [] sorted = refl
  put-sorted e (f ∷ es) sorted =
      ap (λ r. by_order r (e ∷ f ∷ es) ((f.0, e.1) ∷ es) (f ∷ put nat_cmp e.0 e.1 es)) (sorted_head nat_cmp e.0 (keys_of (f ∷ es)) sorted).0

  pub entries-sorted : (es : List (ℕ × V)) → IsStrictlySortedBy nat_cmp (keys_of es) → fin.entries (fin.from_entries {R = nat_cmp} es) ≡ es
  entries-sorted [] sorted = nil_from_length (fin.entries empty) (sym (len-entries empty) ∙ len-empty nat_cmp V)
  entries-sorted (e ∷ es) sorted =
      entries-insert nat_cmp_total (fin.from_entries es) e.0 e.1
      ∙ ap (put nat_cmp e.0 e.1) (entries-sorted es (sorted_tail nat_cmp e.0 (keys_of es) sorted))
      ∙ put-sorted e es sorted

  -- both maps have the same values
  pub values-table : (map : tree.BTreeMap ℕ V) → tree.IsOrdered nat_cmp map → fin.values (fin.from_entries {R = nat_cmp} map.entries) ≡ tree.values map
  values-table map ordered = ap values_of (entries-sorted map.entries ordered)

  -- both maps have as many values
  pub len-table : (map : tree.BTreeMap ℕ V) → tree.IsOrdered nat_cmp map → fin.len (fin.from_entries {R = nat_cmp} map.entries) ≡ length map.entries
  len-table map ordered = len-entries (fin.from_entries map.entries) ∙ ap length (entries-sorted map.entries ordered)
