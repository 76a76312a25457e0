-- A tree map of names, read as the finite map of its entries.
use Rattle.std.proofs.Common.{◌≡◌, ℕ, Bool, true, false, cond, nat_eq, List, [], ◌∷◌, Option, Some, None, Ordering, IsSome, IsSomeAnd, unwrap_or, length, ◌≤◌, MutBor, sym, refl, ap, ◌∙◌, subst, arith}
use Rattle.std.specs.Ordering.{nat_cmp, eq_by_cmp, is_eq}
use Rattle.std.specs.declared.cmp.Ordering.TheVariants.{Less, Equal, Greater}
use Rattle.std.specs.Cmp.{eq_by_cmp_equiv}
use Rattle.std.specs.Cmp.Lexicographic.{slice_cmp, nat_list_cmp_total, pointwise, texts_ties}
use Rattle.std.specs.FinMap as fin
use Rattle.std.specs.FinMap.{slice_cmp-IsAntisymmetric, nat_cmp-IsAntisymmetric, same_map, get-insert, get-remove, get-from_entries, get_tied, entries-insert, empty, len-entries, len-empty}
use Rattle.std.proofs.lemmas.List.{nil_from_length}
use Rattle.std.specs.FinMap.Entries.{put, by_order}
use Rattle.std.specs.List.Sorted.{IsStrictlySortedBy}
use Rattle.std.proofs.lemmas.Map.Keys.{sorted_head, sorted_tail}
use Rattle.std.specs.Option.{option_copied_mut}
use Rattle.std.specs.Map.{lookup, keys_of}
use Rattle.std.specs.BTreeMap as tree
use Rattle.weed_base.specs.DiskLaws.{insert-same}
use Rattle.weed_base.specs.Files.{Files, content, IsThere, IsWithin, MayWrite, made, renamed}

abbrev Tree : Type 0
Tree = tree.BTreeMap (List ℕ) (List ℕ)

abbrev order : List ℕ → List ℕ → Ordering
order = slice_cmp nat_cmp

-- the files of a tree map
abbrev pub files_of : Tree → Files
files_of files = fin.from_entries files.entries

find-lookup : (name : List ℕ) (entries : List (List ℕ × List ℕ)) → fin.find order name entries ≡ lookup (tree.is_at (order name)) entries
find-lookup name [] = refl
find-lookup name (e ∷ es) = ap (cond (eq_by_cmp order name e.0) (Some e.1)) (find-lookup name es)

-- both maps answer alike
pub get-table : (files : Tree) (name : List ℕ) → fin.get (files_of files) name ≡ tree.get order files name
get-table files name = get-from_entries nat_list_cmp_total files.entries name ∙ find-lookup name files.entries

-- files that answer alike are the same
pub same_files : (left right : Files) → ((name : List ℕ) → fin.get left name ≡ fin.get right name) → left ≡ right
same_files = same_map nat_list_cmp_total (slice_cmp-IsAntisymmetric nat_cmp-IsAntisymmetric)

turned : (name other : List ℕ) → eq_by_cmp order name other ≡ eq_by_cmp order other name
turned = (eq_by_cmp_equiv nat_list_cmp_total).symm

-- a tree map with a new value at a name
pub insert-table : (old new : Tree) (name bytes : List ℕ) → tree.Updates order old new name (Some bytes) → files_of new ≡ fin.insert (files_of old) name bytes
insert-table old new name bytes updates = same_files _ _ (λ other.
    get-table new other ∙ updates.0 other
    ∙ ap (cond (eq_by_cmp order name other) (Some bytes)) (sym (get-table old other))
    ∙ ap (λ b. cond b (Some bytes) (fin.get (files_of old) other)) (turned name other)
    ∙ sym (get-insert nat_list_cmp_total (files_of old) name bytes other))

-- a tree map without a name
pub remove-table : (old new : Tree) (name : List ℕ) → tree.Updates order old new name None → files_of new ≡ fin.remove (files_of old) name
remove-table old new name updates = same_files _ _ (λ other.
    get-table new other ∙ updates.0 other
    ∙ ap (cond (eq_by_cmp order name other) None) (sym (get-table old other))
    ∙ ap (λ b. cond b None (fin.get (files_of old) other)) (turned name other)
    ∙ sym (get-remove nat_list_cmp_total (files_of old) name other))

-- what is lent for a name that is there
pub there : (lent : Option (MutBor (List ℕ))) (found : Option (List ℕ)) → option_copied_mut lent ≡ found → IsSome found → IsSome lent
there None found e some = subst IsSome (sym e) some
there (Some file) found e some = refl

-- what is lent is the file's content
pub content-lent : (lent : Option (MutBor (List ℕ))) (file : MutBor (List ℕ)) (table : Files) (name : List ℕ) → option_copied_mut lent ≡ fin.get table name → lent ≡ Some file → content table name ≡ file.now
content-lent lent file table name e is = ap (λ found. unwrap_or found []) (sym e ∙ ap option_copied_mut is)

-- a tree map whose value at a name that is there was written through a loan
pub lent-table : (old new : Tree) (name bytes : List ℕ) (table : Files) → files_of old ≡ table → IsThere name table → (IsSome (tree.get order old name) → tree.Updates order old new name (Some bytes)) → files_of new ≡ fin.insert table name bytes
lent-table old new name bytes table is some updates =
    let found : tree.get order old name ≡ fin.get table name = sym (get-table old name) ∙ ap (λ files. fin.get files name) is in
    insert-table old new name bytes (updates (subst IsSome (sym found) some)) ∙ ap (λ files. fin.insert files name bytes) is

-- a file that is as long as asked is there, and has a content as long
pub IsThere-from_within : (table : Files) (name : List ℕ) (at : ℕ) → IsWithin name at table → IsThere name table × (at ≤ length (content table name))
IsThere-from_within table name at within =
    elim (fin.get table name) as (λ found. IsSomeAnd found (λ bytes. at ≤ length bytes) → IsSome found × (at ≤ length (unwrap_or found []))) [
      | None ↦ λ h. absurd h
      | Some bytes ↦ λ h. (refl, h)
    ] within

content-there : (table : Files) (name : List ℕ) → IsThere name table → fin.get table name ≡ Some (content table name)
content-there table name some =
    elim (fin.get table name) as (λ found. IsSome found → found ≡ Some (unwrap_or found [])) [
      | None ↦ λ h. cc h
      | Some bytes ↦ λ _. refl
    ] some

-- the content written back
pub insert-content : (table : Files) (name : List ℕ) → IsThere name table → fin.insert table name (content table name) ≡ table
insert-content table name some = insert-same table name (content table name) (content-there table name some)

put-sorted : (e : List ℕ × List ℕ) (es : List (List ℕ × List ℕ)) → IsStrictlySortedBy order (keys_of (e ∷ es)) → put order e.0 e.1 es ≡ e ∷ es
put-sorted e [] sorted = refl
put-sorted e (f ∷ es) sorted =
    ap (λ r. by_order r (e ∷ f ∷ es) ((f.0, e.1) ∷ es) (f ∷ put order e.0 e.1 es)) (sorted_head order e.0 (keys_of (f ∷ es)) sorted).0

entries-sorted : (es : List (List ℕ × List ℕ)) → IsStrictlySortedBy order (keys_of es) → fin.entries (fin.from_entries {R = order} es) ≡ es
entries-sorted [] sorted = nil_from_length (fin.entries empty) (sym (len-entries empty) ∙ len-empty order (List ℕ))
entries-sorted (e ∷ es) sorted =
    entries-insert nat_list_cmp_total (fin.from_entries es) e.0 e.1
    ∙ ap (put order e.0 e.1) (entries-sorted es (sorted_tail order e.0 (keys_of es) sorted))
    ∙ put-sorted e es sorted

-- the keys of both maps
pub keys-table : (files : Tree) → tree.IsOrdered order files → fin.keys (files_of files) ≡ tree.keys files
keys-table files ordered = ap keys_of (entries-sorted files.entries ordered)

apart : (left right : List ℕ) → pointwise nat_eq left right ≡ false → eq_by_cmp order left right ≡ false
apart left right other = sym (texts_ties left right) ∙ other

-- another file after one was made
pub get-made_other : (table : Files) (new name : List ℕ) → pointwise nat_eq name new ≡ false → fin.get (made new table) name ≡ fin.get table name
get-made_other table new name other =
    get-insert nat_list_cmp_total table new [] name ∙ ap (λ b. cond b (Some []) (fin.get table name)) (apart name new other)

-- a file that was made, after another was removed
pub get-made_left : (table : Files) (new old : List ℕ) → pointwise nat_eq old new ≡ false → fin.get (fin.remove (made new table) old) new ≡ Some []
get-made_left table new old other =
    get-remove nat_list_cmp_total (made new table) old new
    ∙ ap (λ b. cond b None (fin.get (made new table) new)) (turned new old ∙ apart old new other)
    ∙ get-insert nat_list_cmp_total table new [] new
    ∙ ap (λ b. cond b (Some []) (fin.get table new)) ((eq_by_cmp_equiv nat_list_cmp_total).refl new)

shadowed : (b c : Bool) (bytes made : Option (List ℕ)) (found : Option (List ℕ)) → cond b bytes (cond c None (cond b made found)) ≡ cond b bytes (cond c None found)
shadowed true c bytes made found = refl
shadowed false c bytes made found = refl

-- a rename by steps: the new name is made, the old one removed, and the file put in place of the one that was made
pub renamed-steps : (table : Files) (old new bytes : List ℕ) → fin.insert (fin.remove (made new table) old) new bytes ≡ fin.insert (fin.remove table old) new bytes
renamed-steps table old new bytes = same_files _ _ (λ other.
    get-insert nat_list_cmp_total (fin.remove (made new table) old) new bytes other
    ∙ ap (cond (eq_by_cmp order other new) (Some bytes)) (get-remove nat_list_cmp_total (made new table) old other)
    ∙ ap (λ found. cond (eq_by_cmp order other new) (Some bytes) (cond (eq_by_cmp order other old) None found)) (get-insert nat_list_cmp_total table new [] other)
    ∙ shadowed (eq_by_cmp order other new) (eq_by_cmp order other old) (Some bytes) (Some []) (fin.get table other)
    ∙ ap (cond (eq_by_cmp order other new) (Some bytes)) (sym (get-remove nat_list_cmp_total table old other))
    ∙ sym (get-insert nat_list_cmp_total (fin.remove table old) new bytes other))

-- a rename to the same name
pub renamed-same : (table : Files) (name : List ℕ) → IsThere name table → table ≡ renamed name name table
renamed-same table name some = same_files _ _ (λ other. sym (
    get-insert nat_list_cmp_total (fin.remove table name) name (content table name) other
    ∙ ap (cond (eq_by_cmp order other name) (Some (content table name))) (get-remove nat_list_cmp_total table name other)
    ∙ elim (order other name) as (λ r. order other name ≡ r → cond (is_eq r) (Some (content table name)) (cond (is_eq r) None (fin.get table other)) ≡ fin.get table other) [
      | Less ↦ λ _. refl
      | Equal ↦ λ tied. sym (content-there table name some) ∙ get_tied nat_list_cmp_total table other name tied
      | Greater ↦ λ _. refl
    ] refl))

-- a failed write that changed nothing
pub MayWrite-same : (table : Files) (name piece : List ℕ) (at : ℕ) → IsWithin name at table → MayWrite name at piece table table
MayWrite-same table name piece at within = (
  content table name,
  record { front = refl; back = refl; no_shorter = omega arith; no_longer = omega arith },
  sym (insert-content table name (IsThere-from_within table name at within).0),
)
