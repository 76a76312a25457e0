-- Files by their names, after one of them was changed.
use Rattle.std.proofs.Common.{◌≡◌, ◌≢◌, ℕ, ◌≤◌, Bool, true, false, cond, List, [], length, take, refl, sym, ◌∙◌, ap, subst, arith, Option, Some, None, Result, Ok, Err}
use Rattle.std.specs.Prelude.{IsSomeAnd, MatchResult, unwrap_or}
use Rattle.std.specs.Option.{option_map}
use Rattle.std.specs.Ordering.{nat_cmp, eq_by_cmp}
use Rattle.std.specs.Cmp.{eq_by_cmp_equiv}
use Rattle.std.specs.Cmp.Lexicographic.{slice_cmp, nat_list_cmp_total}
use Rattle.std.specs.FinMap.{get, insert, remove, get-insert, get-remove, slice_cmp-IsAntisymmetric, nat_cmp-IsAntisymmetric}
use Rattle.std.proofs.lemmas.Map.Views.{tells_apart}
use Rattle.weed_base.specs.Files.{cut_to, Files, content, made, removed, written, IsWithin, MayWrite, BothTold}
use Rattle.volume_items.specs.Changes.{ChangesOnly}
use Rattle.volume_items.proofs.Told.{both_done, told_related_both}

same_name : (name : List ℕ) → eq_by_cmp (slice_cmp nat_cmp) name name ≡ true
same_name name = (eq_by_cmp_equiv nat_list_cmp_total).refl name

other_name : (a b : List ℕ) → a ≢ b → eq_by_cmp (slice_cmp nat_cmp) a b ≡ false
other_name a b differ =
    elim (eq_by_cmp (slice_cmp nat_cmp) a b) as (λ t. eq_by_cmp (slice_cmp nat_cmp) a b ≡ t → t ≡ false) [
      | true ↦ λ same. absurd (differ (tells_apart (slice_cmp-IsAntisymmetric nat_cmp-IsAntisymmetric) a b same))
      | false ↦ λ _. refl
    ] refl

pub get-insert_same : (files : Files) (name bytes : List ℕ) → get (insert files name bytes) name ≡ Some bytes
get-insert_same files name bytes =
    get-insert nat_list_cmp_total files name bytes name ∙ ap (λ (t : Bool). cond t (Some bytes) (get files name)) (same_name name)

pub get-insert_other : (files : Files) (name bytes other : List ℕ) → other ≢ name → get (insert files name bytes) other ≡ get files other
get-insert_other files name bytes other differ =
    get-insert nat_list_cmp_total files name bytes other ∙ ap (λ (t : Bool). cond t (Some bytes) (get files other)) (other_name other name differ)

get-remove_other : (files : Files) (name other : List ℕ) → other ≢ name → get (remove files name) other ≡ get files other
get-remove_other files name other differ =
    get-remove nat_list_cmp_total files name other ∙ ap (λ (t : Bool). cond t None (get files other)) (other_name other name differ)

pub content-insert_same : (files : Files) (name bytes : List ℕ) → content (insert files name bytes) name ≡ bytes
content-insert_same files name bytes = ap (λ (o : Option (List ℕ)). unwrap_or o []) (get-insert_same files name bytes)

-- ---- each change leaves the files of other names

pub unchanged : (name : List ℕ) (files : Files) → ChangesOnly name files files
unchanged name files = λ other differs. refl

pub made_others : (name : List ℕ) (files : Files) → ChangesOnly name files (made name files)
made_others name files = λ other differs. get-insert_other files name [] other differs

pub removed_others : (name : List ℕ) (files : Files) → ChangesOnly name files (removed name files)
removed_others name files = λ other differs. get-remove_other files name other differs

pub joined : (name : List ℕ) (a b c : Files) → ChangesOnly name a b → ChangesOnly name b c → ChangesOnly name a c
joined name a b c first second = λ other differs. second other differs ∙ first other differs

pub within_made : (name : List ℕ) (files : Files) → IsWithin name 0 (made name files)
within_made name files = subst (λ o. IsSomeAnd o (λ bytes. 0 ≤ length bytes)) (sym (get-insert_same files name [])) (omega arith)

-- a write, done or not
pub write_others : {T E : Type 0} (name : List ℕ) (at : ℕ) (piece : List ℕ) (old new : Option Files) (result : Result T E)
    → MatchResult result (λ _. new ≡ option_map (written name at piece) old) (λ _. BothTold (MayWrite name at piece) old new) → BothTold (ChangesOnly name) old new
write_others name at piece old new (Ok value) is = both_done (ChangesOnly name) (written name at piece) old new is (λ files. λ other differs. get-insert_other files name _ other differs)
write_others name at piece old new (Err fault) is =
    told_related_both (MayWrite name at piece) (ChangesOnly name) old new is
    (λ before after may. λ other differs. ap (λ files. get files other) may.2 ∙ get-insert_other before name may.0 other differs)

pub cut_others : (name : List ℕ) (to : ℕ) (files : Files) → ChangesOnly name files (cut_to name to files)
cut_others name to files = λ other apart. get-insert_other files name (take to (content files name)) other apart
