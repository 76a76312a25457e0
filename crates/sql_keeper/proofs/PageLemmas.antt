-- A page with one item more.
use Rattle.std.specs.Borrow.{Bor}
use Rattle.std.specs.List.{last_or, slice_get}
use Rattle.std.proofs.Common.{◌≡◌, ◌≢◌, ◌∙◌, Option, None, Some, is_none, option_copied, ℕ, ◌<◌, ◌-◌, Bool, true, false, List, [], ◌∷◌, ◌++◌, length, refl, ap, sym, arith, IsTrue}
use Rattle.std.proofs.lemmas.List.{length-append}
use Rattle.std.proofs.lemmas.List.Elements.{All-push}
use Rattle.std.specs.declared.cmp.Ordering.TheVariants.{Less}
use Rattle.std.specs.Ordering.{is_lt}
use Rattle.std.specs.FinMap.{is_sorted}
use Rattle.std.specs.FinMap.Entries.{below_all}
use Rattle.weed_base.specs.PathOrder.{path_cmp, path_cmp_total}
use Rattle.name_core.specs.Pages.{Named, IsNamed, IsPage}
use Rattle.mem_keeper.proofs.PutLemmas.{front_so, back_so, both_so, is_less}
use Rattle.sql_keeper.specs.Follows.{Follows}

below_push : (x : Named) (items : List Named) (item : Named) → below_all path_cmp x.0 items ≡ true → is_sorted path_cmp items ≡ true → Follows items item.0 → path_cmp x.0 item.0 ≡ Less
    → below_all path_cmp x.0 (items ++ item ∷ []) ≡ true
below_push x [] item below rises follows before = both_so _ _ (ap is_lt before) refl
below_push x (y ∷ items) item below rises follows before =
    both_so _ _ (front_so _ _ below) (below_push x items item (back_so _ _ below) (back_so _ _ rises) (later y items follows) before)
  where
    later : (y : Named) (items : List Named) → Follows (y ∷ items) item.0 → Follows items item.0
    later y [] follows = tt
    later y (z ∷ items) follows = follows

first_before : (y : Named) (items : List Named) (path : List (List ℕ)) → is_sorted path_cmp (y ∷ items) ≡ true → Follows (y ∷ items) path → path_cmp y.0 path ≡ Less
first_before y [] path rises follows = follows
first_before y (z ∷ items) path rises follows =
    path_cmp_total.trans y.0 z.0 path (is_less _ (front_so _ _ (front_so _ _ rises))) (first_before z items path (back_so _ _ rises) follows)

rises_push : (items : List Named) (item : Named) → is_sorted path_cmp items ≡ true → Follows items item.0 → is_sorted path_cmp (items ++ item ∷ []) ≡ true
rises_push [] item rises follows = refl
rises_push (y ∷ []) item rises follows = both_so _ _ (both_so _ _ (ap is_lt follows) refl) refl
rises_push (y ∷ z ∷ items) item rises follows =
    both_so _ _ (below_push y (z ∷ items) item (front_so _ _ rises) (back_so _ _ rises) follows (first_before y (z ∷ items) item.0 rises follows))
    (rises_push (z ∷ items) item (back_so _ _ rises) follows)

pub page_more : (room : ℕ) (belongs : List (List ℕ) → Bool) (items : List Named) (item : Named) → IsPage room belongs items → length items < room → Follows items item.0
    → IsNamed item → belongs item.0 ≡ true → IsPage room belongs (items ++ item ∷ [])
page_more room belongs items item page less follows named so = record {
  few = omega (arith, length-append items (item ∷ []), less);
  rising = rises_push items item page.rising follows;
  each = All-push (λ item. IsNamed item × IsTrue (belongs item.0)) items item page.each (named, so);
}

-- A path with a last part isn't the root.
pub not_root : (name : Option (Bor (List ℕ))) (path : List (List ℕ)) → is_none name ≡ false → option_copied name ≡ last_or None path → path ≢ []
not_root None path some last root = let wrong : true ≡ false = some in cc
not_root (Some name) path some last root = let wrong : Some name.now ≡ None = last ∙ ap (last_or None) root in cc

-- Behind the last item
pub last_follows : (items : List Named) (item : Named) (path : List (List ℕ)) → last_or None items ≡ Some item → is_lt (path_cmp item.0 path) ≡ true → Follows items path
last_follows [] item path last past = tt
last_follows (x ∷ []) item path last past = is_less _ (ap (λ i. is_lt (path_cmp i.0 path)) (some_same x item last) ∙ past)
  where
    some_same : (a b : Named) → Some a ≡ Some b → a ≡ b
    some_same a b e = cc
last_follows (x ∷ y ∷ items) item path last past = last_follows (y ∷ items) item path last past

at_last : (x : Named) (items : List Named) → slice_get (x ∷ items) (length items) ≡ last_or (Some x) items
at_last x [] = refl
at_last x (y ∷ items) = at_last y items

pub last_is : (items : List Named) (item : Named) → slice_get items (length items - 1) ≡ Some item → last_or None items ≡ Some item
last_is [] item is = is
last_is (x ∷ items) item is =
    let back : length items ≡ length (x ∷ items) - 1 = omega arith in
    sym (at_last x items) ∙ ap (slice_get (x ∷ items)) back ∙ is
