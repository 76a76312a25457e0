-- What a change of one key makes of a sum over the values.
use Rattle.std.proofs.Common.{◌≡◌, add-zero, ◌⊎◌, inl, inr, ℕ, ◌+◌, ◌%◌, ◌^◌, ◌<◌, List, [], ◌∷◌, map, refl, sym, ap, ◌∙◌, arith, Bool, true, false, cond, nat_eq, Option, Some, None}
use Rattle.std.specs.Cmp.{nat_cmp_total}
use Rattle.std.specs.FinMap.Entries.{by_order}
use Rattle.std.specs.FinMap.{empty, entries, entries-insert, find, get, get-entries, get-insert, get-remove, insert, len-empty, len-entries, put, remove, values}
use Rattle.std.specs.List.{sum_by}
use Rattle.std.specs.Option.{option_map_or}
use Rattle.std.specs.Ordering.{nat_cmp, eq_by_cmp, is_eq}
use Rattle.std.specs.declared.cmp.Ordering.TheVariants.{Less, Equal, Greater}
use Rattle.std.proofs.lemmas.Bool.{cases_Bool, eq-eqb, eqb-true}
use Rattle.std.proofs.lemmas.List.{nil_from_length}
use Rattle.std.proofs.lemmas.List.Sums.{sum_by-cons}
use Rattle.std.proofs.lemmas.Option.{none-some}
use Rattle.needle.specs.Layout.{padded}
use Rattle.needle.specs.declared.version.Version.{Version}
use Rattle.needle_index.specs.Bytes.{live, padded_in}
use Rattle.needle_index.specs.Index.{Spots}
use Rattle.needle_index.specs.declared.spot.Spot.{Spot}
use Rattle.needle_index.proofs.Maps.{same, tied}

-- The sum over the values of entries.
total : (Spot → ℕ) → List (ℕ × Spot) → ℕ
total f es = sum_by f (map (λ e. e.1) es)

total-cons : (f : Spot → ℕ) (e : ℕ × Spot) (es : List (ℕ × Spot)) → total f (e ∷ es) ≡ f e.1 + total f es
unfolding total
total-cons f e es = sum_by-cons f e.1 (map (λ e. e.1) es)

total-put : (f : Spot → ℕ) (k : ℕ) (v : Spot) (es : List (ℕ × Spot)) → find nat_cmp k es ≡ None → total f (put nat_cmp k v es) ≡ f v + total f es
total-put f k v [] none = total-cons f (k, v) []
total-put f k v (e ∷ es) none =
    elim (nat_cmp k e.0) as (λ r. cond (is_eq r) (Some e.1) (find nat_cmp k es) ≡ None
    → total f (by_order r ((k, v) ∷ e ∷ es) ((e.0, v) ∷ es) (e ∷ put nat_cmp k v es)) ≡ f v + total f (e ∷ es)) [
      | Less ↦ λ _. total-cons f (k, v) (e ∷ es)
      | Equal ↦ λ there. absurd (none-some e.1 (sym there))
      | Greater ↦ λ later.
          let rest = total-put f k v es later in
          omega (arith, total-cons f e (put nat_cmp k v es), total-cons f e es, rest)
    ] none

-- The sum over the values of a map.
abbrev pub sum_of : (Spot → ℕ) → Spots → ℕ
sum_of f m = sum_by f (values m)

sum_of-total : (f : Spot → ℕ) (m : Spots) → sum_of f m ≡ total f (entries m)
unfolding total
sum_of-total f m = refl

-- A new key adds its value.
added : (f : Spot → ℕ) (m : Spots) (k : ℕ) (v : Spot) → get m k ≡ None → sum_of f (insert m k v) ≡ f v + sum_of f m
added f m k v none =
    sum_of-total f (insert m k v)
    ∙ ap (total f) (entries-insert nat_cmp_total m k v)
    ∙ total-put f k v (entries m) (sym (get-entries m k) ∙ none)
    ∙ ap (λ n. f v + n) (sym (sum_of-total f m))

absent : (m : Spots) (k : ℕ) → get (remove m k) k ≡ None
absent m k = get-remove nat_cmp_total m k k ∙ ap (λ b. cond b None (get m k)) (tied k k ∙ eq-eqb k k refl)

-- A map without a key, and with it again, is the map with the new value.
twice : (b : Bool) (x y z : Option Spot) → cond b x (cond b y z) ≡ cond b x z
twice true x y z = refl
twice false x y z = refl

put_again : (m : Spots) (k : ℕ) (v : Spot) → insert (remove m k) k v ≡ insert m k v
put_again m k v = same _ _ (λ q.
    get-insert nat_cmp_total (remove m k) k v q
    ∙ ap (cond (eq_by_cmp nat_cmp q k) (Some v)) (get-remove nat_cmp_total m k q)
    ∙ twice (eq_by_cmp nat_cmp q k) (Some v) None (get m q)
    ∙ sym (get-insert nat_cmp_total m k v q))

there : (m : Spots) (k : ℕ) (o : Option Spot) → get m k ≡ o → (q : ℕ) → (nat_eq q k ≡ true) ⊎ (nat_eq q k ≡ false)
    → cond (nat_eq q k) o (get m q) ≡ get m q
there m k o is q (inl here) = ap (λ b. cond b o (get m q)) here ∙ sym is ∙ ap (get m) (sym (eqb-true q k here))
there m k o is q (inr other) = ap (λ b. cond b o (get m q)) other

put_same : (m : Spots) (k : ℕ) (v : Spot) → get m k ≡ Some v → insert m k v ≡ m
put_same m k v is = same _ _ (λ q.
    get-insert nat_cmp_total m k v q ∙ ap (λ b. cond b (Some v) (get m q)) (tied q k) ∙ there m k (Some v) is q (cases_Bool (nat_eq q k)))

taken_none : (m : Spots) (k : ℕ) → get m k ≡ None → remove m k ≡ m
taken_none m k is = same _ _ (λ q.
    get-remove nat_cmp_total m k q ∙ ap (λ b. cond b None (get m q)) (tied q k) ∙ there m k None is q (cases_Bool (nat_eq q k)))

by_value : (f : Spot → ℕ) (m : Spots) (k : ℕ) (o : Option Spot) → get m k ≡ o → sum_of f (remove m k) + option_map_or f o 0 ≡ sum_of f m
by_value f m k None is =
    let same : sum_of f (remove m k) ≡ sum_of f m = ap (sum_of f) (taken_none m k is) in
    omega (arith, same)
by_value f m k (Some v) is =
    let whole : f v + sum_of f (remove m k) ≡ sum_of f m =
    sym (added f (remove m k) k v (absent m k)) ∙ ap (sum_of f) (put_again m k v ∙ put_same m k v is) in
    omega (arith, whole)

-- What a removal makes of the sum.
pub sum_of-remove : (f : Spot → ℕ) (m : Spots) (k : ℕ) → sum_of f (remove m k) + option_map_or f (get m k) 0 ≡ sum_of f m
sum_of-remove f m k = by_value f m k (get m k) refl

-- What a put makes of it.
pub sum_of-insert : (f : Spot → ℕ) (m : Spots) (k : ℕ) (v : Spot) → sum_of f (insert m k v) + option_map_or f (get m k) 0 ≡ sum_of f m + f v
sum_of-insert f m k v =
    let again : sum_of f (insert m k v) ≡ f v + sum_of f (remove m k) =
    ap (sum_of f) (sym (put_again m k v)) ∙ added f (remove m k) k v (absent m k) in
    omega (arith, again, sum_of-remove f m k)

pub sum_of-empty : (f : Spot → ℕ) → sum_of f empty ≡ 0
sum_of-empty f =
    let none : entries (empty {X = Spot} {R = nat_cmp}) ≡ [] =
    nil_from_length _ (sym (len-entries (empty {X = Spot} {R = nat_cmp})) ∙ len-empty nat_cmp Spot) in
    ap (λ (es : List (ℕ × Spot)). sum_by f (map (λ e. e.1) es)) none

-- A sum that is kept without what passes 64 bits stays the sum.
pub kept : (new old out into r sum : ℕ) → new + out ≡ old + into → sum ≡ old % 2 ^ 64 → r < 2 ^ 64 → (r + out) % 2 ^ 64 ≡ (sum + into) % 2 ^ 64 → r ≡ new % 2 ^ 64
kept new old out into r sum change is fits step = omega arith

pub kept_in_put : (version : Version) (old new : Spots) (k : ℕ) (spot : Spot) (former : Option Spot) (r sum : ℕ)
    → new ≡ insert old k spot → former ≡ get old k → sum ≡ live version old % 2 ^ 64 → r < 2 ^ 64
    → (r + padded_in version former) % 2 ^ 64 ≡ (sum + padded_in version (Some spot)) % 2 ^ 64 → r ≡ live version new % 2 ^ 64
kept_in_put version old new k spot former r sum is was held fits step =
    let change : live version new + padded_in version former ≡ live version old + padded version spot.size =
    ap (λ (m : Spots). live version m + padded_in version former) is
    ∙ ap (λ (o : Option Spot). live version (insert old k spot) + padded_in version o) was
    ∙ sum_of-insert (λ s. padded version s.size) old k spot in
    kept _ _ (padded_in version former) (padded version spot.size) r sum change held fits step

pub kept_in_remove : (version : Version) (old new : Spots) (k : ℕ) (former : Option Spot) (r sum : ℕ)
    → new ≡ remove old k → former ≡ get old k → sum ≡ live version old % 2 ^ 64 → r < 2 ^ 64
    → (r + padded_in version former) % 2 ^ 64 ≡ (sum + padded_in version None) % 2 ^ 64 → r ≡ live version new % 2 ^ 64
kept_in_remove version old new k former r sum is was held fits step =
    let change : live version new + padded_in version former ≡ live version old + 0 =
    ap (λ (m : Spots). live version m + padded_in version former) is
    ∙ ap (λ (o : Option Spot). live version (remove old k) + padded_in version o) was
    ∙ sum_of-remove (λ s. padded version s.size) old k
    ∙ sym (add-zero (live version old)) in
    kept _ _ (padded_in version former) 0 r sum change held fits step

pub none_kept : (version : Version) (m : Spots) → m ≡ empty → 0 ≡ live version m % 2 ^ 64
none_kept version m is =
    let none : live version m ≡ 0 = ap (live version) is ∙ sum_of-empty (λ s. padded version s.size) in
    omega (arith, none)
