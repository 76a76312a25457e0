-- The entries of a hash map as a finite map.
use Rattle.std.proofs.Common.{◌≡◌, ℕ, ◌+◌, List, [], ◌∷◌, length, refl, sym, ap, ◌∙◌, arith, cond, Bool, true, false, nat_eq, ◌&&◌, Some, None, Result, Ok, Err}
use Rattle.std.specs.Prelude.{OnErr, is_some, Decides}
use Rattle.std.specs.List.{IsDistinct}
use Rattle.std.proofs.lemmas.Bool.Decides.{nat_tests}
use Rattle.std.specs.Cmp.{nat_cmp_total, nat_eq_equiv}
use Rattle.std.specs.FinMap.{find, from_entries, len, len-empty, len-insert, get, get-from_entries, get-insert, get-remove, insert, nat_cmp-IsAntisymmetric, remove, same_map}
use Rattle.std.specs.Map.{keys_of, lookup}
use Rattle.std.proofs.lemmas.Map.{lookup-none}
use Rattle.std.proofs.lemmas.Map.Entries.{none_past_head}
use Rattle.std.proofs.lemmas.Bool.{eq-eqb, eqb-true}
use Rattle.std.specs.Ordering.{nat_cmp, eq_by_cmp}
use Rattle.needle_index.specs.Index.{Spots}
use Rattle.needle_index.specs.declared.spot.Spot.{Spot}

-- Keys tie where they are equal.
pub tied : (k q : ℕ) → eq_by_cmp nat_cmp k q ≡ nat_eq k q
tied k q = grind (arith, nat_tests)

found : (q : ℕ) (entries : List (ℕ × Spot)) → find nat_cmp q entries ≡ lookup (nat_eq q) entries
found q [] = refl
found q (e ∷ entries) = ap (λ b. cond b (Some e.1) (find nat_cmp q entries)) (tied q e.0) ∙ ap (cond (nat_eq q e.0) (Some e.1)) (found q entries)

-- A look-up in the entries is a look-up in the finite map.
pub looked_up : (q : ℕ) (entries : List (ℕ × Spot)) → lookup (nat_eq q) entries ≡ get (from_entries {R = nat_cmp} entries) q
looked_up q entries = sym (get-from_entries nat_cmp_total entries q ∙ found q entries)

pub same : (m n : Spots) → ((q : ℕ) → get m q ≡ get n q) → m ≡ n
same m n alike = same_map nat_cmp_total nat_cmp-IsAntisymmetric m n alike

pub same_entries : (old new : List (ℕ × Spot)) → ((q : ℕ) → lookup (nat_eq q) new ≡ lookup (nat_eq q) old)
    → from_entries {R = nat_cmp} new ≡ from_entries old
same_entries old new alike = same _ _ (λ q. sym (looked_up q new) ∙ alike q ∙ looked_up q old)

pub turned : (k q : ℕ) → nat_eq k q ≡ nat_eq q k
turned k q = grind (arith, nat_tests)

pub inserted : (old new : List (ℕ × Spot)) (key : ℕ) (spot : Spot)
    → ((q : ℕ) → lookup (nat_eq q) new ≡ cond (nat_eq key q) (Some spot) (lookup (nat_eq q) old))
    → from_entries {R = nat_cmp} new ≡ insert (from_entries old) key spot
inserted old new key spot puts = same _ _ (λ q.
    sym (looked_up q new) ∙ puts q
    ∙ ap (λ b. cond b (Some spot) (lookup (nat_eq q) old)) (turned key q)
    ∙ ap (cond (nat_eq q key) (Some spot)) (looked_up q old)
    ∙ ap (λ b. cond b (Some spot) (get {R = nat_cmp} (from_entries old) q)) (sym (tied q key))
    ∙ sym (get-insert nat_cmp_total (from_entries old) key spot q))

pub removed : (old new : List (ℕ × Spot)) (key : ℕ)
    → ((q : ℕ) → lookup (nat_eq q) new ≡ cond (nat_eq key q) None (lookup (nat_eq q) old))
    → from_entries {R = nat_cmp} new ≡ remove (from_entries old) key
removed old new key takes = same _ _ (λ q.
    sym (looked_up q new) ∙ takes q
    ∙ ap (λ b. cond b None (lookup (nat_eq q) old)) (turned key q)
    ∙ ap (cond (nat_eq q key) None) (looked_up q old)
    ∙ ap (λ b. cond b None (get {R = nat_cmp} (from_entries old) q)) (sym (tied q key))
    ∙ sym (get-remove nat_cmp_total (from_entries old) key q))

-- No two keys are equal, so each entry counts.
pub len-distinct : (entries : List (ℕ × Spot)) → IsDistinct nat_eq (keys_of entries) → len (from_entries {R = nat_cmp} entries) ≡ length entries
unfolding IsDistinct
len-distinct [] apart = len-empty nat_cmp Spot
len-distinct (e ∷ entries) apart =
    let absent : lookup (nat_eq e.0) entries ≡ None = lookup-none (nat_eq e.0) entries (none_past_head nat_eq_equiv e.0 e entries apart (eq-eqb e.0 e.0 refl)) in
    let new : is_some (get {R = nat_cmp} (from_entries entries) e.0) ≡ false = ap is_some (sym (looked_up e.0 entries) ∙ absent) in
    let rest : len (from_entries {R = nat_cmp} entries) ≡ length entries = len-distinct entries apart.1 in
    let first : len (insert (from_entries {R = nat_cmp} entries) e.0 e.1) ≡ len (from_entries {R = nat_cmp} entries) + 1 =
    len-insert nat_cmp_total (from_entries entries) e.0 e.1
    ∙ ap (λ b. cond b (len (from_entries {R = nat_cmp} entries)) (len (from_entries {R = nat_cmp} entries) + 1)) new in
    first ∙ omega (arith, rest)

-- Two hash maps of the same look-ups are one finite map.
pub alike : (old new : List (ℕ × Spot)) → ((q : ℕ) → lookup (nat_eq q) old ≡ lookup (nat_eq q) new) → from_entries {R = nat_cmp} old ≡ from_entries new
alike old new each = same _ _ (λ q. sym (looked_up q old) ∙ each q ∙ looked_up q new)

pub alike_back : (old new : List (ℕ × Spot)) → from_entries {R = nat_cmp} old ≡ from_entries new → (q : ℕ) → lookup (nat_eq q) old ≡ lookup (nat_eq q) new
alike_back old new is q = looked_up q old ∙ ap (λ m. get m q) is ∙ sym (looked_up q new)

pub on_err : {T E P : Type 0} (result : Result T E) → P → OnErr result P
on_err (Ok value) holds = tt
on_err (Err fault) holds = holds

-- Spots are one where both fields are.
pub spots_decided : (v w : Spot) → Decides (nat_eq v.offset w.offset && nat_eq v.size w.size) (v ≡ w)
spots_decided v w = (
  λ same. let o : v.offset ≡ w.offset = eqb-true _ _ (and_left _ _ same) in let s : v.size ≡ w.size = eqb-true _ _ (and_right _ _ same) in λ i. record { offset = o i; size = s i },
  λ same. both _ _ (eq-eqb v.offset w.offset (ap (λ (x : Spot). x.offset) same)) (eq-eqb v.size w.size (ap (λ (x : Spot). x.size) same)),
)
  where
    and_left : (a b : Bool) → (a && b) ≡ true → a ≡ true
    and_left true b e = refl
    and_left false b e = e

    and_right : (a b : Bool) → (a && b) ≡ true → b ≡ true
    and_right true b e = e
    and_right false b e = absurd cc

    both : (a b : Bool) → a ≡ true → b ≡ true → (a && b) ≡ true
    both a b p q = ap (λ x. x && b) p ∙ q
