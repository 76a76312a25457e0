-- What nodes tell of each volume, one node after another.
use Rattle.std.proofs.Common.{◌≡◌, ℕ, zero, suc, ◌+◌, ◌-◌, ◌<◌, Bool, true, false, cond, ◌&&◌, ◌||◌, nat_eq, nat_le, List, [], ◌∷◌, take, filter, map, Ordering, Option, Some, None, length, get_or, is_some, sym, refl, ap, ◌∙◌, subst, arith}
use lib.Dec.{T}
use Rattle.std.proofs.lemmas.Bool.{eqb-true, eq-eqb, ne_eqb, leb-true, le-leb}
use Rattle.std.specs.Ordering.{nat_cmp, eq_by_cmp, is_eq, is_lt}
use Rattle.std.specs.declared.cmp.Ordering.TheVariants.{Less, Equal, Greater}
use Rattle.std.specs.Option.{option_map_or, unwrap_or}
use Rattle.std.specs.List.{list_all, list_any, AllByRecursion}
use Rattle.std.specs.List.Sorted.{IsStrictlySortedBy}
use Rattle.std.specs.Cmp.{nat_cmp_total, unsigned_ties}
use Rattle.std.specs.FinMap.{FinMap, nat_cmp-IsAntisymmetric, get, insert, entries, entries_sorted, get-entries, get-insert}
use Rattle.std.specs.FinMap.Entries.{find, is_sorted, below_all}
use Rattle.topology.specs.Told.{reports}
use Rattle.topology.specs.Writable.{copies, is_open, allows, AreWritableAt}
use Rattle.topology.specs.Tallies.{untold, told, tally_at, tally_of, is_met, met_in}
use Rattle.topology.specs.declared.member.Member.{Member}
use Rattle.topology.specs.declared.report.VolumeReport.{VolumeReport}
use Rattle.topology.specs.declared.writable.Kind.{Kind}
use Rattle.topology.specs.declared.writable.Tally.{Tally}

left_true : (a b : Bool) → T (a && b) → T a
left_true true b p = tt
left_true false b p = p

right_true : (a b : Bool) → T (a && b) → T b
right_true true b p = p
right_true false b p = absurd p

less_from : (o : Ordering) → T (is_lt o) → o ≡ Less
less_from Less p = refl
less_from Equal p = absurd p
less_from Greater p = absurd p

tied : (r : Ordering) → is_eq r ≡ true → r ≡ Equal
tied Less h = cc
tied Equal h = refl
tied Greater h = cc

same_number : (left right : ℕ) → eq_by_cmp nat_cmp left right ≡ true → left ≡ right
same_number left right e = nat_cmp-IsAntisymmetric left right (tied (nat_cmp left right) e)

module _ {V : Type 0} where
  -- the first number of rising ones stands nowhere behind
  not_behind : (number : ℕ) (es : List (ℕ × V)) → T (below_all nat_cmp number es) → find nat_cmp number es ≡ None
  not_behind number [] h = refl
  not_behind number (e ∷ es) h =
      ap (λ r. cond (is_eq r) (Some e.1) (find nat_cmp number es)) (less_from (nat_cmp number e.0) (left_true (is_lt (nat_cmp number e.0)) (below_all nat_cmp number es) h))
      ∙ not_behind number es (right_true (is_lt (nat_cmp number e.0)) (below_all nat_cmp number es) h)

  pub rest_sorted : (number : ℕ) (value : V) (all rest : List (ℕ × V)) → all ≡ (number, value) ∷ rest → T (is_sorted nat_cmp all) → T (is_sorted nat_cmp rest)
  rest_sorted number value all rest is h =
      right_true (below_all nat_cmp number rest) (is_sorted nat_cmp rest) (subst (λ es. T (is_sorted nat_cmp es)) is h)

  first_below : (number : ℕ) (value : V) (all rest : List (ℕ × V)) → all ≡ (number, value) ∷ rest → T (is_sorted nat_cmp all) → T (below_all nat_cmp number rest)
  first_below number value all rest is h =
      left_true (below_all nat_cmp number rest) (is_sorted nat_cmp rest) (subst (λ es. T (is_sorted nat_cmp es)) is h)

told_cases : (kind : Kind) (b : Bool) (found : Option Tally) (tally : Tally) (v : VolumeReport) (rest : Option VolumeReport)
    → (b ≡ true → rest ≡ None) → (b ≡ true → tally ≡ told kind (unwrap_or found (untold kind)) (Some v))
    → told kind (unwrap_or (cond b (Some tally) found) (untold kind)) rest ≡ told kind (unwrap_or found (untold kind)) (cond b (Some v) rest)
told_cases kind true found tally v rest none is = ap (told kind tally) (none refl) ∙ is refl
told_cases kind false found tally v rest none is = refl

-- with one entry more
pub told_more : (kind : Kind) (tallies : FinMap nat_cmp Tally) (number : ℕ) (v : VolumeReport) (all rest : List (ℕ × VolumeReport)) (tally : Tally)
    → all ≡ (number, v) ∷ rest → T (is_sorted nat_cmp all) → tally ≡ told kind (tally_at kind tallies number) (Some v) → (q : ℕ)
    → told kind (tally_at kind (insert tallies number tally) q) (find nat_cmp q rest) ≡ told kind (tally_at kind tallies q) (find nat_cmp q all)
told_more kind tallies number v all rest tally is sorted new q =
    ap (λ found. told kind (unwrap_or found (untold kind)) (find nat_cmp q rest)) (get-insert nat_cmp_total tallies number tally q)
    ∙ told_cases kind (eq_by_cmp nat_cmp q number) (get tallies q) tally v (find nat_cmp q rest)
    (λ e. ap (λ n. find nat_cmp n rest) (same_number q number e) ∙ not_behind number rest (first_below number v all rest is sorted))
    (λ e. new ∙ ap (λ n. told kind (tally_at kind tallies n) (Some v)) (sym (same_number q number e)))
    ∙ ap (λ es. told kind (tally_at kind tallies q) (find nat_cmp q es)) (sym is)

pub told_none : (kind : Kind) (tally : Tally) (q : ℕ) (rest : List (ℕ × VolumeReport)) → rest ≡ [] → tally ≡ told kind tally (find nat_cmp q rest)
told_none kind tally q rest is = ap (λ es. told kind tally (find nat_cmp q es)) (sym is)

-- what one node more adds to a count of those that report
more_reports : (volume : ℕ) (members : List Member) (k : ℕ) (x : Member) → k < length members → x ≡ get_or members k x
    → length (filter (reports volume) (take (suc k) members)) ≡ length (filter (reports volume) (take k members)) + cond (reports volume x) 1 0
more_reports volume [] k x lt is = absurd (omega arith)
more_reports volume (m ∷ ms) zero x lt is = ap (λ member. length (cond (reports volume member) (member ∷ []) [])) (sym is) ∙ one (reports volume x) x
  where
    one : (b : Bool) (x : Member) → length (cond b (x ∷ []) []) ≡ 0 + cond b 1 0
    one true x = omega arith
    one false x = omega arith
more_reports volume (m ∷ ms) (suc k) x lt is = longer (reports volume m) m _ _ (cond (reports volume x) 1 0) (more_reports volume ms k x (omega arith) is)
  where
    longer : (b : Bool) (m : Member) (after before : List Member) (n : ℕ) → length after ≡ length before + n → length (cond b (m ∷ after) after) ≡ length (cond b (m ∷ before) before) + n
    longer true m after before n e = omega (arith, e)
    longer false m after before n e = e

and_assoc : (a b c : Bool) → ((a && b) && c) ≡ (a && (b && c))
and_assoc true b c = refl
and_assoc false b c = refl

and_end : (a : Bool) → (a && true) ≡ a
and_end true = refl
and_end false = refl

all_more : (p : Member → Bool) (members : List Member) (k : ℕ) (x : Member) → k < length members → x ≡ get_or members k x
    → list_all p (take (suc k) members) ≡ (list_all p (take k members) && p x)
all_more p [] k x lt is = absurd (omega arith)
all_more p (m ∷ ms) zero x lt is = and_end (p m) ∙ ap p (sym is)
all_more p (m ∷ ms) (suc k) x lt is = ap (λ b. p m && b) (all_more p ms k x (omega arith) is) ∙ sym (and_assoc (p m) (list_all p (take k ms)) (p x))

told_one : (kind : Kind) (wanted count : ℕ) (writable : Bool) (found : Option VolumeReport)
    → record { missing = wanted - (count + cond (is_some found) 1 0); writable = writable && option_map_or (is_open kind.placement kind.ttl kind.limit) found true }
    ≡ told kind (record { missing = wanted - count; writable = writable }) found
told_one kind wanted count writable None =
    let same : wanted - (count + 0) ≡ wanted - count = omega arith in
    λ i. record { missing = same i; writable = and_end writable i }
told_one kind wanted count writable (Some v) =
    let fewer : wanted - (count + 1) ≡ wanted - count - 1 = omega arith in
    λ i. record { missing = fewer i; writable = writable && is_open kind.placement kind.ttl kind.limit v }

-- of no node
pub tally_none : (kind : Kind) (volume : ℕ) → untold kind ≡ tally_of kind [] volume
tally_none kind volume =
    let same : copies kind.placement ≡ copies kind.placement - 0 = omega arith in
    λ i. record { missing = same i; writable = true }

-- with one node more
pub tally_more : (kind : Kind) (volume : ℕ) (members : List Member) (k n : ℕ) (x : Member) → n ≡ suc k → k < length members → x ≡ get_or members k x
    → tally_of kind (take n members) volume ≡ told kind (tally_of kind (take k members) volume) (get x.reports volume)
tally_more kind volume members k n x next lt is =
    ap (λ n. tally_of kind (take n members) volume) next
    ∙ (λ i. record {
      missing = copies kind.placement - more_reports volume members k x lt is i;
      writable = all_more (allows kind.placement kind.ttl kind.limit volume) members k x lt is i;
    })
    ∙ told_one kind (copies kind.placement) (length (filter (reports volume) (take k members))) (list_all (allows kind.placement kind.ttl kind.limit volume) (take k members)) (get x.reports volume)

behind_all : (number : ℕ) (es : List (ℕ × Tally)) → T (below_all nat_cmp number es) → AllByRecursion (λ y. nat_cmp number y ≡ Less) (met_in es)
behind_all number [] h = tt
behind_all number (e ∷ es) h =
    let rest = behind_all number es (right_true (is_lt (nat_cmp number e.0)) (below_all nat_cmp number es) h) in
    let less = less_from (nat_cmp number e.0) (left_true (is_lt (nat_cmp number e.0)) (below_all nat_cmp number es) h) in
    elim (is_met e.1) as (λ b. AllByRecursion (λ y. nat_cmp number y ≡ Less) (map (λ (tally : ℕ × Tally). tally.0) (cond b (e ∷ filter (λ (tally : ℕ × Tally). is_met tally.1) es) (filter (λ (tally : ℕ × Tally). is_met tally.1) es)))) [
      | true ↦ (less, rest)
      | false ↦ rest
    ]

met_rise : (es : List (ℕ × Tally)) → T (is_sorted nat_cmp es) → IsStrictlySortedBy nat_cmp (met_in es)
unfolding IsStrictlySortedBy
met_rise [] h = tt
met_rise (e ∷ es) h =
    let rest = met_rise es (right_true (below_all nat_cmp e.0 es) (is_sorted nat_cmp es) h) in
    let behind = behind_all e.0 es (left_true (below_all nat_cmp e.0 es) (is_sorted nat_cmp es) h) in
    elim (is_met e.1) as (λ b. IsStrictlySortedBy nat_cmp (map (λ (tally : ℕ × Tally). tally.0) (cond b (e ∷ filter (λ (tally : ℕ × Tally). is_met tally.1) es) (filter (λ (tally : ℕ × Tally). is_met tally.1) es)))) [
      | true ↦ (behind, rest)
      | false ↦ rest
    ]

met_step : (tie met rest : Bool) (e : ℕ × Tally) (es : List (ℕ × Tally)) (q : ℕ) (found : Option Tally)
    → nat_eq q e.0 ≡ tie → is_met e.1 ≡ met → list_any (nat_eq q) (met_in es) ≡ option_map_or is_met found false → (tie ≡ true → found ≡ None)
    → list_any (nat_eq q) (map (λ (tally : ℕ × Tally). tally.0) (cond met (e ∷ filter (λ (tally : ℕ × Tally). is_met tally.1) es) (filter (λ (tally : ℕ × Tally). is_met tally.1) es)))
    ≡ option_map_or is_met (cond tie (Some e.1) found) false
met_step true true rest e es q found is met same none = ap (λ b. b || list_any (nat_eq q) (met_in es)) is ∙ sym met
met_step true false rest e es q found is met same none = same ∙ ap (λ found. option_map_or is_met found false) (none refl) ∙ sym met
met_step false true rest e es q found is met same none = ap (λ b. b || list_any (nat_eq q) (met_in es)) is ∙ same
met_step false false rest e es q found is met same none = same

met_are : (es : List (ℕ × Tally)) (q : ℕ) → T (is_sorted nat_cmp es) → list_any (nat_eq q) (met_in es) ≡ option_map_or is_met (find nat_cmp q es) false
met_are [] q h = refl
met_are (e ∷ es) q h =
    met_step (eq_by_cmp nat_cmp q e.0) (is_met e.1) true e es q (find nat_cmp q es) (unsigned_ties q e.0) refl (met_are es q (right_true (below_all nat_cmp e.0 es) (is_sorted nat_cmp es) h))
    (λ tie. ap (λ n. find nat_cmp n es) (same_number q e.0 tie) ∙ not_behind e.0 es (left_true (below_all nat_cmp e.0 es) (is_sorted nat_cmp es) h))

both_ways : (a b : Bool) → (a ≡ true → b ≡ true) → (b ≡ true → a ≡ true) → a ≡ b
both_ways true true f g = refl
both_ways true false f g = sym (f refl)
both_ways false true f g = g refl
both_ways false false f g = refl

-- enough are there exactly where none is missing
none_missing : (wanted count : ℕ) → nat_eq (wanted - count) 0 ≡ nat_le wanted count
none_missing wanted count = both_ways _ _ (λ h. let e = eqb-true (wanted - count) 0 h in le-leb wanted count (omega (arith, e))) (λ h. let e = leb-true wanted count h in eq-eqb (wanted - count) 0 (omega (arith, e)))

not_met : (wanted : ℕ) → nat_eq (wanted + 1) 0 ≡ false
not_met wanted = ne_eqb (wanted + 1) 0 (λ e. omega (arith, e))

met_untold : (kind : Kind) (found : Option Tally) → option_map_or is_met found false ≡ is_met (unwrap_or found (untold kind))
met_untold kind None = ap (λ b. b && true) (sym (not_met (kind.placement.x + kind.placement.y + kind.placement.z)))
met_untold kind (Some tally) = refl

-- the volumes of the tallies of all nodes
pub met_writable : (kind : Kind) (members : List Member) (tallies : FinMap nat_cmp Tally) (volumes : List ℕ)
    → ((volume : ℕ) → tally_at kind tallies volume ≡ tally_of kind members volume) → volumes ≡ met_in (entries tallies)
    → AreWritableAt kind.placement kind.ttl kind.limit members volumes
met_writable kind members tallies volumes told is = record {
  rise = subst (IsStrictlySortedBy nat_cmp) (sym is) (met_rise (entries tallies) (entries_sorted tallies));
  are = λ q. ap (list_any (nat_eq q)) is ∙ met_are (entries tallies) q (entries_sorted tallies)
      ∙ ap (λ found. option_map_or is_met found false) (sym (get-entries tallies q))
      ∙ met_untold kind (get tallies q) ∙ ap is_met (told q)
      ∙ ap (λ b. b && list_all (allows kind.placement kind.ttl kind.limit q) members) (none_missing (copies kind.placement) (length (filter (reports q) members)));
}
