-- The entries of an index by their offsets are those of the items that live, in their order.
use Rattle.std.proofs.Common.{◌≡◌, ℕ, ◌+◌, ◌-◌, ◌*◌, ◌/◌, ◌%◌, ◌^◌, ◌<◌, ◌≤◌, ◌⊎◌, inl, inr, Bool, true, false, cond, not, nat_eq, List, [], ◌∷◌, map, length, take, drop, Option, Some, None, refl, suc, sym, ap, subst, ◌∙◌, arith}
use Rattle.std.specs.Cmp.{nat_cmp_total, nat_eq_equiv}
use Rattle.std.specs.FinMap.{empty, from_entries, get, get-empty, get-insert, get-remove, insert, remove}
use Rattle.std.specs.List.{AllByRecursion, IsDistinct}
use Rattle.std.specs.List.Sorted.{IsNonDecreasingBy, IsPermutation}
use Rattle.std.specs.Map.{keys_of, lookup}
use Rattle.std.specs.Ordering.{nat_cmp}
use Rattle.std.proofs.lemmas.Bool.{eq-eqb}
use Rattle.std.proofs.lemmas.Bool.Decides.{nat_tests}
use Rattle.std.proofs.lemmas.List.Elements.{All-from_recursion, recursion_from_All}
use Rattle.std.proofs.lemmas.List.Sorted.{All-permutation, IsPermutation-map, IsPermutation-sym}
use Rattle.std.proofs.lemmas.Map.{lookup-none}
use Rattle.std.proofs.lemmas.Map.Entries.{none_past_head}
use Rattle.std.proofs.lemmas.Map.Keys.{IsDistinct-IsPermutation}
use Rattle.needle.specs.Answer.{IsItem}
use Rattle.needle.specs.Fields.{AreBytes, size_in}
use Rattle.needle.specs.Item.{IsNeedle, body_of, content, key_of}
use Rattle.needle.specs.declared.item.Item.{Item}
use Rattle.needle.specs.declared.item.Item.TheVariants.{Live, Gone}
use Rattle.needle.specs.declared.item.ReadItem.{ReadItem}
use Rattle.needle.specs.declared.version.Version.{Version}
use Rattle.needle.proofs.Followed.{read_whole}
use Rattle.needle_index.specs.Index.{Spots}
use Rattle.needle_index.specs.Order.{AreEntriesOf, entry_with}
use Rattle.needle_index.specs.Text.{entered, entry_at, entry_for, is_removal, removal}
use Rattle.needle_index.specs.declared.entry.IndexEntry.{IndexEntry}
use Rattle.needle_index.specs.declared.spot.Spot.{Spot}
use Rattle.needle_index.proofs.Maps.{looked_up, tied, turned}
use Rattle.volume_items.specs.Contents.{AreItems, HoldsAt, end_of, index_of, indexed, most_data}
use Rattle.volume_items.specs.Lives.{is_told_in, live_of, lives_ahead_of}
use Rattle.volume_items.specs.Vacuuming.{LieAt, LiesAt}
use Rattle.volume_items.proofs.Appended.{end-least}
use Rattle.volume_items.proofs.Judged.{least_taken}
use Rattle.volume_items.proofs.Spots.{begun, bytes_there, entered-live, needle-length, needle-most, not_none, taken_eights}

never_true : true ≡ false → ⊥
never_true e = cc

-- ---- lists that rise

abbrev Member : List IndexEntry → IndexEntry → Type 0
Member [] e = ⊥
Member (x ∷ xs) e = (x ≡ e) ⊎ Member xs e

abbrev Above : IndexEntry → List IndexEntry → Type 0
Above x xs = AllByRecursion (λ y. x.offset < y.offset) xs

abbrev Rises : List IndexEntry → Type 0
Rises [] = Unit {0}
Rises (x ∷ xs) = Above x xs × Rises xs

higher : (x : IndexEntry) (xs : List IndexEntry) (e : IndexEntry) → Above x xs → Member xs e → x.offset < e.offset
higher x [] e above is = absurd is
higher x (y ∷ xs) e above (inl same) = subst (λ (z : IndexEntry). x.offset < z.offset) same above.0
higher x (y ∷ xs) e above (inr is) = higher x xs e above.1 is

one_at : (xs : List IndexEntry) (a b : IndexEntry) → Rises xs → Member xs a → Member xs b → a.offset ≡ b.offset → a ≡ b
one_at [] a b rises is too same = absurd is
one_at (x ∷ xs) a b rises (inl is) (inl too) same = sym is ∙ too
one_at (x ∷ xs) a b rises (inl is) (inr too) same =
    let more = higher x xs b rises.0 too in
    absurd (apart x.offset a.offset b.offset (ap (λ (z : IndexEntry). z.offset) is) same more)
  where
    apart : (n m k : ℕ) → n ≡ m → m ≡ k → n < k → ⊥
    apart n m k one two more = omega (arith, one, two, more)
one_at (x ∷ xs) a b rises (inr is) (inl too) same =
    let more = higher x xs a rises.0 is in
    absurd (apart x.offset b.offset a.offset (ap (λ (z : IndexEntry). z.offset) too) same more)
  where
    apart : (n m k : ℕ) → n ≡ m → k ≡ m → n < k → ⊥
    apart n m k one two more = omega (arith, one, two, more)
one_at (x ∷ xs) a b rises (inr is) (inr too) same = one_at xs a b rises.1 is too same

-- what lies above the first is in the rest
in_rest : (b : IndexEntry) (ys xs : List IndexEntry) (n : ℕ) → n ≡ b.offset → AllByRecursion (λ y. n < y.offset) xs → AllByRecursion (Member (b ∷ ys)) xs → AllByRecursion (Member ys) xs
in_rest b ys [] n is above all = tt
in_rest b ys (x ∷ xs) n is above all = (past all.0, in_rest b ys xs n is above.1 all.1)
  where
    apart : (m k : ℕ) → n ≡ m → m ≡ k → n < k → ⊥
    apart m k one two more = omega (arith, one, two, more)

    past : (b ≡ x) ⊎ Member ys x → Member ys x
    past (inl same) = absurd (apart b.offset x.offset is (ap (λ (z : IndexEntry). z.offset) same) above.0)
    past (inr is_in) = is_in

same_lists : (xs ys : List IndexEntry) → Rises xs → Rises ys → AllByRecursion (Member ys) xs → AllByRecursion (Member xs) ys → xs ≡ ys
same_lists [] [] one two there back = refl
same_lists [] (y ∷ ys) one two there back = absurd back.0
same_lists (x ∷ xs) [] one two there back = absurd there.0
same_lists (x ∷ xs) (y ∷ ys) one two there back =
    let first : x ≡ y = meet there.0 back.0 in
    let level : x.offset ≡ y.offset = ap (λ (z : IndexEntry). z.offset) first in
    let rest : xs ≡ ys = same_lists xs ys one.1 two.1 (in_rest y ys xs x.offset level one.0 there.1) (in_rest x xs ys y.offset (sym level) two.0 back.1) in
    λ i. first i ∷ rest i
  where
    both : (n m : ℕ) → n < m → m < n → ⊥
    both n m less more = omega (arith, less, more)

    meet : (y ≡ x) ⊎ Member ys x → (x ≡ y) ⊎ Member xs y → x ≡ y
    meet (inl same) back = sym same
    meet (inr is) (inl same) = same
    meet (inr is) (inr too) = absurd (both y.offset x.offset (higher y ys x two.0 is) (higher x xs y one.0 too))

itself : (xs : List IndexEntry) → AllByRecursion (Member xs) xs
itself xs = all xs (λ e is. is)
  where
    all : (ys : List IndexEntry) → ((e : IndexEntry) → Member ys e → Member xs e) → AllByRecursion (Member xs) ys
    all [] into = tt
    all (y ∷ ys) into = (into y (inl refl), all ys (λ e is. into e (inr is)))

-- ---- a list in order, whose entries are of a rising one

first_least : (x : IndexEntry) (xs : List IndexEntry) → IsNonDecreasingBy (λ e. e.offset) (x ∷ xs) → AllByRecursion (λ y. x.offset ≤ y.offset) xs
first_least x xs order = recursion_from_All (λ y. x.offset ≤ y.offset) xs (λ i d less. order 0 (suc i) d (omega arith) (omega (arith, less)))

order_rest : (x : IndexEntry) (xs : List IndexEntry) → IsNonDecreasingBy (λ e. e.offset) (x ∷ xs) → IsNonDecreasingBy (λ e. e.offset) xs
order_rest x xs order = λ i j d few less. order (suc i) (suc j) d (omega (arith, few)) (omega (arith, less))

lifted : (ys : List IndexEntry) (x : IndexEntry) (xs : List IndexEntry) → Rises ys → Member ys x → AllByRecursion (Member ys) xs → AllByRecursion (λ y. x.offset ≤ y.offset) xs
    → AllByRecursion (λ k. nat_eq x.key k ≡ false) (map (λ e. e.key) xs) → Above x xs
lifted ys x [] rises is all least apart = tt
lifted ys x (y ∷ xs) rises is all least apart = (strict, lifted ys x xs rises is all.1 least.1 apart.1)
  where
    other : x.offset ≡ y.offset → ⊥
    other level = never_true (sym (eq-eqb x.key y.key (ap (λ (z : IndexEntry). z.key) (one_at ys x y rises is all.0 level))) ∙ apart.0)

    less_or : (n m : ℕ) → n ≤ m → (n ≡ m → ⊥) → n < m
    less_or n m few differs = omega (arith, few, differs)

    strict : x.offset < y.offset
    strict = less_or (x.offset) (y.offset) least.0 other

rises_too : (ys xs : List IndexEntry) → Rises ys → AllByRecursion (Member ys) xs → IsNonDecreasingBy (λ e. e.offset) xs → IsDistinct nat_eq (map (λ e. e.key) xs) → Rises xs
unfolding IsDistinct
rises_too ys [] rises all order apart = tt
rises_too ys (x ∷ xs) rises all order apart =
    (lifted ys x xs rises all.0 all.1 (first_least x xs order) apart.0, rises_too ys xs rises all.1 (order_rest x xs order) apart.1)

-- ---- the entries of a map and its look-ups

same_key : (a b : ℕ) → nat_eq a b ≡ true → a ≡ b
same_key a b same = grind (arith, nat_tests, same)

-- what the look-ups give, each entry is
to_each : (pairs : List (ℕ × Spot)) → IsDistinct nat_eq (keys_of pairs) → (P : IndexEntry → Type 0) → ((k : ℕ) (s : Spot) → lookup (nat_eq k) pairs ≡ Some s → P (entry_with (k, s)))
    → AllByRecursion P (map entry_with pairs)
unfolding IsDistinct
to_each [] apart P each = tt
to_each (p ∷ pairs) apart P each = (
  each p.0 p.1 (ap (λ (b : Bool). cond b (Some p.1) (lookup (nat_eq p.0) pairs)) (eq-eqb p.0 p.0 refl)),
  to_each pairs apart.1 P (λ k s found. each k s (past k s (nat_eq k p.0) refl found)),
)
  where
    absent : lookup (nat_eq p.0) pairs ≡ None
    absent = lookup-none (nat_eq p.0) pairs (none_past_head nat_eq_equiv p.0 p pairs apart (eq-eqb p.0 p.0 refl))

    never : {s : Spot} → ◌≡◌ {A = Option Spot} None (Some s) → ⊥
    never e = cc

    past : (k : ℕ) (s : Spot) (t : Bool) → nat_eq k p.0 ≡ t → lookup (nat_eq k) pairs ≡ Some s → lookup (nat_eq k) (p ∷ pairs) ≡ Some s
    past k s true same found = absurd (never (sym absent ∙ subst (λ (n : ℕ). lookup (nat_eq n) pairs ≡ Some s) (same_key k p.0 same) found))
    past k s false other found = ap (λ (b : Bool). cond b (Some p.1) (lookup (nat_eq k) pairs)) other ∙ found

-- what each entry is, a look-up gives
of_found : (pairs : List (ℕ × Spot)) (P : IndexEntry → Type 0) (k : ℕ) (s : Spot) → AllByRecursion P (map entry_with pairs) → lookup (nat_eq k) pairs ≡ Some s → P (entry_with (k, s))
of_found [] P k s all found = absurd (never found)
  where
    never : ◌≡◌ {A = Option Spot} None (Some s) → ⊥
    never e = cc
of_found (p ∷ pairs) P k s all found = here (of_found pairs P k s all.1) (nat_eq k p.0) refl found
  where
    of_some : (a b : Spot) → Some a ≡ Some b → a ≡ b
    of_some a b e = cc

    here : (lookup (nat_eq k) pairs ≡ Some s → P (entry_with (k, s))) → (t : Bool) → nat_eq k p.0 ≡ t → cond t (Some p.1) (lookup (nat_eq k) pairs) ≡ Some s → P (entry_with (k, s))
    here past true same is = subst (λ (q : ℕ × Spot). P (entry_with q)) (λ i. (sym (same_key k p.0 same) i, of_some p.1 s is i)) all.0
    here past false other is = past is

-- ---- the items that live

-- Their entries, in their order.
abbrev living : ℕ → List ReadItem → List IndexEntry
living place [] = []
living place (read ∷ more) =
    cond (lives_ahead_of read.item more) (entry_for place read.item ∷ living (place + read.taken) more) (living (place + read.taken) more)

abbrev HasSize : Item → Type 0
HasSize (Live needle) = (0 < length (content (Live needle))) × (length (content (Live needle)) < 2 ^ 32 - 1)
HasSize (Gone cookie key) = Unit {0}

record Sound (read : ReadItem) : Type 0 where
  pub size : HasSize read.item
  pub some : 8 ≤ read.taken

sized : (version : Version) (text : List ℕ) (place : ℕ) (read : ReadItem) (end : ℕ) → AreBytes (take end text) → place + read.taken ≤ end → HoldsAt version text place read
    → (item : Item) → read.item ≡ item → HasSize item
sized version text place read end bytes ends held (Gone cookie key) is = tt
sized version text place read end bytes ends held (Live needle) is =
    let fits : IsNeedle needle = subst IsItem is (begun version text place read end bytes ends held).item in
    let small : length needle.body ≤ most_data = subst (λ (i : Item). length (body_of i) ≤ most_data) is held.small in
    let len = needle-length needle fits in
    let most = needle-most needle fits in
    (omega arith, omega arith)

all_sound : (version : Version) (text : List ℕ) (end : ℕ) → AreBytes (take end text) → (place : ℕ) (items : List ReadItem) → end_of place items ≤ end → AreItems version text place items
    → AllByRecursion Sound items
all_sound version text end bytes place [] ends are = tt
all_sound version text end bytes place (read ∷ more) ends are =
    let least = end-least (place + read.taken) more in
    let whole = (read_whole version (drop place text) read (are.0).is_read).0 in (
      record {
        size = sized version text place read end bytes (omega (arith, least, ends)) are.0 read.item refl;
        some = omega (arith, whole, least_taken version (size_in (drop place text)));
      },
      all_sound version text end bytes (place + read.taken) more ends are.1,
    )

pub key_at : (place key size : ℕ) → (entry_at place key size).key ≡ key
key_at place key size =
    elim (nat_eq size 0) as (λ t. (cond t (removal key (place / 8)) (record { key = key; offset = place / 8; size = size })).key ≡ key) [
      | true ↦ refl
      | false ↦ refl
    ]

pub offset_at : (place key size : ℕ) → (entry_at place key size).offset ≡ place / 8
offset_at place key size =
    elim (nat_eq size 0) as (λ t. (cond t (removal key (place / 8)) (record { key = key; offset = place / 8; size = size })).offset ≡ place / 8) [
      | true ↦ refl
      | false ↦ refl
    ]

-- they lie at their places
living_lie : (version : Version) (text : List ℕ) (end : ℕ) → AreBytes (take end text) → (place : ℕ) → place % 8 ≡ 0 → (items : List ReadItem) → end_of place items ≤ end
    → AreItems version text place items → LieAt version text (living place items) (live_of items)
living_lie version text end bytes place eights [] ends are = tt
living_lie version text end bytes place eights (read ∷ more) ends are =
    let least = end-least (place + read.taken) more in
    let entry : IndexEntry = entry_for place read.item in
    let here : 8 * entry.offset ≡ place = ap (λ (n : ℕ). 8 * n) (offset_at place (key_of read.item) (length (content read.item))) ∙ omega (arith, eights) in
    let rest = living_lie version text end bytes (place + read.taken) (taken_eights version text place read are.0 eights) more ends are.1 in
    let lies : LiesAt version text entry read = record {
      held = subst (λ (n : ℕ). HoldsAt version text n read) (sym here) are.0;
      entry_is = ap (λ (n : ℕ). entry_for n read.item) (sym here);
      bytes = subst (λ (n : ℕ). AreBytes (take read.taken (drop n text))) (sym here) (bytes_there text place read.taken end bytes (omega (arith, least, ends)));
    } in
    elim (lives_ahead_of read.item more) as (λ b. LieAt version text (cond b (entry ∷ living (place + read.taken) more) (living (place + read.taken) more)) (cond b (read ∷ live_of more) (live_of more))) [
      | true ↦ (lies, rest)
      | false ↦ rest
    ]

-- they rise
lower : (n m : ℕ) (xs : List IndexEntry) → n ≤ m → AllByRecursion (λ y. m ≤ y.offset) xs → AllByRecursion (λ y. n ≤ y.offset) xs
lower n m [] few all = tt
lower n m (x ∷ xs) few all = (omega (arith, few, all.0), lower n m xs few all.1)

living_least : (place : ℕ) (items : List ReadItem) → AllByRecursion (λ y. place / 8 ≤ y.offset) (living place items)
living_least place [] = tt
living_least place (read ∷ more) =
    let rest = lower (place / 8) ((place + read.taken) / 8) (living (place + read.taken) more) (omega arith) (living_least (place + read.taken) more) in
    let least : place / 8 ≤ (entry_for place read.item).offset = omega (arith, offset_at place (key_of read.item) (length (content read.item))) in
    elim (lives_ahead_of read.item more) as (λ b. AllByRecursion (λ y. place / 8 ≤ y.offset) (cond b (entry_for place read.item ∷ living (place + read.taken) more) (living (place + read.taken) more))) [
      | true ↦ (least, rest)
      | false ↦ rest
    ]

stricter : (n m : ℕ) (xs : List IndexEntry) → n < m → AllByRecursion (λ y. m ≤ y.offset) xs → AllByRecursion (λ y. n < y.offset) xs
stricter n m [] less all = tt
stricter n m (x ∷ xs) less all = (omega (arith, less, all.0), stricter n m xs less all.1)

living_rise : (place : ℕ) (items : List ReadItem) → AllByRecursion Sound items → Rises (living place items)
living_rise place [] sound = tt
living_rise place (read ∷ more) sound =
    let entry : IndexEntry = entry_for place read.item in
    let rest = living_rise (place + read.taken) more sound.1 in
    let less : entry.offset < (place + read.taken) / 8 = omega (arith, offset_at place (key_of read.item) (length (content read.item)), (sound.0).some) in
    let above = stricter entry.offset ((place + read.taken) / 8) (living (place + read.taken) more) less (living_least (place + read.taken) more) in
    elim (lives_ahead_of read.item more) as (λ b. Rises (cond b (entry ∷ living (place + read.taken) more) (living (place + read.taken) more))) [
      | true ↦ (above, rest)
      | false ↦ rest
    ]

-- ---- what the index has of them

entered_other : (spots : Spots) (entry : IndexEntry) (key : ℕ) → nat_eq entry.key key ≡ false → get (entered spots entry) key ≡ get spots key
entered_other spots entry key other = elim (is_removal entry) as (λ b. get (cond b (remove spots entry.key) (insert spots entry.key (record { offset = entry.offset; size = entry.size }))) key ≡ get spots key) [
  | true ↦ get-remove nat_cmp_total spots entry.key key ∙ ap (λ (t : Bool). cond t None (get spots key)) (tied key entry.key ∙ turned key entry.key ∙ other)
  | false ↦ get-insert nat_cmp_total spots entry.key _ key ∙ ap (λ (t : Bool). cond t (Some (record { offset = entry.offset; size = entry.size })) (get spots key)) (tied key entry.key ∙ turned key entry.key ∙ other)
]

item_other : (spots : Spots) (place : ℕ) (item : Item) (key : ℕ) → nat_eq (key_of item) key ≡ false → get (entered spots (entry_for place item)) key ≡ get spots key
item_other spots place item key other =
    entered_other spots (entry_for place item) key (ap (λ (n : ℕ). nat_eq n key) (key_at place (key_of item) (length (content item))) ∙ other)

untold_stays : (place : ℕ) (spots : Spots) (items : List ReadItem) (key : ℕ) → is_told_in items key ≡ false → get (indexed place spots items) key ≡ get spots key
untold_stays place spots [] key untold = refl
untold_stays place spots (read ∷ more) key untold =
    on (untold_stays (place + read.taken) (entered spots (entry_for place read.item)) more key) (nat_eq (key_of read.item) key) refl untold
  where
    on : (is_told_in more key ≡ false → get (indexed (place + read.taken) (entered spots (entry_for place read.item)) more) key ≡ get (entered spots (entry_for place read.item)) key)
        → (t : Bool) → nat_eq (key_of read.item) key ≡ t → cond t true (is_told_in more key) ≡ false
        → get (indexed (place + read.taken) (entered spots (entry_for place read.item)) more) key ≡ get spots key
    on rest true same is = absurd (never_true is)
    on rest false other is = rest is ∙ item_other spots place read.item key other

abbrev IsIn : Spots → IndexEntry → Type 0
IsIn spots e = get spots e.key ≡ Some (record { offset = e.offset; size = e.size })

of_not : (b : Bool) → not b ≡ true → b ≡ false
of_not true is = sym is
of_not false is = refl

put_at : (spots : Spots) (key : ℕ) (spot : Spot) → get (insert spots key spot) key ≡ Some spot
put_at spots key spot = get-insert nat_cmp_total spots key spot key ∙ ap (λ (t : Bool). cond t (Some spot) (get spots key)) (tied key key ∙ eq-eqb key key refl)

entry_live : (place key size : ℕ) → 0 < size → entry_at place key size ≡ record { key = key; offset = place / 8; size = size }
entry_live place key size some = ap (λ (b : Bool). cond b (removal key (place / 8)) (record { key = key; offset = place / 8; size = size })) (not_none size some)

is_in : (place taken : ℕ) (spots : Spots) (item : Item) (more : List ReadItem) → HasSize item → lives_ahead_of item more ≡ true
    → IsIn (indexed (place + taken) (entered spots (entry_for place item)) more) (entry_for place item)
is_in place taken spots (Gone cookie key) more has lives = absurd (never_true (sym lives))
is_in place taken spots (Live needle) more has lives =
    let size : ℕ = length (content (Live needle)) in
    let entry : IndexEntry = record { key = needle.key; offset = place / 8; size = size } in
    subst (λ (e : IndexEntry). IsIn (indexed (place + taken) (entered spots (entry_for place (Live needle))) more) e) (sym (entry_live place needle.key size has.0))
    (untold_stays (place + taken) (entered spots (entry_for place (Live needle))) more needle.key (of_not (is_told_in more needle.key) lives)
    ∙ ap (λ (s : Spots). get s needle.key) (entered-live spots place needle.key size has.0 has.1) ∙ put_at spots needle.key (record { offset = place / 8; size = size }))

living_in : (place : ℕ) (spots : Spots) (items : List ReadItem) → AllByRecursion Sound items → AllByRecursion (IsIn (indexed place spots items)) (living place items)
living_in place spots [] sound = tt
living_in place spots (read ∷ more) sound =
    at (living_in (place + read.taken) (entered spots (entry_for place read.item)) more sound.1) (lives_ahead_of read.item more) refl
  where
    all : List IndexEntry → Type 0
    all xs = AllByRecursion (IsIn (indexed (place + read.taken) (entered spots (entry_for place read.item)) more)) xs

    at : all (living (place + read.taken) more) → (b : Bool) → lives_ahead_of read.item more ≡ b → all (cond b (entry_for place read.item ∷ living (place + read.taken) more) (living (place + read.taken) more))
    at rest true lives = (is_in place read.taken spots read.item more (sound.0).size lives, rest)
    at rest false dead = rest

-- and nothing else
later : (b : Bool) (x e : IndexEntry) (xs : List IndexEntry) → Member xs e → Member (cond b (x ∷ xs) xs) e
later true x e xs is = inr is
later false x e xs is = is

newest : (place : ℕ) (spots : Spots) (item : Item) (more : List ReadItem) (xs : List IndexEntry) (key : ℕ) (spot : Spot) → HasSize item → nat_eq (key_of item) key ≡ true
    → is_told_in more key ≡ false → get (entered spots (entry_for place item)) key ≡ Some spot
    → Member (cond (lives_ahead_of item more) (entry_for place item ∷ xs) xs) (entry_with (key, spot))
newest place spots (Gone cookie gone) more xs key spot has same untold found =
    absurd (never (sym (get-remove nat_cmp_total spots gone key ∙ ap (λ (t : Bool). cond t None (get spots key)) (tied key gone ∙ turned key gone ∙ same)) ∙ found))
  where
    never : ◌≡◌ {A = Option Spot} None (Some spot) → ⊥
    never e = cc
newest place spots (Live needle) more xs key spot has same untold found =
    subst (λ (b : Bool). Member (cond b (entry_for place (Live needle) ∷ xs) xs) (entry_with (key, spot))) (sym lives) (inl (entry_live place needle.key size has.0 ∙ is))
  where
    size : ℕ
    size = length (content (Live needle))

    key_is : needle.key ≡ key
    key_is = same_key needle.key key same

    lives : lives_ahead_of (Live needle) more ≡ true
    lives = ap not (ap (is_told_in more) key_is ∙ untold)

    of_some : (a b : Spot) → Some a ≡ Some b → a ≡ b
    of_some a b e = cc

    spot_is : record { offset = place / 8; size = size } ≡ spot
    spot_is = of_some (record { offset = place / 8; size = size }) spot
        (sym (ap (λ (s : Spots). get s needle.key) (entered-live spots place needle.key size has.0 has.1) ∙ put_at spots needle.key (record { offset = place / 8; size = size }))
        ∙ subst (λ (n : ℕ). get (entered spots (entry_for place (Live needle))) n ≡ Some spot) (sym key_is) found)

    is : record { key = needle.key; offset = place / 8; size = size } ≡ entry_with (key, spot)
    is = λ i. entry_with (key_is i, spot_is i)

found_living : (place : ℕ) (spots : Spots) (items : List ReadItem) (key : ℕ) (spot : Spot) → AllByRecursion Sound items → get (indexed place spots items) key ≡ Some spot
    → Member (living place items) (entry_with (key, spot)) ⊎ ((get spots key ≡ Some spot) × (is_told_in items key ≡ false))
found_living place spots [] key spot sound found = inr (found, refl)
found_living place spots (read ∷ more) key spot sound found =
    next (found_living (place + read.taken) (entered spots (entry_for place read.item)) more key spot sound.1 found)
  where
    entry : IndexEntry
    entry = entry_for place read.item

    rest : List IndexEntry
    rest = living (place + read.taken) more

    by : (t : Bool) → nat_eq (key_of read.item) key ≡ t → get (entered spots entry) key ≡ Some spot → is_told_in more key ≡ false
        → Member (cond (lives_ahead_of read.item more) (entry ∷ rest) rest) (entry_with (key, spot)) ⊎ ((get spots key ≡ Some spot) × (cond t true (is_told_in more key) ≡ false))
    by true same at untold = inl (newest place spots read.item more rest key spot (sound.0).size same untold at)
    by false other at untold = inr (sym (item_other spots place read.item key other) ∙ at, untold)

    next : Member rest (entry_with (key, spot)) ⊎ ((get (entered spots entry) key ≡ Some spot) × (is_told_in more key ≡ false))
        → Member (cond (lives_ahead_of read.item more) (entry ∷ rest) rest) (entry_with (key, spot)) ⊎ ((get spots key ≡ Some spot) × (is_told_in (read ∷ more) key ≡ false))
    next (inl is) = inl (later (lives_ahead_of read.item more) entry (entry_with (key, spot)) rest is)
    next (inr is) = by (nat_eq (key_of read.item) key) refl is.0 is.1

-- ---- the order of an index

all_from : (pairs : List (ℕ × Spot)) (ys xs : List IndexEntry) → AllByRecursion (λ e. lookup (nat_eq e.key) pairs ≡ Some (record { offset = e.offset; size = e.size })) ys
    → AllByRecursion (Member xs) (map entry_with pairs) → AllByRecursion (Member xs) ys
all_from pairs [] xs found all = tt
all_from pairs (y ∷ ys) xs found all =
    (of_found pairs (Member xs) y.key (record { offset = y.offset; size = y.size }) all found.0, all_from pairs ys xs found.1 all)

found_all : (pairs : List (ℕ × Spot)) (spots : Spots) (ys : List IndexEntry) → from_entries pairs ≡ spots → AllByRecursion (IsIn spots) ys
    → AllByRecursion (λ e. lookup (nat_eq e.key) pairs ≡ Some (record { offset = e.offset; size = e.size })) ys
found_all pairs spots [] are all = tt
found_all pairs spots (y ∷ ys) are all = (looked_up y.key pairs ∙ ap (λ (s : Spots). get s y.key) are ∙ all.0, found_all pairs spots ys are all.1)

keys_with : (pairs : List (ℕ × Spot)) → map (λ (e : IndexEntry). e.key) (map entry_with pairs) ≡ keys_of pairs
keys_with [] = refl
keys_with (p ∷ pairs) = ap (λ (l : List ℕ). p.0 ∷ l) (keys_with pairs)

in_order : (items : List ReadItem) (entries : List IndexEntry) → AllByRecursion Sound items → AreEntriesOf (index_of items) entries → IsNonDecreasingBy (λ e. e.offset) entries
    → entries ≡ living 8 items
in_order items entries sound are order =
    let ys : List IndexEntry = living 8 items in
    let pairs = are.pairs in
    let rising : Rises ys = living_rise 8 items sound in
    let moved : IsPermutation (map entry_with pairs) entries = are.all in
    let there : AllByRecursion (Member ys) entries =
    recursion_from_All (Member ys) entries (All-permutation (Member ys) (map entry_with pairs) entries moved (All-from_recursion (Member ys) (map entry_with pairs)
    (to_each pairs are.apart (Member ys) (λ k s found. only k s (found_living 8 empty items k s sound (sym (ap (λ (m : Spots). get m k) are.are) ∙ sym (looked_up k pairs) ∙ found)))))) in
    let back : AllByRecursion (Member entries) ys =
    all_from pairs ys entries (found_all pairs (index_of items) ys are.are (living_in 8 empty items sound))
    (recursion_from_All (Member entries) (map entry_with pairs) (All-permutation (Member entries) entries (map entry_with pairs) (IsPermutation-sym _ _ moved)
    (All-from_recursion (Member entries) entries (itself entries)))) in
    let apart : IsDistinct nat_eq (map (λ e. e.key) entries) =
    IsDistinct-IsPermutation nat_eq turned (map (λ e. e.key) (map entry_with pairs)) (map (λ e. e.key) entries) (IsPermutation-map (λ e. e.key) (map entry_with pairs) entries moved)
    (subst (IsDistinct nat_eq) (sym (keys_with pairs)) are.apart) in
    same_lists entries ys (rises_too ys entries rising there order apart) rising there back
  where
    never : {s : Spot} → ◌≡◌ {A = Option Spot} None (Some s) → ⊥
    never e = cc

    only : (k : ℕ) (s : Spot) → Member (living 8 items) (entry_with (k, s)) ⊎ ((get (empty {X = Spot} {R = nat_cmp}) k ≡ Some s) × (is_told_in items k ≡ false)) → Member (living 8 items) (entry_with (k, s))
    only k s (inl is) = is
    only k s (inr is) = absurd (never (sym (get-empty nat_cmp k) ∙ is.0))

pub lie_in_order : (version : Version) (text : List ℕ) (items : List ReadItem) (entries : List IndexEntry) → AreBytes (take (end_of 8 items) text) → AreItems version text 8 items
    → AreEntriesOf (index_of items) entries → IsNonDecreasingBy (λ e. e.offset) entries → LieAt version text entries (live_of items)
lie_in_order version text items entries bytes are of order =
    subst (λ (xs : List IndexEntry). LieAt version text xs (live_of items))
    (sym (in_order items entries (all_sound version text (end_of 8 items) bytes 8 items (omega arith) are) of order))
    (living_lie version text (end_of 8 items) bytes 8 refl items (omega arith) are)
