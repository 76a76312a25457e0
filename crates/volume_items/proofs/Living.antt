-- The living items of a volume leave what all of them leave.
use Rattle.std.proofs.Common.{◌≡◌, ℕ, ◌⊎◌, inl, inr, Bool, true, false, cond, nat_eq, not, List, [], ◌∷◌, ◌++◌, Option, Some, None, refl, sym, ap, subst, ◌∙◌, arith}
use Rattle.std.specs.Cmp.{nat_cmp_total}
use Rattle.std.specs.FinMap.{empty, get, get-empty, get-insert, get-remove, insert, same_map, nat_cmp-IsAntisymmetric}
use Rattle.std.specs.Ordering.{nat_cmp}
use Rattle.std.proofs.lemmas.Bool.Decides.{nat_tests}
use Rattle.needle.specs.declared.item.Item.{Item}
use Rattle.needle.specs.declared.item.Item.TheVariants.{Live, Gone}
use Rattle.needle.specs.declared.item.Needle.{Needle}
use Rattle.needle.specs.declared.item.ReadItem.{ReadItem}
use Rattle.needle.specs.Item.{key_of}
use Rattle.needle_index.proofs.Maps.{tied, turned}
use Rattle.volume_items.specs.Contents.{Contents, contents_of, stored, stored_all}
use Rattle.volume_items.specs.Lives.{is_told_in, live_of, lives_ahead_of}

-- ---- what an item says of a key

-- what a needle or a deletion puts at its key
abbrev given : Item → Option Needle
given (Live needle) = Some needle
given (Gone cookie key) = None

stored_at : (contents : Contents) (item : Item) (key : ℕ) → get (stored contents item) key ≡ cond (nat_eq (key_of item) key) (given item) (get contents key)
stored_at contents (Live needle) key =
    get-insert nat_cmp_total contents needle.key needle key
    ∙ ap (λ (t : Bool). cond t (Some needle) (get contents key)) (tied key needle.key ∙ turned key needle.key)
stored_at contents (Gone cookie gone) key =
    get-remove nat_cmp_total contents gone key
    ∙ ap (λ (t : Bool). cond t None (get contents key)) (tied key gone ∙ turned key gone)

stored_other : (contents : Contents) (item : Item) (key : ℕ) → nat_eq (key_of item) key ≡ false → get (stored contents item) key ≡ get contents key
stored_other contents item key other = stored_at contents item key ∙ ap (λ (t : Bool). cond t (given item) (get contents key)) other

stored_same : (contents : Contents) (item : Item) (key : ℕ) → nat_eq (key_of item) key ≡ true → get (stored contents item) key ≡ given item
stored_same contents item key same = stored_at contents item key ∙ ap (λ (t : Bool). cond t (given item) (get contents key)) same

-- ---- all items and the living ones

-- What two maps may have at a key that items are to change.
abbrev Ready : List ReadItem → ℕ → Contents → Contents → Type 0
Ready items key all lives = ((is_told_in items key ≡ true) × (get lives key ≡ None)) ⊎ ((is_told_in items key ≡ false) × (get all key ≡ get lives key))

-- The second map behind the first item.
abbrev next_of : Item → List ReadItem → Contents → Contents
next_of item more lives = cond (lives_ahead_of item more) (stored lives item) lives

next_other : (item : Item) (more : List ReadItem) (key : ℕ) (lives : Contents) → nat_eq (key_of item) key ≡ false → get (next_of item more lives) key ≡ get lives key
next_other item more key lives other = elim (lives_ahead_of item more) as (λ b. get (cond b (stored lives item) lives) key ≡ get lives key) [
  | true ↦ stored_other lives item key other
  | false ↦ refl
]

same_key : (a b : ℕ) → nat_eq a b ≡ true → a ≡ b
same_key a b same = grind (arith, nat_tests, same)

-- an item of which a later one tells doesn't stay
dead : (item : Item) (more : List ReadItem) → is_told_in more (key_of item) ≡ true → lives_ahead_of item more ≡ false
dead (Live needle) more told = ap not told
dead (Gone cookie key) more told = refl

-- the last one of its key
last : (item : Item) (more : List ReadItem) (key : ℕ) (lives : Contents) → nat_eq (key_of item) key ≡ true → is_told_in more (key_of item) ≡ false → get lives key ≡ None
    → get (next_of item more lives) key ≡ given item
last (Live needle) more key lives same untold none = ap (λ (b : Bool). get (cond b (insert lives needle.key needle) lives) key) (ap not untold) ∙ stored_same lives (Live needle) key same
last (Gone cookie gone) more key lives same untold none = none

here : (item : Item) (more : List ReadItem) (key : ℕ) (all lives : Contents) → nat_eq (key_of item) key ≡ true → get lives key ≡ None
    → (t : Bool) → is_told_in more (key_of item) ≡ t → Ready more key (stored all item) (next_of item more lives)
here item more key all lives same none true told =
    inl (
      subst (λ (k : ℕ). is_told_in more k ≡ true) (same_key (key_of item) key same) told,
      ap (λ (b : Bool). get (cond b (stored lives item) lives) key) (dead item more told) ∙ none,
    )
here item more key all lives same none false untold =
    inr (
      subst (λ (k : ℕ). is_told_in more k ≡ false) (same_key (key_of item) key same) untold,
      stored_same all item key same ∙ sym (last item more key lives same untold none),
    )

step : (item : Item) (more : List ReadItem) (key : ℕ) (all lives : Contents) (t : Bool) → nat_eq (key_of item) key ≡ t
    → ((cond t true (is_told_in more key) ≡ true) × (get lives key ≡ None)) ⊎ ((cond t true (is_told_in more key) ≡ false) × (get all key ≡ get lives key))
    → Ready more key (stored all item) (next_of item more lives)
step item more key all lives true same (inl told) = here item more key all lives same told.1 (is_told_in more (key_of item)) refl
step item more key all lives true same (inr untold) = absurd (never untold.0)
  where
    never : true ≡ false → ⊥
    never e = cc
step item more key all lives false other (inl told) = inl (told.0, next_other item more key lives other ∙ told.1)
step item more key all lives false other (inr untold) = inr (untold.0, stored_other all item key other ∙ untold.1 ∙ sym (next_other item more key lives other))

lives_store : (items : List ReadItem) (key : ℕ) (all lives : Contents) → Ready items key all lives → get (stored_all lives (live_of items)) key ≡ get (stored_all all items) key
lives_store [] key all lives (inl told) = absurd (never told.0)
  where
    never : false ≡ true → ⊥
    never e = cc
lives_store [] key all lives (inr untold) = sym untold.1
lives_store (read ∷ more) key all lives ready =
    split (lives_ahead_of read.item more) ∙ lives_store more key (stored all read.item) (next_of read.item more lives) (step read.item more key all lives (nat_eq (key_of read.item) key) refl ready)
  where
    split : (b : Bool) → get (stored_all lives (cond b (read ∷ live_of more) (live_of more))) key ≡ get (stored_all (cond b (stored lives read.item) lives) (live_of more)) key
    split true = refl
    split false = refl

none_yet : (items : List ReadItem) (key : ℕ) (t : Bool) → is_told_in items key ≡ t → Ready items key (empty {X = Needle} {R = nat_cmp}) (empty {X = Needle} {R = nat_cmp})
none_yet items key true told = inl (told, get-empty nat_cmp key)
none_yet items key false untold = inr (untold, refl)

pub lives_leave_all : (items : List ReadItem) → contents_of (live_of items) ≡ contents_of items
lives_leave_all items = same_map nat_cmp_total nat_cmp-IsAntisymmetric _ _ (λ key. lives_store items key empty empty (none_yet items key (is_told_in items key) refl))

pub stored-joined : (contents : Contents) (first more : List ReadItem) → stored_all contents (first ++ more) ≡ stored_all (stored_all contents first) more
stored-joined contents [] more = refl
stored-joined contents (read ∷ first) more = stored-joined (stored contents read.item) first more

pub vacuumed : (begun since : List ReadItem) → contents_of (live_of begun ++ since) ≡ contents_of (begun ++ since)
vacuumed begun since =
    stored-joined empty (live_of begun) since ∙ ap (λ (c : Contents). stored_all c since) (lives_leave_all begun) ∙ sym (stored-joined empty begun since)
