-- The needles of an index lie before its volume's end.
use Rattle.std.proofs.Common.{◌≡◌, ℕ, ◌+◌, ◌/◌, ◌≤◌, Bool, true, false, cond, nat_eq, sym, ap, subst, ◌∙◌, arith, Result, Ok, Err}
use Rattle.std.specs.Prelude.{IsOk, OnOk}
use Rattle.std.specs.FinMap.{empty, insert, remove}
use Rattle.needle.specs.Layout.{padded}
use Rattle.needle.specs.declared.version.Version.{Version}
use Rattle.needle_index.specs.Bytes.{live}
use Rattle.needle_index.specs.Index.{Spots}
use Rattle.needle_index.specs.Text.{entered, entry_at, is_removal, removal}
use Rattle.needle_index.specs.declared.entry.IndexEntry.{IndexEntry}
use Rattle.needle_index.specs.declared.spot.Spot.{Spot}
use Rattle.needle_index.proofs.Sums.{sum_of-empty, sum_of-insert, sum_of-remove}
use Rattle.volume_items.specs.Garbage.{Fit, IsEntryOf}

live_put : (version : Version) (spots : Spots) (key : ℕ) (spot : Spot) → live version (insert spots key spot) ≤ live version spots + padded version spot.size
live_put version spots key spot = omega (arith, sum_of-insert (λ s. padded version s.size) spots key spot)

live_removed : (version : Version) (spots : Spots) (key : ℕ) → live version (remove spots key) ≤ live version spots
live_removed version spots key = omega (arith, sum_of-remove (λ s. padded version s.size) spots key)

-- any entry
live_of : (version : Version) (spots : Spots) (entry : IndexEntry) (removes : Bool)
    → live version (cond removes (remove spots entry.key) (insert spots entry.key (record { offset = entry.offset; size = entry.size }))) ≤ live version spots + padded version entry.size
live_of version spots entry true = omega (arith, live_removed version spots entry.key)
live_of version spots entry false = live_put version spots entry.key (record { offset = entry.offset; size = entry.size })

-- the entry of an item
live_at : (version : Version) (spots : Spots) (place key size : ℕ) → live version (entered spots (entry_at place key size)) ≤ live version spots + padded version size
live_at version spots place key size =
    elim (nat_eq size 0) as (λ none. live version (entered spots (cond none (removal key (place / 8)) (record { key = key; offset = place / 8; size = size }))) ≤ live version spots + padded version size) [
      | true ↦ omega (arith, live_removed version spots key)
      | false ↦ live_of version spots (record { key = key; offset = place / 8; size = size }) (is_removal (record { key = key; offset = place / 8; size = size }))
    ]

pub fits_on : (version : Version) (old new : Spots) (end place taken : ℕ) (entry : IndexEntry) → IsEntryOf version place taken entry → new ≡ entered old entry → Fit version old end → Fit version new (end + taken)
fits_on version old new end place taken entry of is fits =
    let more : live version new ≤ live version old + taken =
    subst (λ (n : ℕ). live version new ≤ live version old + n) (sym of.taken_is)
    (subst (λ (spots : Spots). live version spots ≤ live version old + padded version of.size) (sym (is ∙ ap (entered old) of.entry_is)) (live_at version old place of.key of.size)) in
    omega (arith, more, fits)

pub fits_none : (version : Version) (spots : Spots) → spots ≡ empty → Fit version spots 8
fits_none version spots is =
    let none : live version spots ≡ 0 = ap (live version) is ∙ sum_of-empty (λ s. padded version s.size) in
    omega (arith, none)

pub done : {T E P : Type 0} (result : Result T E) → IsOk result → OnOk result P → P
done (Ok value) is fact = fact
done (Err fault) is fact = absurd (not_ok is)
  where
    not_ok : ◌≡◌ {A = Bool} false true → ⊥
    not_ok e = cc
