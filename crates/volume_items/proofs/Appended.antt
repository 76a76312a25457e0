-- An item behind the last one.
use Rattle.std.proofs.Common.{◌≡◌, ℕ, ◌+◌, ◌≤◌, max, List, [], ◌∷◌, ◌++◌, length, drop, Result, Ok, Err, refl, sym, ap, subst, ◌∙◌, arith}
use Rattle.std.proofs.lemmas.List.{drop-append-le, length-append, length-drop, nil_from_length}
use Rattle.needle.specs.declared.fault.NeedleFault.{NeedleFault}
use Rattle.needle.specs.declared.fault.NeedleFault.TheVariants.{Truncated}
use Rattle.needle.specs.declared.item.ReadItem.{ReadItem}
use Rattle.needle.specs.declared.version.Version.{Version}
use Rattle.needle.specs.declared.version.Version.TheVariants.{V2, V3}
use Rattle.needle.specs.Item.{key_of}
use Rattle.needle.specs.Reading.{read_at}
use Rattle.needle.proofs.Followed.{read_followed}
use Rattle.needle_index.specs.Index.{Spots}
use Rattle.needle_index.specs.Text.{entered, entry_for}
use Rattle.volume_items.specs.Contents.{HoldsAt, AreItems, end_of, Contents, stored, stored_all, indexed, greatest_of}

pub end-least : (place : ℕ) (items : List ReadItem) → place ≤ end_of place items
end-least place [] = omega arith
end-least place (read ∷ more) = let rest = end-least (place + read.taken) more in omega (arith, rest)

nothing_read : (version : Version) → read_at version [] ≡ Err Truncated
unfolding read_at
nothing_read V2 = refl
nothing_read V3 = refl

pub none_past : (version : Version) (text : List ℕ) (place : ℕ) → length text ≤ place → AreItems version text place []
none_past version text place past = λ read held.
    let nothing : drop place text ≡ [] = nil_from_length (drop place text) (omega (arith, length-drop place text)) in
    never read (sym (nothing_read version) ∙ ap (read_at version) (sym nothing) ∙ held.is_read)
  where
    never : (read : ReadItem) → Err Truncated ≡ Ok read → ⊥
    never read e = cc

held_on : (version : Version) (text more : List ℕ) (place : ℕ) (read : ReadItem) → place ≤ length text → HoldsAt version text place read → HoldsAt version (text ++ more) place read
held_on version text more place read inside held = record {
  is_read = ap (read_at version) (drop-append-le place text more inside) ∙ read_followed version (drop place text) more read held.is_read;
  small = held.small;
  within = held.within;
}

-- The items of a text that they fill, with one behind them.
pub items_appended : (version : Version) (text piece : List ℕ) (place : ℕ) (items : List ReadItem) (read : ReadItem) → AreItems version text place items → length text ≡ end_of place items
    → HoldsAt version (text ++ piece) (length text) read → read.taken ≡ length piece → AreItems version (text ++ piece) place (items ++ read ∷ [])
items_appended version text piece place [] read are end held taken = (
  subst (λ (n : ℕ). HoldsAt version (text ++ piece) n read) end held,
  none_past version (text ++ piece) (place + read.taken) (omega (arith, length-append text piece)),
)
items_appended version text piece place (first ∷ items) read are end held taken =
    let least = end-least (place + first.taken) items in (
      held_on version text piece place first (omega arith) are.0,
      items_appended version text piece (place + first.taken) items read are.1 end held taken,
    )

pub end-appended : (place : ℕ) (items : List ReadItem) (read : ReadItem) → end_of place (items ++ read ∷ []) ≡ end_of place items + read.taken
end-appended place [] read = refl
end-appended place (first ∷ items) read = end-appended (place + first.taken) items read

pub stored-appended : (contents : Contents) (items : List ReadItem) (read : ReadItem) → stored_all contents (items ++ read ∷ []) ≡ stored (stored_all contents items) read.item
stored-appended contents [] read = refl
stored-appended contents (first ∷ items) read = stored-appended (stored contents first.item) items read

pub indexed-appended : (place : ℕ) (spots : Spots) (items : List ReadItem) (read : ReadItem)
    → indexed place spots (items ++ read ∷ []) ≡ entered (indexed place spots items) (entry_for (end_of place items) read.item)
indexed-appended place spots [] read = refl
indexed-appended place spots (first ∷ items) read = indexed-appended (place + first.taken) (entered spots (entry_for place first.item)) items read

pub greatest-appended : (greatest : ℕ) (items : List ReadItem) (read : ReadItem) → greatest_of greatest (items ++ read ∷ []) ≡ max (greatest_of greatest items) (key_of read.item)
greatest-appended greatest [] read = refl
greatest-appended greatest (first ∷ items) read = greatest-appended (max greatest (key_of first.item)) items read

-- ---- a text has its items alone

same_read : (version : Version) (text : List ℕ) (place : ℕ) (a b : ReadItem) → HoldsAt version text place a → HoldsAt version text place b → a ≡ b
same_read version text place a b one two = same (sym one.is_read ∙ two.is_read)
  where
    same : ◌≡◌ {A = Result ReadItem NeedleFault} (Ok a) (Ok b) → a ≡ b
    same e = cc

pub items_unique : (version : Version) (text : List ℕ) (place : ℕ) (a b : List ReadItem) → AreItems version text place a → AreItems version text place b → a ≡ b
items_unique version text place [] [] one two = refl
items_unique version text place [] (read ∷ more) one two = absurd (one read two.0)
items_unique version text place (read ∷ more) [] one two = absurd (two read one.0)
items_unique version text place (x ∷ xs) (y ∷ ys) one two =
    let first : x ≡ y = same_read version text place x y one.0 two.0 in
    let rest : xs ≡ ys = items_unique version text (place + x.taken) xs ys one.1 (subst (λ (r : ReadItem). AreItems version text (place + r.taken) ys) (sym first) two.1) in
    λ i. first i ∷ rest i
