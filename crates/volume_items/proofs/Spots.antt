-- The index of a text's items leads to what they hold.
use Rattle.std.proofs.Common.{◌≡◌, ℕ, ◌+◌, ◌-◌, ◌*◌, ◌/◌, ◌%◌, ◌^◌, ◌<◌, ◌≤◌, Bool, true, false, cond, nat_eq, List, [], ◌∷◌, length, take, drop, Option, Some, None, Ok, refl, sym, ap, subst, ◌∙◌, arith}
use Rattle.std.specs.Prelude.{IfSome}
use Rattle.std.specs.Cmp.{nat_cmp_total}
use Rattle.std.specs.FinMap.{empty, get, get-empty, get-insert, get-remove, insert, remove, nat_cmp-IsAntisymmetric}
use Rattle.std.specs.Ordering.{nat_cmp, eq_by_cmp}
use Rattle.std.proofs.lemmas.Bool.Decides.{nat_tests}
use Rattle.std.proofs.lemmas.List.{drop-take, length-append, take-take}
use Rattle.std.proofs.lemmas.Map.Views.{tells_apart}
use Rattle.needle.specs.declared.item.Item.{Item}
use Rattle.needle.specs.declared.item.Item.TheVariants.{Live, Gone}
use Rattle.needle.specs.declared.item.Needle.{Needle}
use Rattle.needle.specs.declared.item.ReadItem.{ReadItem}
use Rattle.needle.specs.declared.version.Version.{Version}
use Rattle.needle.specs.Answer.{BeginsWith, IsItem}
use Rattle.needle.specs.Fields.{AreBytes}
use Rattle.needle.specs.Item.{IsNeedle, body_of, content, five_bytes, long_text, part, parts_text, short_text}
use Rattle.needle.specs.Reading.{read_at}
use Rattle.needle.proofs.Codecs.{IsBytes-drop, IsBytes-take}
use Rattle.needle.proofs.Followed.{read_whole, read_within}
use Rattle.needle.proofs.Verdicts.{read_exactly}
use Rattle.needle_index.specs.declared.spot.Spot.{Spot}
use Rattle.needle_index.specs.Index.{Spots}
use Rattle.needle_index.specs.Text.{entered, entry_at, entry_for, removal}
use Rattle.volume_items.specs.Contents.{AreItems, Contents, HoldsAt, contents_of, end_of, index_of, indexed, most_data, stored, stored_all}
use Rattle.volume_items.specs.Spots.{IsAt, Leads}
use Rattle.volume_items.proofs.Appended.{end-least}

-- ---- how long a needle can be

short-most : (bytes : Option (List ℕ)) → IfSome bytes (λ bytes. length bytes < 2 ^ 8) → length (part short_text bytes) ≤ 256
short-most None fits = omega arith
short-most (Some bytes) fits = omega arith

long-most : (bytes : Option (List ℕ)) → IfSome bytes (λ bytes. length bytes < 2 ^ 16) → length (part long_text bytes) ≤ 65537
long-most None fits = omega arith
long-most (Some bytes) fits = omega arith

five-most : (seconds : Option ℕ) → length (part five_bytes seconds) ≤ 5
five-most None = omega arith
five-most (Some seconds) = omega arith

two-most : (ttl : Option (List ℕ)) → IfSome ttl (λ ttl. length ttl ≡ 2) → length (part (λ ttl. ttl) ttl) ≤ 2
two-most None fits = omega arith
two-most (Some ttl) fits = omega (arith, fits)

parts-most : (needle : Needle) → IsNeedle needle → length (parts_text needle) ≤ 66056
parts-most needle fits =
    let name = short-most needle.name fits.name in
    let mime = short-most needle.mime fits.mime in
    let modified = five-most needle.modified in
    let ttl = two-most needle.ttl fits.ttl in
    let pairs = long-most needle.pairs fits.pairs in
    simp length-append (omega arith)

pub needle-length : (needle : Needle) → IsNeedle needle → length (content (Live needle)) ≡ 5 + length needle.body + length (parts_text needle)
needle-length needle fits = simp length-append (omega arith)

pub needle-most : (needle : Needle) → IsNeedle needle → length (content (Live needle)) ≤ length needle.body + 66061
needle-most needle fits = let most = parts-most needle fits in let len = needle-length needle fits in omega arith

-- ---- what an item makes of index and contents

pub not_none : (n : ℕ) → 0 < n → nat_eq n 0 ≡ false
not_none n least = grind (arith, nat_tests)

no_removal : (n : ℕ) → n < 2 ^ 32 - 1 → nat_eq n (2 ^ 32 - 1) ≡ false
no_removal n most = grind (arith, nat_tests)

pub entered-live : (spots : Spots) (place key size : ℕ) → 0 < size → size < 2 ^ 32 - 1
    → entered spots (entry_at place key size) ≡ insert spots key (record { offset = place / 8; size = size })
entered-live spots place key size least most =
    ap (λ (b : Bool). entered spots (cond b (removal key (place / 8)) (record { key = key; offset = place / 8; size = size }))) (not_none size least)
    ∙ ap (λ (b : Bool). cond b (remove spots key) (insert spots key (record { offset = place / 8; size = size }))) (no_removal size most)

pub entered-gone : (spots : Spots) (place key : ℕ) → entered spots (entry_at place key 0) ≡ remove spots key
entered-gone spots place key = refl

put_leads : (version : Version) (text : List ℕ) (key k : ℕ) (spots : Spots) (contents : Contents) (spot : Spot) (needle : Needle)
    → (key ≡ k → IsAt version text key spot needle) → Leads version text key (get spots key) (get contents key)
    → Leads version text key (get (insert spots k spot) key) (get (insert contents k needle) key)
put_leads version text key k spots contents spot needle now before =
    subst (λ o. Leads version text key o (get (insert contents k needle) key)) (sym (get-insert nat_cmp_total spots k spot key))
    (subst (λ o. Leads version text key (cond (eq_by_cmp nat_cmp key k) (Some spot) (get spots key)) o) (sym (get-insert nat_cmp_total contents k needle key))
    (elim (eq_by_cmp nat_cmp key k) as (λ t. eq_by_cmp nat_cmp key k ≡ t
    → Leads version text key (cond t (Some spot) (get spots key)) (cond t (Some needle) (get contents key))) [
      | true ↦ λ same. now (tells_apart nat_cmp-IsAntisymmetric key k same)
      | false ↦ λ _. before
    ] refl))

remove_leads : (version : Version) (text : List ℕ) (key k : ℕ) (spots : Spots) (contents : Contents) → Leads version text key (get spots key) (get contents key)
    → Leads version text key (get (remove spots k) key) (get (remove contents k) key)
remove_leads version text key k spots contents before =
    subst (λ o. Leads version text key o (get (remove contents k) key)) (sym (get-remove nat_cmp_total spots k key))
    (subst (λ o. Leads version text key (cond (eq_by_cmp nat_cmp key k) None (get spots key)) o) (sym (get-remove nat_cmp_total contents k key))
    (elim (eq_by_cmp nat_cmp key k) as (λ t. Leads version text key (cond t None (get spots key)) (cond t None (get contents key))) [
      | true ↦ tt
      | false ↦ before
    ]))

-- ---- over all items

pub taken_again : (place count end : ℕ) (text : List ℕ) → place + count ≤ end → take count (drop place text) ≡ take count (drop place (take end text))
taken_again place count end text ends =
    let back : place + (end - place) ≡ end = omega arith in
    sym (ap (take count) (ap (λ (n : ℕ). drop place (take n text)) (sym back) ∙ drop-take place (end - place) text) ∙ take-take count (end - place) (drop place text) (omega arith))

pub taken_eights : (version : Version) (text : List ℕ) (place : ℕ) (read : ReadItem) → HoldsAt version text place read → place % 8 ≡ 0 → (place + read.taken) % 8 ≡ 0
taken_eights version text place read held eights =
    let whole = (read_whole version (drop place text) read held.is_read).0 in
    omega (arith, whole)

pub bytes_there : (text : List ℕ) (place count end : ℕ) → AreBytes (take end text) → place + count ≤ end → AreBytes (take count (drop place text))
bytes_there text place count end bytes ends =
    subst AreBytes (sym (taken_again place count end text ends)) (IsBytes-take count (drop place (take end text)) (IsBytes-drop place (take end text) bytes))

-- the item alone, which ends before a place up to which all are bytes
pub begun : (version : Version) (text : List ℕ) (place : ℕ) (read : ReadItem) (end : ℕ) → AreBytes (take end text) → place + read.taken ≤ end → HoldsAt version text place read
    → BeginsWith version (take read.taken (drop place text)) read
begun version text place read end bytes ends held =
    let within : read_at version (take read.taken (drop place text)) ≡ Ok read = read_within version (drop place text) read.taken read held.is_read (omega arith) in
    (read_exactly version (take read.taken (drop place text)) read (bytes_there text place read.taken end bytes ends)).0 within

item_leads : (version : Version) (text : List ℕ) (place : ℕ) (read : ReadItem) (end : ℕ) → AreBytes (take end text) → place + read.taken ≤ end → HoldsAt version text place read
    → place % 8 ≡ 0 → (item : Item) → read.item ≡ item
    → (spots : Spots) (contents : Contents) (key : ℕ) → Leads version text key (get spots key) (get contents key)
    → Leads version text key (get (entered spots (entry_for place item)) key) (get (stored contents item) key)
item_leads version text place read end bytes ends held eights (Gone cookie k) is spots contents key before = remove_leads version text key k spots contents before
item_leads version text place read end bytes ends held eights (Live needle) is spots contents key before =
    let fits : IsNeedle needle = subst IsItem is (begun version text place read end bytes ends held).item in
    let small : length needle.body ≤ most_data = subst (λ (i : Item). length (body_of i) ≤ most_data) is held.small in
    let len = needle-length needle fits in
    let most = needle-most needle fits in
    let size : ℕ = length (content (Live needle)) in
    let here : place ≡ 8 * (place / 8) = omega arith in
    subst (λ s. Leads version text key (get s key) (get (insert contents needle.key needle) key))
    (sym (entered-live spots place needle.key size (omega arith) (omega arith)))
    (put_leads version text key needle.key spots contents (record { offset = place / 8; size = size }) needle
    (λ same. record { read = read; held = subst (λ (n : ℕ). HoldsAt version text n read) here held; item = is; of_key = sym same; size = refl; bytes = subst (λ (n : ℕ). AreBytes (take read.taken (drop n text))) here (bytes_there text place read.taken end bytes ends) }) before)

pub all_lead : (version : Version) (text : List ℕ) (end : ℕ) → AreBytes (take end text) → (place : ℕ) → place % 8 ≡ 0 → (items : List ReadItem) → end_of place items ≤ end
    → AreItems version text place items
    → (spots : Spots) (contents : Contents) → ((key : ℕ) → Leads version text key (get spots key) (get contents key))
    → (key : ℕ) → Leads version text key (get (indexed place spots items) key) (get (stored_all contents items) key)
all_lead version text end bytes place eights [] ends are spots contents before key = before key
all_lead version text end bytes place eights (read ∷ more) ends are spots contents before key =
    let least = end-least (place + read.taken) more in
    all_lead version text end bytes (place + read.taken) (taken_eights version text place read are.0 eights) more ends are.1
    (entered spots (entry_for place read.item)) (stored contents read.item)
    (λ k. item_leads version text place read end bytes (omega arith) are.0 eights read.item refl spots contents k (before k)) key

pub index_leads : (version : Version) (text : List ℕ) (items : List ReadItem) (key : ℕ) → AreBytes (take (end_of 8 items) text) → AreItems version text 8 items
    → Leads version text key (get (index_of items) key) (get (contents_of items) key)
index_leads version text items key bytes are =
    all_lead version text (end_of 8 items) bytes 8 refl items (omega arith) are empty empty
    (λ k. subst (λ o. Leads version text k o (get {R = nat_cmp} (empty {X = Needle} {R = nat_cmp}) k)) (sym (get-empty nat_cmp k)) (subst (λ (o : Option Needle). Leads version text k None o) (sym (get-empty nat_cmp k)) tt)) key
