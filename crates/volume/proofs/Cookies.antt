-- The cookie under which a key is held.
use Rattle.std.proofs.Common.{◌≡◌, ℕ, ◌*◌, List, length, take, drop, refl, sym, ap, subst, ◌∙◌, arith, Option, Some, None}
use Rattle.std.specs.Prelude.{IfSome}
use Rattle.std.specs.Option.{option_map}
use Rattle.std.specs.FinMap.{get}
use Rattle.std.specs.Int.{w32, from_be_bytes}
use Rattle.std.proofs.lemmas.List.{take_all, length-drop}
use Rattle.weed_base.specs.Files.{Files, ReadsAt, content}
use Rattle.needle.specs.Fields.{size_in}
use Rattle.needle.specs.Item.{cookie_of}
use Rattle.needle.specs.declared.item.Needle.{Needle}
use Rattle.needle.specs.declared.item.ReadItem.{ReadItem}
use Rattle.needle.specs.declared.version.Version.{Version}
use Rattle.needle.proofs.Followed.{read_whole}
use Rattle.needle.proofs.Verdicts.{begun_places}
use Rattle.needle_index.specs.declared.spot.Spot.{Spot}
use Rattle.volume_items.specs.Contents.{contents_of}
use Rattle.volume_items.specs.FileNames.{name_of}
use Rattle.volume.specs.Holds.{Holds}
use Rattle.volume_items.specs.Spots.{Leads}
use Rattle.volume.specs.Writes.{cookie_in}
use Rattle.volume_items.specs.declared.file_names.Part.TheVariants.{Items}
use Rattle.volume.specs.declared.held.Volume.{Volume}
use Rattle.volume.proofs.Found.{led, told_none}
use Rattle.volume_items.proofs.Judged.{begun_there, least_taken}

no_cookie : (held : Option Needle) → held ≡ None → None ≡ option_map (λ needle. needle.cookie) held
no_cookie held is = subst (λ o. None ≡ option_map (λ needle. needle.cookie) o) (sym is) refl

pub told_no_cookie : (told : Option Files) (volume : Volume) (key : ℕ) → get volume.index.spots key ≡ None
    → IfSome told (λ files. (items : List ReadItem) → Holds volume items files → None ≡ cookie_in (contents_of items) key)
told_no_cookie None volume key none = tt
told_no_cookie (Some files) volume key none = λ items holds. no_cookie (get (contents_of items) key) (told_none (Some files) volume key none items holds)

read_cookie : (version : Version) (text room : List ℕ) (key count : ℕ) (spot : Spot) (held : Option Needle) → Leads version text key (Some spot) held → length room ≡ 4
    → ReadsAt text (8 * spot.offset) count room → Some (from_be_bytes w32 room) ≡ option_map (λ needle. needle.cookie) held
read_cookie version text room key count spot None leads four reads = absurd leads
read_cookie version text room key count spot (Some needle) leads four reads =
    let here = drop (8 * spot.offset) text in
    let begun = begun_there version text (8 * spot.offset) leads.read leads.bytes leads.held in
    let places = begun_places version here leads.read begun in
    let whole = (read_whole version here leads.read (leads.held).is_read).1 in
    let least = least_taken version (size_in here) in
    let all : count ≡ 4 = omega (arith, reads.0, four, least, whole, length-drop (8 * spot.offset) text) in
    let same : room ≡ take 4 here =
    sym (take_all 4 room (omega (arith, four))) ∙ ap (λ (n : ℕ). take n room) (sym all) ∙ reads.1 ∙ ap (λ (n : ℕ). take n here) all in
    ap Some (ap (from_be_bytes w32) same ∙ places.cookie_is ∙ ap cookie_of leads.item)

pub told_cookie : (told : Option Files) (volume : Volume) (key count at : ℕ) (spot : Spot) (name room : List ℕ) → get volume.index.spots key ≡ Some spot → name ≡ name_of volume.id Items
    → at ≡ 8 * spot.offset → length room ≡ 4 → IfSome told (λ files. ReadsAt (content files name) at count room)
    → IfSome told (λ files. (items : List ReadItem) → Holds volume items files → Some (from_be_bytes w32 room) ≡ cookie_in (contents_of items) key)
told_cookie None volume key count at spot name room is named here four reads = tt
told_cookie (Some files) volume key count at spot name room is named here four reads = λ items holds.
    read_cookie volume.block.version (content files (name_of volume.id Items)) room key count spot (get (contents_of items) key)
    (subst (λ o. Leads volume.block.version (content files (name_of volume.id Items)) key o (get (contents_of items) key)) is (led volume items files key holds)) four
    (subst (λ (n : ℕ). ReadsAt (content files (name_of volume.id Items)) n count room) here (subst (λ (n : List ℕ). ReadsAt (content files n) at count room) named reads))
