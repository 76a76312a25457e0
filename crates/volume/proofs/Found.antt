-- What a read of a needle gives.
use Rattle.std.proofs.Common.{◌≡◌, ℕ, ◌*◌, ◌<◌, ◌≤◌, Bool, true, List, [], ◌++◌, length, take, drop, refl, sym, ap, subst, ◌∙◌, arith, Option, Some, None, Result, Ok, Err, inl, inr, eq-eqb}
use Rattle.std.specs.Prelude.{IfSome, IsTrue, ◌↔◌, unwrap_or}
use Rattle.std.specs.Int.{w32, w64, from_be_bytes}
use Rattle.std.specs.FinMap.{get}
use Rattle.std.proofs.Math.Dec.{eqb}
use Rattle.std.proofs.lemmas.Bool.{cases_lt, eqb-true}
use Rattle.std.proofs.lemmas.List.{append-nil}
use Rattle.weed_base.specs.Files.{Files, content}
use Rattle.needle.specs.declared.fault.NeedleFault.{NeedleFault}
use Rattle.needle.specs.declared.fault.NeedleFault.TheVariants.{Truncated, ChecksumMismatch}
use Rattle.needle.specs.declared.head.Head.{Head}
use Rattle.needle.specs.declared.item.Item.TheVariants.{Live}
use Rattle.needle.specs.declared.item.Item.{Item}
use Rattle.needle.specs.declared.item.Needle.{Needle}
use Rattle.needle.specs.declared.item.ReadItem.{ReadItem}
use Rattle.needle.specs.declared.version.Version.{Version}
use Rattle.needle.specs.Fields.{size_in, eight_at}
use Rattle.needle.specs.Item.{content as item_content, key_of}
use Rattle.needle.specs.Layout.{padded}
use Rattle.needle.specs.Pieces.{IsHead}
use Rattle.needle.specs.Reading.{read_at}
use Rattle.needle.proofs.Followed.{read_whole, read_within}
use Rattle.needle.proofs.Verdicts.{begun_places, read_at-truncated}
use Rattle.needle_index.specs.declared.spot.Spot.{Spot}
use Rattle.volume_items.specs.Contents.{contents_of}
use Rattle.volume.specs.Holds.{Holds}
use Rattle.volume.specs.Reads.{MayFailToRead, IsNeedleOf, IsNoItem, IsDamage, Gets, YieldsOr, TellsOf, ReadsFrom, YieldsAt, Yields, bytes_at}
use Rattle.volume_items.specs.Spots.{IsAt, Leads}
use Rattle.volume_items.specs.declared.fault.VolumeFault.{VolumeFault}
use Rattle.volume_items.specs.declared.fault.VolumeFault.TheVariants.{DiskFault, Broken, AlreadyThere, NotThere, BadSuper, NotHeld, WrongCookie, EmptyData, TooLarge, VolumeFull, ReadOnly, NoVacuum, InVacuum, RevisionAtEnd, Damaged, Memory}
use Rattle.volume_items.specs.declared.file_names.Part.TheVariants.{Items}
use Rattle.volume.specs.declared.held.Volume.{Volume}
use Rattle.volume_items.specs.FileNames.{name_of}
use Rattle.volume_items.proofs.Judged.{begun_there, least_taken}
use Rattle.volume_items.proofs.Spots.{index_leads, taken_again}

-- ---- what bytes tell of

head_of : (text : List ℕ) (head : Head) → ((rest : List ℕ) → IsHead (text ++ rest) head) → IsHead text head
head_of text head begins = subst (λ (t : List ℕ). IsHead t head) (append-nil text) (begins [])

pub told_size : (text : List ℕ) (head : Head) (key size : ℕ) → ((rest : List ℕ) → IsHead (text ++ rest) head) → head.key ≡ key → 20 ≤ length text
    → IsTrue (eqb head.size size) ↔ ((20 ≤ length text) × TellsOf key size text)
told_size text head key size begins same long =
    let h = head_of text head begins in (
      λ yes. (long, (sym h.key ∙ same, sym h.size ∙ eqb-true head.size size yes)),
      λ it. eq-eqb head.size size (h.size ∙ it.1.1),
    )

pub other_key : (text : List ℕ) (head : Head) (key size : ℕ) → ((rest : List ℕ) → IsHead (text ++ rest) head) → (head.key ≡ key → ⊥)
    → IsTrue (eqb head.key key) ↔ ((20 ≤ length text) × TellsOf key size text)
other_key text head key size begins other =
    let h = head_of text head begins in (λ yes. absurd (other (eqb-true head.key key yes)), λ it. absurd (other (h.key ∙ it.1.0)))

-- ---- bytes that are no item

short_unread : (version : Version) (text : List ℕ) → length text < 20 → read_at version text ≡ Err Truncated
short_unread version text short = let least = least_taken version (size_in text) in read_at-truncated version text (omega arith)

pub not_told : (version : Version) (text : List ℕ) (key size : ℕ) (tells : Bool) → IsTrue tells ↔ ((20 ≤ length text) × TellsOf key size text) → (tells ≡ true → ⊥)
    → IsNoItem version text key size
not_told version text key size tells is differ = record {
  unread = λ needle it. elim (cases_lt (length text) 20) [
    | inl short ↦ never it.read (sym (short_unread version text short) ∙ it.is_read)
    | inr long ↦ differ (is.1 (long, it.tells))
  ];
  unlike = λ stored computed it. elim (cases_lt (length text) 20) [
    | inl short ↦ never_sum (sym (short_unread version text short) ∙ it.1)
    | inr long ↦ differ (is.1 (long, it.0))
  ];
}
  where
    never : (read : ReadItem) → ◌≡◌ {A = Result ReadItem NeedleFault} (Err Truncated) (Ok read) → ⊥
    never read e = cc

    never_sum : {stored computed : ℕ} → ◌≡◌ {A = Result ReadItem NeedleFault} (Err Truncated) (Err (ChecksumMismatch stored computed)) → ⊥
    never_sum e = cc

-- ---- the needle at a spot

-- A held needle's bytes give it.
pub found_at : (version : Version) (text : List ℕ) (key : ℕ) (spot : Spot) (needle : Needle) → IsAt version text key spot needle
    → IsNeedleOf version (bytes_at version text spot) key spot.size needle
found_at version text key spot needle at =
    let here = drop (8 * spot.offset) text in
    let begun = begun_there version text (8 * spot.offset) at.read at.bytes at.held in
    let places = begun_places version here at.read begun in
    let whole = read_whole version here at.read (at.held).is_read in
    let size : size_in here ≡ spot.size = places.size_is ∙ ap (λ (i : Item). length (item_content i)) at.item ∙ sym at.size in
    let key_is : eight_at 4 here ≡ key = places.key_is ∙ ap key_of at.item ∙ at.of_key in
    let taken : (at.read).taken ≡ padded version spot.size = whole.0 ∙ ap (padded version) size in
    let least = least_taken version spot.size in
    record {
      read = at.read;
      tells = (
        ap (from_be_bytes w64) (sym (taken_again 4 8 (padded version spot.size) here (omega (arith, least)))) ∙ key_is,
        ap (from_be_bytes w32) (sym (taken_again 12 4 (padded version spot.size) here (omega (arith, least)))) ∙ size,
      );
      is_read = read_within version here (padded version spot.size) at.read (at.held).is_read (omega (arith, taken));
      item = at.item;
    }

pub one_needle : (version : Version) (text : List ℕ) (key size : ℕ) (a b : Needle) → IsNeedleOf version text key size a → IsNeedleOf version text key size b → a ≡ b
one_needle version text key size a b one two = same (sym one.is_read ∙ two.is_read) one.item two.item
  where
    same : {x y : ReadItem} → ◌≡◌ {A = Result ReadItem NeedleFault} (Ok x) (Ok y) → x.item ≡ Live a → y.item ≡ Live b → a ≡ b
    same e f g = cc

no_damage : (version : Version) (text : List ℕ) (key size stored computed : ℕ) (needle : Needle) → IsNeedleOf version text key size needle → IsDamage version text key size stored computed → ⊥
no_damage version text key size stored computed needle is (inl other) = never (sym is.is_read ∙ other.1)
  where
    never : {read : ReadItem} → ◌≡◌ {A = Result ReadItem NeedleFault} (Ok read) (Err (ChecksumMismatch stored computed)) → ⊥
    never e = cc
no_damage version text key size stored computed needle is (inr none) = (none.0).unread needle is

-- with the disk's failures besides
or_failed : (version : Version) (text : List ℕ) (key size at : ℕ) (result : Result Needle VolumeFault) → Yields version text key size at result → YieldsOr version text key size at result
or_failed version text key size at (Ok needle) is = is
or_failed version text key size at (Err DiskFault) is = tt
or_failed version text key size at (Err Memory) is = is
or_failed version text key size at (Err (Damaged place stored computed)) is = is
or_failed version text key size at (Err Broken) is = absurd is
or_failed version text key size at (Err AlreadyThere) is = absurd is
or_failed version text key size at (Err NotThere) is = absurd is
or_failed version text key size at (Err (BadSuper fault)) is = absurd is
or_failed version text key size at (Err NotHeld) is = absurd is
or_failed version text key size at (Err (WrongCookie held)) is = absurd is
or_failed version text key size at (Err EmptyData) is = absurd is
or_failed version text key size at (Err (TooLarge len)) is = absurd is
or_failed version text key size at (Err (VolumeFull end)) is = absurd is
or_failed version text key size at (Err ReadOnly) is = absurd is
or_failed version text key size at (Err NoVacuum) is = absurd is
or_failed version text key size at (Err InVacuum) is = absurd is
or_failed version text key size at (Err RevisionAtEnd) is = absurd is

pub told_yields : (told : Option Files) (volume : Volume) (key : ℕ) (spot : Spot) (name text : List ℕ) (at len : ℕ) (result : Result Needle VolumeFault) → name ≡ name_of volume.id Items
    → at ≡ 8 * spot.offset → len ≡ padded volume.block.version spot.size → IfSome told (λ files. text ≡ take len (drop at (content files name)))
    → Yields volume.block.version text key spot.size at result → IfSome told (λ files. YieldsAt volume key spot files result)
told_yields None volume key spot name text at len result named here long are yields = tt
told_yields (Some files) volume key spot name text at len result named here long are yields =
    let bytes : text ≡ bytes_at volume.block.version (content files (name_of volume.id Items)) spot =
    are ∙ (λ i. take (long i) (drop (here i) (content files (named i)))) in
    or_failed volume.block.version _ key spot.size (8 * spot.offset) result
    (subst (λ (n : ℕ). Yields volume.block.version (bytes_at volume.block.version (content files (name_of volume.id Items)) spot) key spot.size n result) here
    (subst (λ (t : List ℕ). Yields volume.block.version t key spot.size at result) bytes yields))

-- ---- what the contents say of it

content_there : (volume : Volume) (items : List ReadItem) (files : Files) (holds : Holds volume items files) → content files (name_of volume.id Items) ≡ holds.text
content_there volume items files holds = ap (λ (o : Option (List ℕ)). unwrap_or o []) (holds.has).there

pub led : (volume : Volume) (items : List ReadItem) (files : Files) (key : ℕ) → Holds volume items files
    → Leads volume.block.version (content files (name_of volume.id Items)) key (get volume.index.spots key) (get (contents_of items) key)
led volume items files key holds =
    subst (λ (t : List ℕ). Leads volume.block.version t key (get volume.index.spots key) (get (contents_of items) key)) (sym (content_there volume items files holds))
    (subst (λ s. Leads volume.block.version holds.text key (get s key) (get (contents_of items) key)) (sym holds.index)
    (index_leads volume.block.version holds.text items key (holds.has).bytes (holds.has).are))

gets : (version : Version) (text : List ℕ) (key : ℕ) (spot : Spot) (held : Option Needle) (result : Result Needle VolumeFault) → Leads version text key (Some spot) held
    → YieldsOr version (bytes_at version text spot) key spot.size (8 * spot.offset) result → Gets held result
gets version text key spot None (Ok needle) leads yields = absurd leads
gets version text key spot (Some held) (Ok needle) leads yields =
    ap Some (one_needle version (bytes_at version text spot) key spot.size held needle (found_at version text key spot held leads) yields)
gets version text key spot None (Err (Damaged place stored computed)) leads yields = absurd leads
gets version text key spot (Some held) (Err (Damaged place stored computed)) leads yields =
    no_damage version (bytes_at version text spot) key spot.size stored computed held (found_at version text key spot held leads) yields.1
gets version text key spot held (Err DiskFault) leads yields = tt
gets version text key spot held (Err Broken) leads yields = tt
gets version text key spot held (Err AlreadyThere) leads yields = tt
gets version text key spot held (Err NotThere) leads yields = tt
gets version text key spot held (Err (BadSuper fault)) leads yields = tt
gets version text key spot held (Err NotHeld) leads yields = tt
gets version text key spot held (Err (WrongCookie other)) leads yields = tt
gets version text key spot held (Err EmptyData) leads yields = tt
gets version text key spot held (Err (TooLarge len)) leads yields = tt
gets version text key spot held (Err (VolumeFull end)) leads yields = tt
gets version text key spot held (Err ReadOnly) leads yields = tt
gets version text key spot held (Err NoVacuum) leads yields = tt
gets version text key spot held (Err InVacuum) leads yields = tt
gets version text key spot held (Err RevisionAtEnd) leads yields = tt
gets version text key spot held (Err Memory) leads yields = tt

pub told_gets : (told : Option Files) (volume : Volume) (key : ℕ) (spot : Spot) (result : Result Needle VolumeFault) → IfSome told (λ files. YieldsAt volume key spot files result)
    → IfSome told (λ files. (items : List ReadItem) → get volume.index.spots key ≡ Some spot → Holds volume items files → Gets (get (contents_of items) key) result)
told_gets None volume key spot result yields = tt
told_gets (Some files) volume key spot result yields = λ items is holds.
    gets volume.block.version (content files (name_of volume.id Items)) key spot (get (contents_of items) key) result
    (subst (λ o. Leads volume.block.version (content files (name_of volume.id Items)) key o (get (contents_of items) key)) is (led volume items files key holds)) yields

-- ---- what a read answers by the contents

none_from : (held : Option Needle) (version : Version) (text : List ℕ) (key : ℕ) → Leads version text key None held → held ≡ None
none_from None version text key leads = refl
none_from (Some needle) version text key leads = absurd leads

pub told_none : (told : Option Files) (volume : Volume) (key : ℕ) → get volume.index.spots key ≡ None
    → IfSome told (λ files. (items : List ReadItem) → Holds volume items files → get (contents_of items) key ≡ None)
told_none None volume key none = tt
told_none (Some files) volume key none = λ items holds.
    none_from (get (contents_of items) key) volume.block.version (content files (name_of volume.id Items)) key
    (subst (λ o. Leads volume.block.version (content files (name_of volume.id Items)) key o (get (contents_of items) key)) none (led volume items files key holds))

-- what was got is what is answered
ok_from : (held : Option Needle) (cookie : ℕ) (needle : Needle) → held ≡ Some needle → ReadsFrom held cookie (Ok needle)
ok_from held cookie needle is = subst (λ o. ReadsFrom o cookie (Ok needle)) (sym is) refl

other_from : (held : Option Needle) (cookie : ℕ) (needle : Needle) → held ≡ Some needle → ReadsFrom held cookie (Err (WrongCookie needle.cookie))
other_from held cookie needle is = subst (λ o. ReadsFrom o cookie (Err (WrongCookie needle.cookie))) (sym is) refl

failed_from : (held : Option Needle) (cookie : ℕ) (fault : VolumeFault) → MayFailToRead fault → Gets held (Err fault) → ReadsFrom held cookie (Err fault)
failed_from held cookie DiskFault may gets = tt
failed_from held cookie Memory may gets = tt
failed_from held cookie (Damaged place stored computed) may gets = absurd gets
failed_from held cookie Broken may gets = absurd may
failed_from held cookie AlreadyThere may gets = absurd may
failed_from held cookie NotThere may gets = absurd may
failed_from held cookie (BadSuper fault) may gets = absurd may
failed_from held cookie NotHeld may gets = absurd may
failed_from held cookie (WrongCookie other) may gets = absurd may
failed_from held cookie EmptyData may gets = absurd may
failed_from held cookie (TooLarge len) may gets = absurd may
failed_from held cookie (VolumeFull end) may gets = absurd may
failed_from held cookie ReadOnly may gets = absurd may
failed_from held cookie NoVacuum may gets = absurd may
failed_from held cookie InVacuum may gets = absurd may
failed_from held cookie RevisionAtEnd may gets = absurd may

pub told_ok : (told : Option Files) (volume : Volume) (key cookie : ℕ) (spot : Spot) (needle : Needle) → get volume.index.spots key ≡ Some spot
    → IfSome told (λ files. (items : List ReadItem) → get volume.index.spots key ≡ Some spot → Holds volume items files → Gets (get (contents_of items) key) (Ok needle))
    → IfSome told (λ files. (items : List ReadItem) → Holds volume items files → ReadsFrom (get (contents_of items) key) cookie (Ok needle))
told_ok None volume key cookie spot needle is gets = tt
told_ok (Some files) volume key cookie spot needle is gets = λ items holds. ok_from (get (contents_of items) key) cookie needle (gets items is holds)

pub told_other : (told : Option Files) (volume : Volume) (key cookie : ℕ) (spot : Spot) (needle : Needle) → get volume.index.spots key ≡ Some spot
    → IfSome told (λ files. (items : List ReadItem) → get volume.index.spots key ≡ Some spot → Holds volume items files → Gets (get (contents_of items) key) (Ok needle))
    → IfSome told (λ files. (items : List ReadItem) → Holds volume items files → ReadsFrom (get (contents_of items) key) cookie (Err (WrongCookie needle.cookie)))
told_other None volume key cookie spot needle is gets = tt
told_other (Some files) volume key cookie spot needle is gets = λ items holds. other_from (get (contents_of items) key) cookie needle (gets items is holds)

pub told_failed : (told : Option Files) (volume : Volume) (key cookie : ℕ) (spot : Spot) (fault : VolumeFault) → get volume.index.spots key ≡ Some spot → MayFailToRead fault
    → IfSome told (λ files. (items : List ReadItem) → get volume.index.spots key ≡ Some spot → Holds volume items files → Gets (get (contents_of items) key) (Err fault))
    → IfSome told (λ files. (items : List ReadItem) → Holds volume items files → ReadsFrom (get (contents_of items) key) cookie (Err fault))
told_failed None volume key cookie spot fault is may gets = tt
told_failed (Some files) volume key cookie spot fault is may gets = λ items holds. failed_from (get (contents_of items) key) cookie fault may (gets items is holds)
