-- What an append leaves of the files, and that they hold an item more then.
use Rattle.std.proofs.Common.{◌≡◌, ◌≢◌, ℕ, ◌+◌, ◌/◌, ◌%◌, ◌^◌, ◌<◌, ◌≤◌, max, true, false, cond, nat_eq, List, [], ◌∷◌, ◌++◌, length, take, drop, refl, sym, ap, subst, ◌∙◌, arith, Option, Some, None, Ok, inl, inr}
use Rattle.std.specs.Prelude.{IfSome, is_some, unwrap_or}
use Rattle.std.specs.FinMap.{get, empty}
use Rattle.std.proofs.lemmas.List.{append-nil, take-append-le, take_all, length-append}
use Rattle.weed_base.specs.Files.{Files, BothTold}
use Rattle.needle.specs.Answer.{BeginsWith, IsItem, kept_moment}
use Rattle.needle.specs.Fields.{AreBytes}
use Rattle.needle.specs.Item.{body_of, item_text, key_of, content as item_content}
use Rattle.needle.specs.Layout.{padded}
use Rattle.needle.specs.Reading.{read_at}
use Rattle.needle.specs.SuperBlock.{superblock_text}
use Rattle.needle.specs.declared.item.Item.{Item}
use Rattle.needle.specs.declared.item.Item.TheVariants.{Live, Gone}
use Rattle.needle.specs.declared.item.ReadItem.{ReadItem}
use Rattle.needle.specs.declared.version.Version.{Version}
use Rattle.needle.proofs.Apart.{written as is_written}
use Rattle.needle.proofs.Verdicts.{begun_places, begun_whole, read_exactly}
use Rattle.needle_index.specs.Text.{entered, entry_at, entry_for, entry_text, removal, spots_of}
use Rattle.needle_index.specs.declared.entry.IndexEntry.{IndexEntry}
use Rattle.needle_index.proofs.Entries.{entered_all-push}
use Rattle.volume_items.specs.declared.file_names.Part.TheVariants.{Items, Index, Sign}
use Rattle.volume.specs.declared.held.Mode.TheVariants.{ReadWrite}
use Rattle.volume.specs.declared.held.Volume.{Volume}
use Rattle.volume_items.specs.Growing.{Appends, EndsAt, KeepsFront}
use Rattle.volume.specs.Appending.{ChangesBehind, GrowBy, HasTakenIn, HoldsMore, IsAsWas, read_of, taken_by}
use Rattle.volume_items.specs.Contents.{AreItems, HoldsAt, end_of, last_end, most_data}
use Rattle.volume_items.specs.FileNames.{name_of}
use Rattle.volume.specs.Holds.{HoldsUnlessBroken, IsWritable}
use Rattle.volume_items.specs.Changes.{ChangesOnly}
use Rattle.volume_items.proofs.Appended.{end-least, end-appended, greatest-appended, indexed-appended, items_appended}
use Rattle.volume_items.proofs.Growing.{content_of, on_ok}
use Rattle.volume_items.proofs.Apart.{differ, items_index, items_sign, index_sign}
use Rattle.volume_items.proofs.Judged.{never_true}
use Rattle.volume_items.proofs.Told.{both_twice, told_related_both}
use Rattle.volume_items.proofs.Summed.{bytes_append}

-- ---- both files

apart_names : (id : ℕ) → name_of id Items ≢ name_of id Index
apart_names id = differ id Items Index items_index

grow_of : (id : ℕ) (piece entry : List ℕ) (a b c : Files) → Appends (name_of id Items) piece a b → Appends (name_of id Index) entry b c → GrowBy id piece entry a c
grow_of id piece entry a b c first second = record {
  items = second.others (name_of id Items) (apart_names id) ∙ first.there;
  index = second.there ∙ ap (λ (o : Option (List ℕ)). Some (unwrap_or o [] ++ entry)) (first.others (name_of id Index) (λ e. apart_names id (sym e)));
  others = λ other one two. second.others other two ∙ first.others other one;
}

pub told_grow : (id : ℕ) (piece entry : List ℕ) (a b c : Option Files) → BothTold (Appends (name_of id Items) piece) a b → BothTold (Appends (name_of id Index) entry) b c
    → BothTold (GrowBy id piece entry) a c
told_grow id piece entry a b c first second =
    both_twice (Appends (name_of id Items) piece) (Appends (name_of id Index) entry) (GrowBy id piece entry) a b c first second (grow_of id piece entry)

other_front : (name other : List ℕ) (at : ℕ) (a b : Files) → ChangesOnly name a b → other ≢ name → KeepsFront other at a b
other_front name other at a b only differs = ap (λ (o : Option (List ℕ)). take at (unwrap_or o [])) (only other differs)

behind_of : (id end index_end : ℕ) (a b : Files) → KeepsFront (name_of id Items) end a b → ChangesOnly (name_of id Items) a b → ChangesBehind id end index_end a b
behind_of id end index_end a b front only = record {
  items = front;
  index = other_front (name_of id Items) (name_of id Index) index_end a b only (λ e. apart_names id (sym e));
  others = λ other one two. only other one;
}

behind_then : (id end index_end : ℕ) (a b c : Files) → ChangesBehind id end index_end a b → KeepsFront (name_of id Index) index_end b c → ChangesOnly (name_of id Index) b c
    → ChangesBehind id end index_end a c
behind_then id end index_end a b c first front only = record {
  items = other_front (name_of id Index) (name_of id Items) end b c only (apart_names id) ∙ first.items;
  index = front ∙ first.index;
  others = λ other one two. only other two ∙ first.others other one two;
}

both_and : (R S T : Files → Files → Type 0) (a b : Option Files) → BothTold R a b → BothTold S a b → ((x y : Files) → R x y → S x y → T x y) → BothTold T a b
both_and R S T None None one two joins = tt
both_and R S T None (Some b) one two joins = absurd one
both_and R S T (Some a) None one two joins = absurd one
both_and R S T (Some a) (Some b) one two joins = joins a b one two

pub told_behind : (id end index_end : ℕ) (a b : Option Files) → BothTold (KeepsFront (name_of id Items) end) a b → BothTold (ChangesOnly (name_of id Items)) a b
    → BothTold (ChangesBehind id end index_end) a b
told_behind id end index_end a b front only =
    both_and (KeepsFront (name_of id Items) end) (ChangesOnly (name_of id Items)) (ChangesBehind id end index_end) a b front only (behind_of id end index_end)

abbrev KeepsIndex : ℕ → ℕ → Files → Files → Type 0
KeepsIndex id index_end b c = KeepsFront (name_of id Index) index_end b c × ChangesOnly (name_of id Index) b c

pub told_behind_then : (id end index_end : ℕ) (a b c : Option Files) → BothTold (ChangesBehind id end index_end) a b → BothTold (KeepsFront (name_of id Index) index_end) b c
    → BothTold (ChangesOnly (name_of id Index)) b c → BothTold (ChangesBehind id end index_end) a c
told_behind_then id end index_end a b c first front only =
    both_twice (ChangesBehind id end index_end) (KeepsIndex id index_end) (ChangesBehind id end index_end) a b c first
    (both_and (KeepsFront (name_of id Index) index_end) (ChangesOnly (name_of id Index)) (KeepsIndex id index_end) b c front only (λ x y one two. (one, two)))
    (λ x y z one two. behind_then id end index_end x y z one two.0 two.1)

pub told_index_ends : (id at : ℕ) (a b : Option Files) → IfSome a (EndsAt (name_of id Index) at) → BothTold (ChangesOnly (name_of id Items)) a b → IfSome b (EndsAt (name_of id Index) at)
told_index_ends id at None None ends only = tt
told_index_ends id at None (Some b) ends only = absurd only
told_index_ends id at (Some a) None ends only = tt
told_index_ends id at (Some a) (Some b) ends only = record {
  text = ends.text;
  there = only (name_of id Index) (λ e. apart_names id (sym e)) ∙ ends.there;
  length_is = ends.length_is;
}

-- ---- what they hold then

key_at : (place key size : ℕ) → (entry_at place key size).key ≡ key
key_at place key size =
    elim (nat_eq size 0) as (λ t. (cond t (removal key (place / 8)) (record { key = key; offset = place / 8; size = size })).key ≡ key) [
      | true ↦ refl
      | false ↦ refl
    ]

offset_at : (place key size : ℕ) → (entry_at place key size).offset ≡ place / 8
offset_at place key size =
    elim (nat_eq size 0) as (λ t. (cond t (removal key (place / 8)) (record { key = key; offset = place / 8; size = size })).offset ≡ place / 8) [
      | true ↦ refl
      | false ↦ refl
    ]

size_at : (place key size : ℕ) → size < 2 ^ 32 → (entry_at place key size).size < 2 ^ 32
size_at place key size small =
    elim (nat_eq size 0) as (λ t. (cond t (removal key (place / 8)) (record { key = key; offset = place / 8; size = size })).size < 2 ^ 32) [
      | true ↦ omega arith
      | false ↦ small
    ]

key_small : (item : Item) → IsItem item → key_of item < 2 ^ 64
key_small (Live needle) fits = fits.key
key_small (Gone cookie key) fits = fits.1

size_small : (item : Item) → IsItem item → length (item_content item) < 2 ^ 32
size_small (Live needle) fits = fits.size
size_small (Gone cookie key) fits = omega arith

pub entry_enters : (place : ℕ) (item : Item) (text : List ℕ) → IsItem item → place < 2 ^ 35 → length text % 16 ≡ 0
    → spots_of (text ++ entry_text (entry_for place item)) ≡ entered (spots_of text) (entry_for place item)
entry_enters place item text fits within whole =
    let size : ℕ = length (item_content item) in
    entered_all-push empty text (entry_for place item) whole
    (subst (λ (n : ℕ). n < 2 ^ 64) (sym (key_at place (key_of item) size)) (key_small item fits))
    (subst (λ (n : ℕ). n < 2 ^ 32) (sym (offset_at place (key_of item) size)) (omega (arith, within)))
    (size_at place (key_of item) size (size_small item fits))

-- the item alone
pub item_read : (version : Version) (item : Item) (moment : ℕ) (piece : List ℕ) → IsItem item → moment < 2 ^ 64 → piece ≡ item_text item version moment → AreBytes piece
    → (length piece ≡ taken_by version item) × (read_at version piece ≡ Ok (read_of version item moment))
item_read version item moment piece fits small is bytes =
    let one : ReadItem = record { item = item; taken = length piece; moment = kept_moment version moment } in
    let begins : BeginsWith version piece one = subst (λ (t : List ℕ). BeginsWith version t one) (append-nil piece) (is_written item version moment piece fits small is []) in
    let size = (begun_places version piece one begins).size_is in
    let len : length piece ≡ taken_by version item = sym (begun_whole version piece one begins size).0 ∙ ap (padded version) size in (
      len,
      (read_exactly version piece one bytes).1 begins ∙ ap (λ (n : ℕ). Ok (record { item = item; taken = n; moment = kept_moment version moment })) len,
    )

behind_all : (text piece : List ℕ) → drop (length text) (text ++ piece) ≡ piece
behind_all [] piece = refl
behind_all (x ∷ text) piece = behind_all text piece

pub grown_holds : (old new : Volume) (item : Item) (moment : ℕ) (piece : List ℕ) (before now : Files) → old.mode ≡ ReadWrite → piece ≡ item_text item old.block.version moment → IsItem item
    → moment < 2 ^ 64 → AreBytes piece → length (body_of item) ≤ most_data → old.end + taken_by old.block.version item ≤ last_end
    → HasTakenIn old new (entry_for old.end item) (taken_by old.block.version item) → GrowBy old.id piece (entry_text (entry_for old.end item)) before now
    → HoldsMore old new item moment before now
grown_holds old new item moment piece before now mode is fits small bytes few room taken grow = λ items holds.
    let version = old.block.version in
    let one = taken.one in
    let entry = entry_for old.end item in
    let had = holds.has in
    let read = read_of version item moment in
    let w : IsWritable ReadWrite old before holds.text = subst (λ m. IsWritable m old before holds.text) mode holds.writable in
    let alone = item_read version item moment piece fits small is bytes in
    let text : List ℕ = holds.text ++ piece in
    let ends : length holds.text ≡ end_of 8 items = w.0 ∙ holds.end in
    let ends_more : end_of 8 (items ++ read ∷ []) ≡ end_of 8 items + read.taken = end-appended 8 items read in
    let len : length text ≡ length holds.text + length piece = length-append holds.text piece in
    let whole : length text ≡ end_of 8 (items ++ read ∷ []) = omega (arith, len, ends, ends_more, alone.0) in
    let least : 8 ≤ length holds.text = omega (arith, ends, end-least 8 items) in
    let held : HoldsAt version text (length holds.text) read = record {
      is_read = ap (read_at version) (behind_all holds.text piece) ∙ alone.1;
      small = few;
      within = omega (arith, w.0, room);
    } in
    let all_bytes : AreBytes text = bytes_append holds.text piece (subst AreBytes (take_all (end_of 8 items) holds.text (omega (arith, ends))) had.bytes) bytes in
    record {
      text = text;
      has = record {
        there = ap (λ n. get now (name_of n Items)) one.id ∙ grow.items ∙ ap Some (ap (λ (l : List ℕ). l ++ piece) (content_of before (name_of old.id Items) holds.text had.there));
        bytes = subst AreBytes (sym (take_all (end_of 8 (items ++ read ∷ [])) text (omega (arith, whole)))) all_bytes;
        front = take-append-le 8 holds.text piece least ∙ had.front ∙ ap superblock_text (sym one.block);
        are = subst (λ b. AreItems b.version text 8 (items ++ read ∷ [])) (sym one.block) (items_appended version holds.text piece 8 items read had.are ends held (sym alone.0));
      };
      sign = subst (λ (o : Option (List ℕ)). is_some o ≡ true) (sym (ap (λ n. get now (name_of n Sign)) one.id
          ∙ grow.others (name_of old.id Sign) (λ e. differ old.id Items Sign items_sign (sym e)) (λ e. differ old.id Index Sign index_sign (sym e)))) holds.sign;
      end = taken.end ∙ ap (λ (n : ℕ). n + read.taken) holds.end ∙ sym ends_more;
      index = taken.index ∙ (λ i. entered (holds.index i) (entry_for (holds.end i) item)) ∙ sym (indexed-appended 8 empty items read);
      greatest = taken.greatest ∙ (λ i. max (holds.greatest i) (key_at old.end (key_of item) (length (item_content item)) i)) ∙ sym (greatest-appended 0 items read);
      writable = subst (λ m. IsWritable m new now text) (sym (one.mode ∙ mode)) (
        omega (arith, len, w.0, alone.0, taken.end),
        (
          w.1.0 ++ entry_text entry,
          ap (λ n. get now (name_of n Index)) one.id ∙ grow.index ∙ ap Some (ap (λ (l : List ℕ). l ++ entry_text entry) (content_of before (name_of old.id Index) w.1.0 w.1.1)),
          length-append w.1.0 (entry_text entry) ∙ ap (λ (n : ℕ). n + 16) w.1.2 ∙ sym taken.index_end,
          omega (arith, length-append w.1.0 (entry_text entry), w.1.3),
          entry_enters old.end item w.1.0 fits (omega (arith, room)) w.1.3 ∙ ap (λ s. entered s entry) w.1.4 ∙ sym taken.index,
        ),
      );
    }

pub told_holds : (old new : Volume) (item : Item) (moment : ℕ) (piece : List ℕ) (before now : Option Files) → old.mode ≡ ReadWrite → piece ≡ item_text item old.block.version moment
    → IsItem item → moment < 2 ^ 64 → AreBytes piece → length (body_of item) ≤ most_data → old.end + taken_by old.block.version item ≤ last_end
    → HasTakenIn old new (entry_for old.end item) (taken_by old.block.version item) → BothTold (GrowBy old.id piece (entry_text (entry_for old.end item))) before now
    → BothTold (HoldsMore old new item moment) before now
told_holds old new item moment piece before now mode is fits small bytes few room taken grow =
    told_related_both (GrowBy old.id piece (entry_text (entry_for old.end item))) (HoldsMore old new item moment) before now grow
    (λ a b g. grown_holds old new item moment piece a b mode is fits small bytes few room taken g)

-- a held volume's files end where it says
pub told_items_end : (told : Option Files) (volume : Volume) → volume.broken ≡ false → volume.mode ≡ ReadWrite → IfSome told (HoldsUnlessBroken volume) → IfSome told (EndsAt (name_of volume.id Items) volume.end)
told_items_end None volume sound mode holds = tt
told_items_end (Some files) volume sound mode (inl broken) = absurd (never_true (sym sound ∙ broken))
told_items_end (Some files) volume sound mode (inr held) = record {
  text = (held.1).text;
  there = ((held.1).has).there;
  length_is = (subst (λ m. IsWritable m volume files (held.1).text) mode (held.1).writable).0;
}

pub told_index_end : (told : Option Files) (volume : Volume) → volume.broken ≡ false → volume.mode ≡ ReadWrite → IfSome told (HoldsUnlessBroken volume) → IfSome told (EndsAt (name_of volume.id Index) volume.index_end)
told_index_end None volume sound mode holds = tt
told_index_end (Some files) volume sound mode (inl broken) = absurd (never_true (sym sound ∙ broken))
told_index_end (Some files) volume sound mode (inr held) =
    let w : IsWritable ReadWrite volume files (held.1).text = subst (λ m. IsWritable m volume files (held.1).text) mode (held.1).writable in
    record { text = w.1.0; there = w.1.1; length_is = w.1.2 }

-- taken in by a volume that is as it was, under the names of the same numbers
pub taken_as : (old mid new : Volume) (entry same : IndexEntry) (taken count : ℕ) → IsAsWas old mid → entry ≡ same → taken ≡ count → HasTakenIn mid new entry taken → HasTakenIn old new same count
taken_as old mid new entry same taken count was entry_is taken_is by = record {
  one = record { id = (by.one).id ∙ (was.one).id; block = (by.one).block ∙ (was.one).block; mode = (by.one).mode ∙ (was.one).mode };
  end = by.end ∙ (λ i. was.end i + taken_is i);
  index_end = by.index_end ∙ ap (λ (n : ℕ). n + 16) was.index_end;
  greatest = by.greatest ∙ (λ i. max (was.greatest i) ((entry_is i).key));
  index = by.index ∙ (λ i. entered (was.index i) (entry_is i));
  broken = by.broken ∙ was.broken;
}
