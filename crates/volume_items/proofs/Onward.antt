-- Items that are copied one behind another.
use Rattle.std.proofs.Common.{◌≡◌, ℕ, ◌+◌, ◌*◌, ◌≤◌, ◌<◌, List, [], ◌∷◌, ◌++◌, length, take, drop, Option, Some, None, Result, Ok, Err, append_assoc, refl, sym, ap, subst, ◌∙◌, arith}
use Rattle.std.specs.Prelude.{IfSome, OnOk, unwrap_or}
use Rattle.std.specs.FinMap.{remove}
use Rattle.std.specs.Option.{option_map}
use Rattle.std.proofs.lemmas.List.{append-nil, length-append, length-drop, length-take, take_all, take-append-le}
use Rattle.weed_base.specs.Files.{BothTold, Files, content, renamed}
use Rattle.needle.specs.Fields.{AreBytes}
use Rattle.needle.specs.Reading.{read_at}
use Rattle.needle.specs.SuperBlock.{superblock_text}
use Rattle.needle.specs.declared.item.ReadItem.{ReadItem}
use Rattle.needle.specs.declared.superblock.SuperBlock.{SuperBlock}
use Rattle.needle.specs.declared.version.Version.{Version}
use Rattle.needle.proofs.Followed.{read_within}
use Rattle.needle_index.specs.declared.entry.IndexEntry.{IndexEntry}
use Rattle.volume_items.specs.declared.file_names.Part.TheVariants.{Items, Copy}
use Rattle.volume_items.specs.Contents.{HoldsAt, end_of, last_end}
use Rattle.volume_items.specs.Changes.{ChangesOnly, LeavesOthers, made_with}
use Rattle.volume_items.specs.FileNames.{name_of}
use Rattle.volume_items.specs.Growing.{Appends, EndsAt}
use Rattle.volume_items.specs.Vacuuming.{CanCopy, GoesOn, HasCopied, HasCopy, LieAt, LiesAt, MayCopy}
use Rattle.volume_items.proofs.Appended.{end-appended, end-least, items_appended, none_past}
use Rattle.volume_items.proofs.Apart.{anew}
use Rattle.volume_items.proofs.Growing.{content_of}
use Rattle.volume_items.proofs.Named.{get-insert_other, removed_others}
use Rattle.volume_items.proofs.Summed.{bytes_append}
use Rattle.volume_items.proofs.Vacuums.{apart, there}

behind_all : (text piece : List ℕ) → drop (length text) (text ++ piece) ≡ piece
behind_all [] piece = refl
behind_all (x ∷ text) piece = behind_all text piece

-- the copy has an item more
copy_grown : (id : ℕ) (block : SuperBlock) (end : ℕ) (before : List ReadItem) (old new : Files) (text : List ℕ) (entry : IndexEntry) (read : ReadItem) → HasCopy id block end before old
    → LiesAt block.version text entry read → end + read.taken ≤ last_end → Appends (name_of id Copy) (take read.taken (drop (8 * entry.offset) text)) old new
    → HasCopy id block (end + read.taken) (before ++ read ∷ []) new
copy_grown id block end before old new text entry read has lies room appends =
    let version = block.version in
    let place : ℕ = 8 * entry.offset in
    let piece : List ℕ = take read.taken (drop place text) in
    let inside = there version text entry read lies in
    let len : length piece ≡ read.taken = omega (arith, length-take read.taken (drop place text), length-drop place text, inside) in
    let alone : read_at version piece ≡ Ok read = read_within version (drop place text) read.taken read (lies.held).is_read (omega arith) in
    let whole : content old (name_of id Copy) ≡ has.copy = content_of old (name_of id Copy) has.copy has.there in
    let grown : List ℕ = has.copy ++ piece in
    let all : length grown ≡ length has.copy + length piece = length-append has.copy piece in
    let ends : length has.copy ≡ end_of 8 before = has.length_is ∙ has.end_is in
    let held : HoldsAt version grown (length has.copy) read = record {
      is_read = ap (read_at version) (behind_all has.copy piece) ∙ alone;
      small = (lies.held).small;
      within = omega (arith, has.length_is, room);
    } in
    let least = end-least 8 before in
    let ends_more = end-appended 8 before read in
    record {
      copy = grown;
      there = appends.there ∙ ap Some (ap (λ (l : List ℕ). l ++ piece) whole);
      bytes = bytes_append has.copy piece has.bytes lies.bytes;
      front = take-append-le 8 has.copy piece (omega (arith, ends, least)) ∙ has.front;
      are = items_appended version has.copy piece 8 before read has.are ends held (sym len);
      length_is = omega (arith, all, has.length_is, len);
      end_is = omega (arith, has.end_is, ends_more);
    }

-- ---- what is known of the first entry that is left

pub told_ends : (told : Option Files) (id : ℕ) (version : Version) (end : ℕ) (entries : List IndexEntry) → IfSome told (CanCopy id version end entries) → IfSome told (EndsAt (name_of id Copy) end)
told_ends None id version end entries can = tt
told_ends (Some files) id version end entries can =
    let has = (can.3).copy in
    record { text = has.copy; there = has.there; length_is = has.length_is }

first_lies : (version : Version) (text : List ℕ) (entry : IndexEntry) (entries : List IndexEntry) (reads : List ReadItem) → LieAt version text (entry ∷ entries) reads → (read : ReadItem) × LiesAt version text entry read
first_lies version text entry entries [] lie = absurd lie
first_lies version text entry entries (read ∷ reads) lie = (read, lie.0)

pub told_lies : (told : Option Files) (id : ℕ) (version : Version) (end : ℕ) (entry : IndexEntry) (entries : List IndexEntry) → IfSome told (CanCopy id version end (entry ∷ entries))
    → IfSome told (λ files. (read : ReadItem) × LiesAt version (content files (name_of id Items)) entry read)
told_lies None id version end entry entries can = tt
told_lies (Some files) id version end entry entries can = first_lies version (content files (name_of id Items)) entry entries can.2 (can.3).lie

-- none is lost
pub told_room : (told : Option Files) (id : ℕ) (version : Version) (end : ℕ) (entries : List IndexEntry) → last_end < end → IfSome told (CanCopy id version end entries) → told ≡ None
told_room None id version end entries far can = refl
told_room (Some files) id version end entries far can =
    let least = end-least end can.2 in
    absurd (past (end_of end can.2) least (can.3).room)
  where
    past : (n : ℕ) → end ≤ n → n ≤ last_end → ⊥
    past n least most = omega (arith, far, least, most)

-- ---- a step

items_same : (id : ℕ) (old new : Files) → ChangesOnly (name_of id Copy) old new → content new (name_of id Items) ≡ content old (name_of id Items)
items_same id old new only = ap (λ (o : Option (List ℕ)). unwrap_or o []) (only (name_of id Items) (apart id (name_of id Items) (name_of id Copy) refl refl))

on_with : (id : ℕ) (version : Version) (end taken : ℕ) (entry : IndexEntry) (entries : List IndexEntry) (block : SuperBlock) (before reads : List ReadItem) (old new : Files)
    → MayCopy id version end (entry ∷ entries) block before reads old
    → ((read : ReadItem) → LiesAt version (content old (name_of id Items)) entry read
    → (taken ≡ read.taken) × Appends (name_of id Copy) (take read.taken (drop (8 * entry.offset) (content old (name_of id Items)))) old new)
    → GoesOn id version (end + taken) entries block (before ++ reads) new
on_with id version end taken entry entries block before [] old new may copied = absurd may.lie
on_with id version end taken entry entries block before (read ∷ reads) old new may copied =
    let lies = (may.lie).0 in
    let did = copied read lies in
    let least = end-least (end + read.taken) reads in
    let room : end + read.taken ≤ last_end = omega (arith, least, may.room) in
    let same = items_same id old new (did.1).others in (
      before ++ read ∷ [],
      reads,
      append_assoc before (read ∷ []) reads,
      record {
        version_is = may.version_is;
        lie = subst (λ (l : List ℕ). LieAt version l entries reads) (sym same) (may.lie).1;
        copy = subst (λ (n : ℕ). HasCopy id block (end + n) (before ++ read ∷ []) new) (sym did.0)
            (copy_grown id block end before old new (content old (name_of id Items)) entry read may.copy (subst (λ v. LiesAt v (content old (name_of id Items)) entry read) (sym may.version_is) lies) room did.1);
        room = subst (λ (n : ℕ). end_of (end + n) reads ≤ last_end) (sym did.0) may.room;
      },
    )

-- what a whole copy makes of each start
abbrev pub Onward : ℕ → Version → ℕ → List IndexEntry → ℕ → List IndexEntry → Files → Files → Type 0
Onward id version start all end left old new =
    (block : SuperBlock) (before reads : List ReadItem) → MayCopy id version start all block before reads old → GoesOn id version end left block (before ++ reads) new

begins : (id : ℕ) (version : Version) (start : ℕ) (all : List IndexEntry) (files : Files) → Onward id version start all start all files files
begins id version start all files = λ block before reads may. (before, reads, refl, may)

pub told_begins : (told : Option Files) (id : ℕ) (version : Version) (start : ℕ) (all : List IndexEntry) → BothTold (Onward id version start all start all) told told
told_begins None id version start all = tt
told_begins (Some files) id version start all = begins id version start all files

steps : (id : ℕ) (version : Version) (start end taken : ℕ) (all left : List IndexEntry) (entry : IndexEntry) (a b c : Files) → Onward id version start all end (entry ∷ left) a b
    → ((read : ReadItem) → LiesAt version (content b (name_of id Items)) entry read
    → (taken ≡ read.taken) × Appends (name_of id Copy) (take read.taken (drop (8 * entry.offset) (content b (name_of id Items)))) b c)
    → Onward id version start all (end + taken) left a c
steps id version start end taken all left entry a b c onward copied = λ block before reads may.
    let g = onward block before reads may in
    subst (λ (l : List ReadItem). GoesOn id version (end + taken) left block l c) g.2
    (on_with id version end taken entry left block g.0 g.1 b c g.3 copied)

pub told_steps : (a b c : Option Files) (id : ℕ) (version : Version) (start end taken : ℕ) (all left : List IndexEntry) (entry : IndexEntry) → BothTold (Onward id version start all end (entry ∷ left)) a b
    → BothTold (λ old new. (read : ReadItem) → LiesAt version (content old (name_of id Items)) entry read
    → (taken ≡ read.taken) × Appends (name_of id Copy) (take read.taken (drop (8 * entry.offset) (content old (name_of id Items)))) old new) b c
    → BothTold (Onward id version start all (end + taken) left) a c
told_steps None None None id version start end taken all left entry one two = tt
told_steps None None (Some c) id version start end taken all left entry one two = absurd two
told_steps None (Some b) c id version start end taken all left entry one two = absurd one
told_steps (Some a) None c id version start end taken all left entry one two = absurd one
told_steps (Some a) (Some b) None id version start end taken all left entry one two = absurd two
told_steps (Some a) (Some b) (Some c) id version start end taken all left entry one two = steps id version start end taken all left entry a b c one two

-- what may be copied still may be
pub told_can : (a b : Option Files) (id : ℕ) (version : Version) (start end : ℕ) (all left : List IndexEntry) → IfSome a (CanCopy id version start all) → BothTold (Onward id version start all end left) a b
    → IfSome b (CanCopy id version end left)
told_can None None id version start end all left can onward = tt
told_can None (Some b) id version start end all left can onward = absurd onward
told_can (Some a) None id version start end all left can onward = absurd onward
told_can (Some a) (Some b) id version start end all left can onward =
    let g = onward can.0 can.1 can.2 can.3 in
    (can.0, g.0, g.1, g.3)

ended : (id : ℕ) (version : Version) (end : ℕ) (block : SuperBlock) (done reads all : List ReadItem) (files : Files) → done ++ reads ≡ all → MayCopy id version end [] block done reads files
    → HasCopy id block end all files
ended id version end block done [] all files is may = subst (λ (l : List ReadItem). HasCopy id block end l files) (sym (append-nil done) ∙ is) may.copy
ended id version end block done (read ∷ reads) all files is may = absurd may.lie

pub told_ended : (a b : Option Files) (id : ℕ) (version : Version) (start end : ℕ) (all left : List IndexEntry) → left ≡ [] → BothTold (Onward id version start all end left) a b
    → BothTold (HasCopied id version start all end) a b
told_ended None None id version start end all left none onward = tt
told_ended None (Some b) id version start end all left none onward = absurd onward
told_ended (Some a) None id version start end all left none onward = absurd onward
told_ended (Some a) (Some b) id version start end all left none onward = λ block before reads may.
    let g = onward block before reads may in
    ended id version end block g.0 g.1 (before ++ reads) b g.2 (subst (λ (l : List IndexEntry). MayCopy id version end l block g.0 g.1 b) none g.3)

pub told_only : (name : List ℕ) (told : Option Files) → BothTold (ChangesOnly name) told told
told_only name None = tt
told_only name (Some files) = λ other differs. refl

-- ---- a copy that has no item

has_none : (id : ℕ) (block : SuperBlock) (text : List ℕ) (files : Files) → length block.ttl ≡ 2 → AreBytes text → text ≡ superblock_text block
    → HasCopy id block 8 [] (made_with (name_of id Copy) text files)
has_none id block text files two bytes is =
    let eight : length text ≡ 8 = ap length is ∙ simp length-append (omega (arith, two)) in
    record {
      copy = text;
      there = anew (name_of id Copy) text files;
      bytes = bytes;
      front = take_all 8 text (omega (arith, eight)) ∙ is;
      are = none_past block.version text 8 (omega (arith, eight));
      length_is = eight;
      end_is = refl;
    }

pub told_made : {T E : Type 0} (result : Result T E) (id : ℕ) (block : SuperBlock) (name text : List ℕ) (old new : Option Files) → name ≡ name_of id Copy → length block.ttl ≡ 2 → AreBytes text
    → text ≡ superblock_text block → OnOk result (new ≡ option_map (made_with name text) old) → OnOk result (IfSome new (HasCopy id block 8 []))
told_made (Err fault) id block name text old new named two bytes is done = tt
told_made (Ok value) id block name text None new named two bytes is done = subst (λ o. IfSome o (HasCopy id block 8 [])) (sym done) tt
told_made (Ok value) id block name text (Some files) new named two bytes is done =
    subst (λ o. IfSome o (HasCopy id block 8 [])) (sym done)
    (subst (λ (n : List ℕ). HasCopy id block 8 [] (made_with n text files)) (sym named) (has_none id block text files two bytes is))

-- ---- a copy that takes the items' place

pub renamed_others : (id : ℕ) (copy items : List ℕ) → copy ≡ name_of id Copy → items ≡ name_of id Items → (files : Files) → LeavesOthers id files (renamed copy items files)
renamed_others id copy items copy_is items_is files = λ other apart.
    get-insert_other (remove files copy) items (content files copy) other (λ e. apart Items (e ∙ items_is)) ∙ removed_others copy files other (λ e. apart Copy (e ∙ copy_is))
