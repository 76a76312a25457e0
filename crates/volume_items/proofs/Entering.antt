-- The text of an index, item by item.
use Rattle.std.proofs.Common.{◌≡◌, ℕ, ◌+◌, ◌/◌, ◌%◌, true, false, List, [], ◌++◌, length, sym, ap, subst, ◌∙◌, arith, Option, Some, None, Result, Ok, Err}
use Rattle.std.specs.Prelude.{IfSome, OnOk, is_ok, if◌then◌else◌}
use Rattle.std.specs.FinMap.{empty}
use Rattle.weed_base.specs.Files.{Files, content}
use Rattle.needle.specs.declared.item.ReadItem.{ReadItem}
use Rattle.needle.specs.declared.version.Version.{Version}
use Rattle.needle_index.specs.Index.{Spots}
use Rattle.std.specs.List.{fold}
use Rattle.std.specs.Simd.{first_chunks}
use Rattle.std.proofs.lemmas.List.{take_all}
use Rattle.needle_index.specs.Text.{entered, entered_all, entry_at, entry_of, entry_text}
use Rattle.needle_index.specs.declared.entry.IndexEntry.{IndexEntry}
use Rattle.needle_index.proofs.Entries.{entered_all-append}
use Rattle.volume_items.specs.Contents.{HoldsAt, end_of}
use Rattle.volume_items.specs.Walk.{AreEntries, HasEntries, IsSeen, Meets, WritesOn}
use Rattle.volume_items.specs.declared.look.Seen.{Seen}
use Rattle.volume_items.proofs.Appended.{end-appended, indexed-appended}
use Rattle.volume_items.proofs.Loaded.{none_loaded}
use Rattle.volume_items.proofs.Walks.{first_appended, items_ended}

pub pushed : {T E : Type 0} (result : Result T E) (old new bytes : List ℕ) → new ≡ (if is_ok result then old ++ bytes else old) → OnOk result (new ≡ old ++ bytes)
pushed (Ok x) old new bytes is = is
pushed (Err fault) old new bytes is = tt

one_entry : (spots : Spots) (bytes : List ℕ) (entry : IndexEntry) → length bytes ≡ 16 → entry_of bytes ≡ entry → entered_all spots bytes ≡ entered spots entry
unfolding entered_all
one_entry spots bytes entry full is =
    let one : length bytes / 16 ≡ 1 = omega (arith, full) in
    ap (λ (n : ℕ). fold (λ spots bytes. entered spots (entry_of bytes)) spots (first_chunks 16 n bytes)) one
    ∙ ap (λ (l : List ℕ). entered spots (entry_of l)) (take_all 16 bytes (omega (arith, full))) ∙ ap (entered spots) is

pub bytes_entered : (old new bytes : List ℕ) (entry : IndexEntry) → new ≡ old ++ bytes → bytes ≡ entry_text entry → entry_of bytes ≡ entry
    → (spots : Spots) → length old % 16 ≡ 0 → entered_all spots new ≡ entered (entered_all spots old) entry
bytes_entered old new bytes entry is text again spots whole =
    let full : length bytes ≡ 16 = ap length text in
    ap (entered_all spots) is ∙ entered_all-append spots old bytes whole ∙ one_entry (entered_all spots old) bytes entry full again

write_on : (version : Version) (text : List ℕ) (old new : ℕ) (before after : List ℕ) (seen : Seen) → IsSeen version text old seen → length after ≡ length before + 16
    → ((spots : Spots) → length before % 16 ≡ 0 → entered_all spots after ≡ entered (entered_all spots before) (entry_at old seen.key seen.size)) → new ≡ old + seen.taken
    → WritesOn version text old new before after true
write_on version text old new before after seen is len enters end = λ items come.
    let read = is.read in
    let here : HoldsAt version text (end_of 8 items) read = subst (λ (n : ℕ). HoldsAt version text n read) come.end is.held in (
      read,
      record {
        first = first_appended version text 8 items read come.first here;
        end = end ∙ ap (λ (n : ℕ). old + n) is.taken ∙ ap (λ (n : ℕ). n + read.taken) come.end ∙ sym (end-appended 8 items read);
        whole = omega (arith, len, come.whole);
        are = enters empty come.whole ∙ (λ i. entered (come.are i) (entry_at (come.end i) (is.key i) (is.size i))) ∙ sym (indexed-appended 8 empty items read);
      },
    )

pub told_on : (told : Option Files) (name : List ℕ) (version : Version) (old new : ℕ) (before after : List ℕ) (seen : Seen) → IfSome told (λ files. Meets version (content files name) old (Some seen))
    → length after ≡ length before + 16
    → ((spots : Spots) → length before % 16 ≡ 0 → entered_all spots after ≡ entered (entered_all spots before) (entry_at old seen.key seen.size)) → new ≡ old + seen.taken
    → IfSome told (λ files. WritesOn version (content files name) old new before after true)
told_on None name version old new before after seen is len enters end = tt
told_on (Some files) name version old new before after seen is len enters end = write_on version (content files name) old new before after seen is len enters end

pub told_begun : (told : Option Files) (name : List ℕ) (version : Version) (entries : List ℕ) (place : ℕ) → entries ≡ [] → place ≡ 8
    → IfSome told (λ files. (items : List ReadItem) × HasEntries version (content files name) place entries items)
told_begun None name version entries place none first = tt
told_begun (Some files) name version entries place none first = (
  [],
  record {
    first = tt;
    end = first;
    whole = ap (λ (l : List ℕ). length l % 16) none;
    are = ap (entered_all empty) none ∙ none_loaded;
  },
)

pub told_ended : (told : Option Files) (name : List ℕ) (version : Version) (old new : ℕ) (before after : List ℕ) → IfSome told (λ files. WritesOn version (content files name) old new before after false)
    → IfSome told (λ files. (items : List ReadItem) × HasEntries version (content files name) old before items) → IfSome told (λ files. AreEntries version (content files name) after)
told_ended None name version old new before after off come = tt
told_ended (Some files) name version old new before after off come =
    let text = content files name in
    let is = come.1 in
    record {
      items = come.0;
      are = items_ended version text 8 come.0 is.first (subst (λ (n : ℕ). (read : ReadItem) → HoldsAt version text n read → ⊥) is.end off.2);
      whole = ap (λ (l : List ℕ). length l % 16) off.1 ∙ is.whole;
      same = ap (entered_all empty) off.1 ∙ is.are;
    }
