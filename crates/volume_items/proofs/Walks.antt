-- A walk over the items of a file.
use Rattle.std.proofs.Common.{◌≡◌, ℕ, ◌+◌, max, true, false, List, [], ◌∷◌, ◌++◌, take, drop, sym, ap, subst, ◌∙◌, Option, Some, None}
use Rattle.std.specs.Prelude.{IfSome}
use Rattle.std.proofs.Math.Seq.{take-add}
use Rattle.std.specs.FinMap.{empty}
use Rattle.weed_base.specs.Files.{Files, content}
use Rattle.needle.specs.declared.item.ReadItem.{ReadItem}
use Rattle.needle.specs.declared.version.Version.{Version}
use Rattle.needle.specs.Fields.{AreBytes}
use Rattle.needle_index.specs.Index.{Spots}
use Rattle.needle_index.specs.Text.{entered, entry_at}
use Rattle.volume_items.specs.Contents.{AreItems, HoldsAt, end_of}
use Rattle.volume_items.specs.Walk.{AreFirst, HasCome, IsSeen, IsWalked, Meets, WalksOn}
use Rattle.volume_items.specs.declared.look.Seen.{Seen}
use Rattle.volume_items.specs.declared.walking.Walked.{Walked}
use Rattle.volume_items.proofs.Appended.{end-appended, indexed-appended, greatest-appended}
use Rattle.volume_items.proofs.Summed.{bytes_append}

pub first_appended : (version : Version) (text : List ℕ) (place : ℕ) (items : List ReadItem) (read : ReadItem) → AreFirst version text place items
    → HoldsAt version text (end_of place items) read → AreFirst version text place (items ++ read ∷ [])
first_appended version text place [] read first held = (held, tt)
first_appended version text place (one ∷ items) read first held = (first.0, first_appended version text (place + one.taken) items read first.1 held)

pub items_ended : (version : Version) (text : List ℕ) (place : ℕ) (items : List ReadItem) → AreFirst version text place items
    → ((read : ReadItem) → HoldsAt version text (end_of place items) read → ⊥) → AreItems version text place items
items_ended version text place [] first none = none
items_ended version text place (one ∷ items) first none = (first.0, items_ended version text (place + one.taken) items first.1 none)

-- an item more
come_on : (version : Version) (text : List ℕ) (old new : Walked) (seen : Seen) → IsSeen version text old.end seen
    → new.index.spots ≡ entered old.index.spots (entry_at old.end seen.key seen.size) → new.end ≡ old.end + seen.taken → new.greatest ≡ max old.greatest seen.key
    → WalksOn version text old new true
come_on version text old new seen is index end greatest = λ items come.
    let read = is.read in
    let here : HoldsAt version text (end_of 8 items) read = subst (λ (n : ℕ). HoldsAt version text n read) come.end is.held in
    let ends : end_of 8 (items ++ read ∷ []) ≡ end_of 8 items + read.taken = end-appended 8 items read in
    let bytes : AreBytes (take read.taken (drop (end_of 8 items) text)) = subst (λ (n : ℕ). AreBytes (take read.taken (drop n text))) come.end is.bytes in
    let entry = λ (spots : Spots). λ (place key size : ℕ). entered spots (entry_at place key size) in (
      read,
      record {
        first = first_appended version text 8 items read come.first here;
        end = end ∙ ap (λ (n : ℕ). old.end + n) is.taken ∙ ap (λ (n : ℕ). n + read.taken) come.end ∙ sym ends;
        index = index ∙ (λ i. entered (come.index i) (entry_at (come.end i) (is.key i) (is.size i))) ∙ sym (indexed-appended 8 empty items read);
        greatest = greatest ∙ (λ i. max (come.greatest i) (is.key i)) ∙ sym (greatest-appended 0 items read);
        bytes = subst AreBytes (sym (ap (λ (n : ℕ). take n text) ends ∙ take-add (end_of 8 items) read.taken text)) (bytes_append (take (end_of 8 items) text) _ come.bytes bytes);
      },
    )

pub told_on : (told : Option Files) (name : List ℕ) (version : Version) (old new : Walked) (seen : Seen) → IfSome told (λ files. Meets version (content files name) old.end (Some seen))
    → new.index.spots ≡ entered old.index.spots (entry_at old.end seen.key seen.size) → new.end ≡ old.end + seen.taken → new.greatest ≡ max old.greatest seen.key
    → IfSome told (λ files. WalksOn version (content files name) old new true)
told_on None name version old new seen is index end greatest = tt
told_on (Some files) name version old new seen is index end greatest = come_on version (content files name) old new seen is index end greatest

-- before the first step
pub told_begun : (told : Option Files) (name : List ℕ) (version : Version) (walked : Walked) → walked.index.spots ≡ empty → walked.end ≡ 8 → walked.greatest ≡ 0
    → IfSome told (λ files. AreBytes (take 8 (content files name))) → IfSome told (λ files. (items : List ReadItem) × HasCome version (content files name) walked items)
told_begun None name version walked index end greatest front = tt
told_begun (Some files) name version walked index end greatest front = ([], record { first = tt; end = end; index = index; greatest = greatest; bytes = front })

pub told_more : (told : Option Files) (name : List ℕ) (version : Version) (old new : Walked) → IfSome told (λ files. WalksOn version (content files name) old new true)
    → IfSome told (λ files. (items : List ReadItem) × HasCome version (content files name) old items) → IfSome told (λ files. (items : List ReadItem) × HasCome version (content files name) new items)
told_more None name version old new on come = tt
told_more (Some files) name version old new on come = let next = on come.0 come.1 in (come.0 ++ next.0 ∷ [], next.1)

pub told_ended : (told : Option Files) (name : List ℕ) (version : Version) (old new : Walked) → IfSome told (λ files. WalksOn version (content files name) old new false)
    → IfSome told (λ files. (items : List ReadItem) × HasCome version (content files name) old items) → IfSome told (λ files. (items : List ReadItem) × IsWalked version (content files name) new items)
told_ended None name version old new off come = tt
told_ended (Some files) name version old new off come =
    let text = content files name in (
      come.0,
      record {
        come = subst (λ w. HasCome version text w come.0) (sym off.0) come.1;
        are = items_ended version text 8 come.0 (come.1).first (subst (λ (n : ℕ). (read : ReadItem) → HoldsAt version text n read → ⊥) (come.1).end off.1);
      },
    )
