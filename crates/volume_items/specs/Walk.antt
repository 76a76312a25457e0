-- What a walk over a file of items meets, place by place.
use Rattle.std.specs.Prelude.{◌≡◌, ℕ, ◌+◌, ◌-◌, ◌%◌, ◌<◌, ◌↔◌, Bool, true, false, IsTrue, List, [], ◌∷◌, ◌++◌, length, take, drop, Option, Some, None}
use Rattle.std.specs.FinMap.{empty}
use Rattle.needle.specs.declared.head.Head.{Head}
use Rattle.needle.specs.declared.item.ReadItem.{ReadItem}
use Rattle.needle.specs.declared.version.Version.{Version}
use Rattle.needle.specs.Fields.{AreBytes}
use Rattle.needle.specs.Item.{content, key_of}
use Rattle.needle.specs.Pieces.{IsHead}
use Rattle.needle_index.specs.Text.{entered_all, spots_of}
use Rattle.volume_items.specs.declared.look.Seen.{Seen}
use Rattle.volume_items.specs.declared.walking.Walked.{Walked}
use Rattle.volume_items.specs.Contents.{AreItems, HoldsAt, end_of, greatest_of, index_of}

-- At a place a head stands, or the text ends before one would.
abbrev pub HasHead : List ℕ → ℕ → Option Head → Type 0
HasHead text place None = length text - place < 20
HasHead text place (Some head) = IsHead (drop place text) head × AreBytes (take 20 (drop place text))

-- Whether an item stands at a place; so many bytes from there on were looked at.
pub record IsJudged (version : Version) (text : List ℕ) (place taken : ℕ) (is : Bool) : Type 0 where
  pub bytes : AreBytes (take taken (drop place text))
  pub judged : IsTrue is ↔ ((read : ReadItem) × HoldsAt version text place read)

-- The item that was seen.
pub record IsSeen (version : Version) (text : List ℕ) (place : ℕ) (seen : Seen) : Type 0 where
  pub read : ReadItem
  pub held : HoldsAt version text place read
  pub key : seen.key ≡ key_of read.item
  pub size : seen.size ≡ length (content read.item)
  pub taken : seen.taken ≡ read.taken
  pub bytes : AreBytes (take read.taken (drop place text))

-- An item stands at a place, and was seen, or none does.
abbrev pub Meets : Version → List ℕ → ℕ → Option Seen → Type 0
Meets version text place None = (read : ReadItem) → HoldsAt version text place read → ⊥
Meets version text place (Some seen) = IsSeen version text place seen

-- These stand first in a text from a place on, one behind another.
abbrev pub AreFirst : Version → List ℕ → ℕ → List ReadItem → Type 0
AreFirst version text place [] = Unit {0}
AreFirst version text place (read ∷ more) = HoldsAt version text place read × AreFirst version text (place + read.taken) more

-- How far a walk came: over these items, whose index, end and greatest key it has.
pub record HasCome (version : Version) (text : List ℕ) (walked : Walked) (items : List ReadItem) : Type 0 where
  pub first : AreFirst version text 8 items
  pub end : walked.end ≡ end_of 8 items
  pub index : walked.index.spots ≡ index_of items
  pub greatest : walked.greatest ≡ greatest_of 0 items
  pub bytes : AreBytes (take (end_of 8 items) text)

-- A walk that came to the first place without an item.
pub record IsWalked (version : Version) (text : List ℕ) (walked : Walked) (items : List ReadItem) : Type 0 where
  pub come : HasCome version text walked items
  pub are : AreItems version text 8 items

-- A step of a walk: one item more, or the end.
abbrev pub WalksOn : Version → List ℕ → Walked → Walked → Bool → Type 0
WalksOn version text old new true = (items : List ReadItem) → HasCome version text old items → (read : ReadItem) × HasCome version text new (items ++ read ∷ [])
WalksOn version text old new false = (new ≡ old) × ((read : ReadItem) → HoldsAt version text old.end read → ⊥)

-- How far the writing of an index came: over these items, whose entries the text has.
pub record HasEntries (version : Version) (text : List ℕ) (place : ℕ) (entries : List ℕ) (items : List ReadItem) : Type 0 where
  pub first : AreFirst version text 8 items
  pub end : place ≡ end_of 8 items
  pub whole : length entries % 16 ≡ 0
  pub are : entered_all empty entries ≡ index_of items

-- A step of it: one entry more, or the end.
abbrev pub WritesOn : Version → List ℕ → ℕ → ℕ → List ℕ → List ℕ → Bool → Type 0
WritesOn version text old new before after true =
    (items : List ReadItem) → HasEntries version text old before items → (read : ReadItem) × HasEntries version text new after (items ++ read ∷ [])
WritesOn version text old new before after false = (new ≡ old) × (after ≡ before) × ((read : ReadItem) → HoldsAt version text old read → ⊥)

-- The entries of all items of a text.
pub record AreEntries (version : Version) (text entries : List ℕ) : Type 0 where
  pub items : List ReadItem
  pub are : AreItems version text 8 items
  pub whole : length entries % 16 ≡ 0
  pub same : spots_of entries ≡ index_of items
