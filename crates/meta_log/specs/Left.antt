-- Payloads that are left to be read.
use Rattle.std.specs.Prelude.{◌≡◌, ℕ, ◌+◌, ◌≤◌, ◌<◌, ◌⊎◌, ⊤, List, [], ◌∷◌, ◌++◌, length, drop, All, sum_by, nat_le, if◌then◌else◌, zero, suc, Option, None, Some}
use Rattle.meta_log.specs.Segment.{IsShort, item, items}
use Rattle.meta_log.specs.declared.head.Head.{Head}
use Rattle.meta_log.specs.declared.head.Head.TheVariants.{Closed, Broken, Item}

-- From this place on stand the items of these payloads, and behind them the gate.
pub record IsLeft (bytes : List ℕ) (gate at : ℕ) (left : List (List ℕ)) : Type 0 where
  pub tail : List ℕ
  pub spelled : drop at bytes ≡ items left ++ tail
  pub place : gate ≡ at + length (items left)
  pub short : All IsShort left

-- What a head means among items, where no gate is closed.
abbrev pub among_items : Head → Head
among_items Closed = Broken
among_items Broken = Broken
among_items (Item size) = Item size

-- The head that is met where these are left: closed where there is none, and else the first one's item.
abbrev pub MeetsNext : List (List ℕ) → Head → Type 0
MeetsNext left Closed = left ≡ []
MeetsNext left Broken = ⊥
MeetsNext left (Item size) = (payload : List ℕ) × (rest : List (List ℕ)) × (left ≡ payload ∷ rest) × (length payload ≡ size)

-- The first of them was taken, or none was left.
abbrev pub TakesNext : List ℕ → ℕ → ℕ → List (List ℕ) → Option (List ℕ) → Type 0
TakesNext bytes gate at left None = left ≡ []
TakesNext bytes gate at left (Some text) = (rest : List (List ℕ)) × (left ≡ text ∷ rest) × IsLeft bytes gate at rest

-- The first of the texts, at most so many, and no more once they reach so many bytes with those before.
abbrev pub batch_from : ℕ → ℕ → ℕ → List (List ℕ) → List (List ℕ)
batch_from most zero had texts = []
batch_from most (suc room) had [] = []
batch_from most (suc room) had (text ∷ texts) = if nat_le most had then [] else text ∷ batch_from most room (had + length text) texts

-- The first of the texts, at most so many, and no more once they reach 67,108,864 bytes.
abbrev pub batch : ℕ → List (List ℕ) → List (List ℕ)
batch room texts = batch_from 67108864 room 0 texts

-- The texts fill the room, or have so many bytes, or the place behind them is the gate or past it.
abbrev pub FillsOrEnds : ℕ → ℕ → ℕ → ℕ → List (List ℕ) → Type 0
FillsOrEnds room most gate at texts = (length texts ≡ room) ⊎ (most ≤ sum_by length texts) ⊎ (gate ≤ at)

-- At this place of any bytes stands the item of this text.
abbrev pub StandsAt : List ℕ → ℕ → List ℕ → Type 0
StandsAt bytes at text = (rest : List ℕ) × (drop at bytes ≡ item text ++ rest) × IsShort text

-- No item stands there.
abbrev pub NoItemAt : List ℕ → ℕ → Type 0
NoItemAt bytes at = (text : List ℕ) → ¬ StandsAt bytes at text

-- From the place on stand the items of these texts, one behind another, each at a place before the gate.
abbrev pub StandFrom : List ℕ → ℕ → ℕ → List (List ℕ) → Type 0
StandFrom bytes gate at [] = ⊤
StandFrom bytes gate at (text ∷ texts) = (at < gate) × StandsAt bytes at text × StandFrom bytes gate (at + length (item text)) texts

-- What a head says of the place: the gate is reached, or before it no item stands, or that of a text of so many bytes.
abbrev pub IsHeadAt : List ℕ → ℕ → ℕ → Head → Type 0
IsHeadAt bytes gate at Closed = gate ≤ at
IsHeadAt bytes gate at Broken = (at < gate) × NoItemAt bytes at
IsHeadAt bytes gate at (Item size) = (at < gate) × ((text : List ℕ) × StandsAt bytes at text × (length text ≡ size))

-- Before the gate stand texts that don't fill a batch, and right behind them, at this place, no item.
pub record BreaksAt (bytes : List ℕ) (gate room most from at : ℕ) : Type 0 where
  pub texts : List (List ℕ)
  pub stand : StandFrom bytes gate from texts
  pub few : length texts < room
  pub small : sum_by length texts < most
  pub place : at ≡ from + length (items texts)
  pub inside : at < gate
  pub none : NoItemAt bytes at
