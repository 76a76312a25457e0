-- Where the needles of a volume lie, by its index.
use Rattle.std.specs.Prelude.{◌≡◌, ℕ, ◌*◌, List, length, take, drop, Option, Some, None}
use Rattle.needle.specs.declared.item.Item.TheVariants.{Live}
use Rattle.needle.specs.declared.item.Needle.{Needle}
use Rattle.needle.specs.declared.item.ReadItem.{ReadItem}
use Rattle.needle.specs.declared.version.Version.{Version}
use Rattle.needle.specs.Fields.{AreBytes}
use Rattle.needle.specs.Item.{content}
use Rattle.needle_index.specs.declared.spot.Spot.{Spot}
use Rattle.volume_items.specs.Contents.{HoldsAt}

-- The needle of a key lies at this spot of a text.
pub record IsAt (version : Version) (text : List ℕ) (key : ℕ) (spot : Spot) (needle : Needle) : Type 0 where
  pub read : ReadItem
  pub held : HoldsAt version text (8 * spot.offset) read
  pub item : read.item ≡ Live needle
  pub of_key : needle.key ≡ key
  pub size : spot.size ≡ length (content (Live needle))
  pub bytes : AreBytes (take read.taken (drop (8 * spot.offset) text))

-- What an index says of a key leads to the needle that the contents have, and to none where they have none.
abbrev pub Leads : Version → List ℕ → ℕ → Option Spot → Option Needle → Type 0
Leads version text key None None = Unit {0}
Leads version text key (Some spot) (Some needle) = IsAt version text key spot needle
Leads version text key None (Some needle) = ⊥
Leads version text key (Some spot) None = ⊥
