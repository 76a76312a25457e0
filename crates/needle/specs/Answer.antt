-- What reading an item answers: which item a text begins with, and when each refusal comes.
use Rattle.std.specs.Prelude.{◌≡◌, ◌≢◌, ℕ, ◌+◌, ◌^◌, ◌<◌, true, false, List, ◌++◌, length}
use Rattle.needle.specs.declared.fault.NeedleFault.{NeedleFault}
use Rattle.needle.specs.declared.fault.NeedleFault.TheVariants.{Truncated, SizeMismatch, ReservedSet, Compressed, Manifest, ChecksumMismatch}
use Rattle.needle.specs.declared.item.Item.{Item}
use Rattle.needle.specs.declared.item.Item.TheVariants.{Live, Gone}
use Rattle.needle.specs.declared.item.Needle.{Needle}
use Rattle.needle.specs.declared.item.ReadItem.{ReadItem}
use Rattle.needle.specs.declared.version.Version.{Version}
use Rattle.needle.specs.declared.version.Version.TheVariants.{V2, V3}
use Rattle.needle.specs.Crc.{checksum}
use Rattle.needle.specs.Fields.{size_in, counted_in, checksum_in, IsWhole, IsTruncated}
use Rattle.needle.specs.Item.{Marks, IsNeedle, counted, content, body_of, item_front, padding_len}

-- ---- what is read

-- An item whose values fit the text.
abbrev pub IsItem : Item → Type 0
IsItem (Live needle) = IsNeedle needle
IsItem (Gone cookie key) = (cookie < 2 ^ 32) × (key < 2 ^ 64)

-- A moment that the version keeps: version 2 keeps none, which counts as 0.
abbrev pub IsMoment : Version → ℕ → Type 0
IsMoment V2 moment = moment ≡ 0
IsMoment V3 moment = moment < 2 ^ 64

-- What the version keeps of a moment.
abbrev pub kept_moment : Version → ℕ → ℕ
kept_moment V2 moment = 0
kept_moment V3 moment = moment

-- The text begins with an item: its spelling, then padding, which may be of any bytes.
pub record BeginsWith (version : Version) (text : List ℕ) (read : ReadItem) : Type 0 where
  pub item : IsItem read.item
  pub moment : IsMoment version read.moment
  pub padding : List ℕ
  pub rest : List ℕ
  pub spelled : text ≡ item_front read.item version read.moment ++ (padding ++ rest)
  pub padded_by : length padding ≡ padding_len (item_front read.item version read.moment)
  pub taken : read.taken ≡ length (item_front read.item version read.moment) + length padding

-- ---- what is refused

-- The item is whole, and its size counts the parts of a needle with these marks, of any cookie and key.
pub record Says (version : Version) (text : List ℕ) (marks : Marks) (needle : Needle) : Type 0 where
  pub whole : IsWhole version text
  pub fits : IsNeedle needle
  pub parts : counted_in text ≡ counted marks needle

-- The item is whole, but its checksum isn't that of its data.
pub record IsDamaged (version : Version) (text : List ℕ) (stored computed : ℕ) : Type 0 where
  pub whole : IsWhole version text
  pub item : Item
  pub fits : IsItem item
  pub parts : counted_in text ≡ content item
  pub stored_is : stored ≡ checksum_in text
  pub computed_is : computed ≡ checksum (body_of item)
  pub other : stored ≢ computed

-- When each refusal comes. The refusals stand in their order, and each leaves out those before it.
abbrev pub IsRefused : Version → List ℕ → NeedleFault → Type 0
IsRefused version text Truncated = IsTruncated version text
IsRefused version text SizeMismatch =
    IsWhole version text × (0 < size_in text) × ((marks : Marks) (needle : Needle) → Says version text marks needle → ⊥)
IsRefused version text ReservedSet =
    (marks : Marks) × (needle : Needle) × Says version text marks needle × (marks.reserved ≡ true)
IsRefused version text Compressed =
    (marks : Marks) × (needle : Needle) × Says version text marks needle × (marks.reserved ≡ false) × (marks.compressed ≡ true)
IsRefused version text Manifest =
    (marks : Marks) × (needle : Needle) × Says version text marks needle
    × (marks.reserved ≡ false) × (marks.compressed ≡ false) × (marks.manifest ≡ true)
IsRefused version text (ChecksumMismatch stored computed) = IsDamaged version text stored computed
IsRefused version text _ = ⊥
