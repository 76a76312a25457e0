-- What a read of a needle answers.
use Rattle.std.specs.Prelude.{◌≡◌, ◌≢◌, ℕ, ◌*◌, ◌⊎◌, true, false, IsSome, List, take, drop, Option, Some, None, Result, Ok, Err}
use Rattle.std.specs.FinMap.{get}
use Rattle.weed_base.specs.Files.{Files, content}
use Rattle.needle.specs.declared.fault.NeedleFault.{NeedleFault}
use Rattle.needle.specs.declared.fault.NeedleFault.TheVariants.{ChecksumMismatch, Memory as NeedleMemory}
use Rattle.needle.specs.declared.item.Item.TheVariants.{Live}
use Rattle.needle.specs.declared.item.Needle.{Needle}
use Rattle.needle.specs.declared.item.ReadItem.{ReadItem}
use Rattle.needle.specs.declared.version.Version.{Version}
use Rattle.needle.specs.Fields.{eight_at, size_in}
use Rattle.needle.specs.Layout.{padded}
use Rattle.needle.specs.Reading.{read_at}
use Rattle.needle_index.specs.declared.spot.Spot.{Spot}
use Rattle.volume_items.specs.declared.fault.VolumeFault.{VolumeFault}
use Rattle.volume_items.specs.declared.fault.VolumeFault.TheVariants.{DiskFault, Broken, NotHeld, WrongCookie, Damaged, Memory}
use Rattle.volume_items.specs.declared.file_names.Part.TheVariants.{Items}
use Rattle.volume.specs.declared.held.Volume.{Volume}
use Rattle.volume_items.specs.FileNames.{name_of}

-- ---- what bytes say

-- The bytes tell of this key and size.
abbrev pub TellsOf : ℕ → ℕ → List ℕ → Type 0
TellsOf key size text = (eight_at 4 text ≡ key) × (size_in text ≡ size)

-- The bytes are the item of this needle, of the key and the size.
pub record IsNeedleOf (version : Version) (text : List ℕ) (key size : ℕ) (needle : Needle) : Type 0 where
  pub read : ReadItem
  pub tells : TellsOf key size text
  pub is_read : read_at version text ≡ Ok read
  pub item : read.item ≡ Live needle

-- The bytes are an item of the key and the size, but for its checksum.
abbrev pub HasOtherSum : Version → List ℕ → ℕ → ℕ → ℕ → ℕ → Type 0
HasOtherSum version text key size stored computed = TellsOf key size text × (read_at version text ≡ Err (ChecksumMismatch stored computed))

-- The bytes are no whole item of the key and the size.
pub record IsNoItem (version : Version) (text : List ℕ) (key size : ℕ) : Type 0 where
  pub unread : (needle : Needle) → IsNeedleOf version text key size needle → ⊥
  pub unlike : (stored computed : ℕ) → HasOtherSum version text key size stored computed → ⊥

-- Which damage is told: the two checksums, or 0 twice where no whole item is there.
abbrev pub IsDamage : Version → List ℕ → ℕ → ℕ → ℕ → ℕ → Type 0
IsDamage version text key size stored computed =
    HasOtherSum version text key size stored computed ⊎ (IsNoItem version text key size × (stored ≡ 0) × (computed ≡ 0))

-- What a needle's refusal says of its place.
abbrev pub damage_of : ℕ → NeedleFault → VolumeFault
damage_of at (ChecksumMismatch stored computed) = Damaged at stored computed
damage_of at NeedleMemory = Memory
damage_of at fault = Damaged at 0 0

-- What bytes at a place give of a key and a size.
abbrev pub Yields : Version → List ℕ → ℕ → ℕ → ℕ → Result Needle VolumeFault → Type 0
Yields version text key size at (Ok needle) = IsNeedleOf version text key size needle
Yields version text key size at (Err (Damaged place stored computed)) = (place ≡ at) × IsDamage version text key size stored computed
Yields version text key size at (Err Memory) = Unit {0}
Yields version text key size at (Err fault) = ⊥

-- The same of a disk whose call may fail, too.
abbrev pub YieldsOr : Version → List ℕ → ℕ → ℕ → ℕ → Result Needle VolumeFault → Type 0
YieldsOr version text key size at (Err DiskFault) = Unit {0}
YieldsOr version text key size at result = Yields version text key size at result

-- The bytes of the item at a spot of a text.
abbrev pub bytes_at : Version → List ℕ → Spot → List ℕ
bytes_at version text spot = take (padded version spot.size) (drop (8 * spot.offset) text)

-- Why no needle was read at a spot.
abbrev pub MayFailToRead : VolumeFault → Type 0
MayFailToRead DiskFault = Unit {0}
MayFailToRead Memory = Unit {0}
MayFailToRead (Damaged at stored computed) = Unit {0}
MayFailToRead fault = ⊥

-- What the file of items gives of a key at a spot.
abbrev pub YieldsAt : Volume → ℕ → Spot → Files → Result Needle VolumeFault → Type 0
YieldsAt volume key spot files result =
    YieldsOr volume.block.version (bytes_at volume.block.version (content files (name_of volume.id Items)) spot) key spot.size (8 * spot.offset) result

-- What the contents say of what was read at a spot.
abbrev pub Gets : Option Needle → Result Needle VolumeFault → Type 0
Gets held (Ok needle) = held ≡ Some needle
Gets held (Err (Damaged at stored computed)) = ⊥
Gets held (Err fault) = Unit {0}

-- ---- what a read answers

-- Which cookie is another one.
abbrev pub IsOther : ℕ → ℕ → Type 0
IsOther cookie held = held ≢ cookie

-- The refusals, each in its case, by the volume alone.
abbrev pub ReadAnswers : Volume → ℕ → ℕ → Result Needle VolumeFault → Type 0
ReadAnswers volume key cookie (Ok needle) = (volume.broken ≡ false) × IsSome (get volume.index.spots key) × (needle.cookie ≡ cookie)
ReadAnswers volume key cookie (Err Broken) = volume.broken ≡ true
ReadAnswers volume key cookie (Err NotHeld) = (volume.broken ≡ false) × (get volume.index.spots key ≡ None)
ReadAnswers volume key cookie (Err (WrongCookie held)) = (volume.broken ≡ false) × IsSome (get volume.index.spots key) × IsOther cookie held
ReadAnswers volume key cookie (Err DiskFault) = (volume.broken ≡ false) × IsSome (get volume.index.spots key)
ReadAnswers volume key cookie (Err (Damaged at stored computed)) = (volume.broken ≡ false) × IsSome (get volume.index.spots key)
ReadAnswers volume key cookie (Err Memory) = (volume.broken ≡ false) × IsSome (get volume.index.spots key)
ReadAnswers volume key cookie (Err fault) = ⊥

-- A needle of the bytes has this cookie.
abbrev pub HasCookie : Version → List ℕ → ℕ → ℕ → ℕ → Type 0
HasCookie version text key size cookie = (needle : Needle) × IsNeedleOf version text key size needle × (needle.cookie ≡ cookie)

-- What a read answers by the bytes at the key's spot.
abbrev pub ReadsAt : Version → List ℕ → ℕ → ℕ → ℕ → Result Needle VolumeFault → Type 0
ReadsAt version text key size at (Ok needle) = IsNeedleOf version text key size needle
ReadsAt version text key size at (Err (WrongCookie held)) = HasCookie version text key size held
ReadsAt version text key size at (Err (Damaged place stored computed)) = (place ≡ at) × IsDamage version text key size stored computed
ReadsAt version text key size at (Err fault) = Unit {0}

-- The same by the files.
abbrev pub ReadsFiles : Volume → ℕ → Files → Result Needle VolumeFault → Type 0
ReadsFiles volume key files result = (spot : Spot) → get volume.index.spots key ≡ Some spot
    → ReadsAt volume.block.version (bytes_at volume.block.version (content files (name_of volume.id Items)) spot) key spot.size (8 * spot.offset) result

-- What a read answers by the contents: never that an item is damaged.
abbrev pub ReadsFrom : Option Needle → ℕ → Result Needle VolumeFault → Type 0
ReadsFrom (Some held) cookie (Ok needle) = needle ≡ held
ReadsFrom None cookie (Ok needle) = ⊥
ReadsFrom held cookie (Err NotHeld) = held ≡ None
ReadsFrom (Some held) cookie (Err (WrongCookie other)) = other ≡ held.cookie
ReadsFrom None cookie (Err (WrongCookie other)) = ⊥
ReadsFrom held cookie (Err (Damaged at stored computed)) = ⊥
ReadsFrom held cookie (Err fault) = Unit {0}
