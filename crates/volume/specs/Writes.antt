-- What a write of a needle answers, and what it leaves.
use Rattle.std.specs.Prelude.{◌≡◌, ◌≢◌, ℕ, ◌+◌, ◌≤◌, ◌<◌, ◌^◌, ◌⊎◌, true, false, List, length, Option, Some, None, Result, Ok, Err, IfSome}
use Rattle.std.specs.Option.{option_map}
use Rattle.std.specs.FinMap.{get}
use Rattle.weed_base.specs.Files.{Files}
use Rattle.needle.specs.Crc.{checksum}
use Rattle.needle.specs.declared.item.Item.TheVariants.{Live}
use Rattle.needle.specs.declared.item.Needle.{Needle}
use Rattle.needle.specs.declared.item.ReadItem.{ReadItem}
use Rattle.needle.specs.Item.{content}
use Rattle.volume_items.specs.declared.fault.VolumeFault.{VolumeFault}
use Rattle.volume_items.specs.declared.fault.VolumeFault.TheVariants.{DiskFault, Broken, EmptyData, ReadOnly as IsReadOnly, TooLarge, VolumeFull, WrongCookie, Memory}
use Rattle.volume.specs.declared.held.Mode.TheVariants.{ReadWrite, ReadOnly}
use Rattle.volume.specs.declared.held.Volume.{Volume}
use Rattle.volume.specs.declared.writing.Written.{Written}
use Rattle.volume.specs.Appending.{IsAsWas, taken_by}
use Rattle.volume_items.specs.Contents.{Contents, contents_of, last_end, most_data}
use Rattle.volume.specs.Holds.{Holds}

-- ---- the cases

-- A volume that may be written to.
abbrev pub IsOpen : Volume → Type 0
IsOpen volume = (volume.broken ≡ false) × (volume.mode ≡ ReadWrite)

-- Why a volume may not.
abbrev pub IsClosed : Volume → VolumeFault → Type 0
IsClosed volume Broken = volume.broken ≡ true
IsClosed volume IsReadOnly = (volume.broken ≡ false) × (volume.mode ≡ ReadOnly)
IsClosed volume fault = ⊥

-- Data of a length that may be.
abbrev pub IsSized : Needle → Type 0
IsSized needle = (1 ≤ length needle.body) × (length needle.body ≤ most_data)

-- Data of one that may not.
abbrev pub IsMissized : Needle → VolumeFault → Type 0
IsMissized needle EmptyData = length needle.body ≡ 0
IsMissized needle (TooLarge len) = (len ≡ length needle.body) × (most_data < len)
IsMissized needle fault = ⊥

-- The limits of the other parts.
pub record HasSmallParts (needle : Needle) : Type 0 where
  pub name : IfSome needle.name (λ name. length name ≤ 255)
  pub mime : IfSome needle.mime (λ mime. length mime ≤ 255)
  pub modified : IfSome needle.modified (λ seconds. seconds < 2 ^ 40)
  pub pairs : IfSome needle.pairs (λ pairs. length pairs ≤ 65535)

-- The cookie under which contents hold a key.
abbrev pub cookie_in : Contents → ℕ → Option ℕ
cookie_in contents key = option_map (λ needle. needle.cookie) (get contents key)

-- A needle of this cookie may take the place of what the key has.
abbrev pub MayReplace : Option ℕ → ℕ → Type 0
MayReplace None cookie = Unit {0}
MayReplace (Some held) cookie = held ≡ cookie

-- It may not, since the key is held under another cookie.
abbrev pub IsHeldOtherwise : Option ℕ → ℕ → VolumeFault → Type 0
IsHeldOtherwise (Some held) cookie (WrongCookie other) = (other ≡ held) × (held ≢ cookie)
IsHeldOtherwise held cookie fault = ⊥

-- There is no room behind a place for so many bytes.
abbrev pub IsFull : ℕ → ℕ → VolumeFault → Type 0
IsFull end taken (VolumeFull place) = (place ≡ end) × (last_end < end + taken)
IsFull end taken fault = ⊥

-- What is told of a needle that was written.
pub record IsWritten (volume : Volume) (needle : Needle) (written : Written) : Type 0 where
  pub at : written.at ≡ volume.end
  pub size : written.size ≡ length (content (Live needle))
  pub checksum_is : written.checksum ≡ checksum needle.body

-- ---- the answers

-- Those of an append to an open volume, of data that fits and a cookie that may be.
abbrev pub AppendAnswers : Volume → Needle → Result Written VolumeFault → Type 0
AppendAnswers volume needle (Ok written) = (volume.end + taken_by volume.block.version (Live needle) ≤ last_end) × IsWritten volume needle written
AppendAnswers volume needle (Err (VolumeFull end)) = IsFull volume.end (taken_by volume.block.version (Live needle)) (VolumeFull end)
AppendAnswers volume needle (Err Memory) = volume.end + taken_by volume.block.version (Live needle) ≤ last_end
AppendAnswers volume needle (Err DiskFault) = Unit {0}
AppendAnswers volume needle (Err fault) = ⊥

-- Those of a write to an open volume, of data that fits.
abbrev pub SizedAnswers : Volume → Needle → Result Written VolumeFault → Type 0
SizedAnswers volume needle (Err (WrongCookie held)) = held ≢ needle.cookie
SizedAnswers volume needle result = AppendAnswers volume needle result

-- Those of any write, each in its case, which leaves out those before it.
abbrev pub WriteAnswers : Volume → Needle → Result Written VolumeFault → Type 0
WriteAnswers volume needle (Err Broken) = IsClosed volume Broken
WriteAnswers volume needle (Err IsReadOnly) = IsClosed volume IsReadOnly
WriteAnswers volume needle (Err EmptyData) = IsOpen volume × IsMissized needle EmptyData
WriteAnswers volume needle (Err (TooLarge len)) = IsOpen volume × IsMissized needle (TooLarge len)
WriteAnswers volume needle result = IsOpen volume × IsSized needle × SizedAnswers volume needle result

-- The same by the cookie under which the key is held.
abbrev pub WritesOver : Option ℕ → ℕ → Result Written VolumeFault → Type 0
WritesOver held cookie (Ok written) = MayReplace held cookie
WritesOver held cookie (Err (WrongCookie other)) = IsHeldOtherwise held cookie (WrongCookie other)
WritesOver held cookie (Err (VolumeFull end)) = MayReplace held cookie
WritesOver held cookie (Err Memory) = MayReplace held cookie
WritesOver held cookie (Err fault) = Unit {0}

-- The same by the contents.
abbrev pub OverContents : Volume → Needle → Result Written VolumeFault → Files → Type 0
OverContents volume needle result files = (items : List ReadItem) → Holds volume items files → WritesOver (cookie_in (contents_of items) needle.key) needle.cookie result

-- ---- what a refusal leaves

-- The volume is as it was, and the files are but for a fault of the disk.
abbrev pub Stays : Volume → Volume → Option Files → Option Files → VolumeFault → Type 0
Stays old new before now fault = IsAsWas old new × ((fault ≡ DiskFault) ⊎ (now ≡ before))

-- All is as it was, but a volume that a fault of the disk broke.
abbrev pub Leaves : Volume → Volume → Option Files → Option Files → VolumeFault → Type 0
Leaves old new before now DiskFault = new.broken ≡ true
Leaves old new before now fault = IsAsWas old new × (now ≡ before)
