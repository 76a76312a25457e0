-- The text of an item. All numbers stand with their high byte first.
use Rattle.std.specs.Prelude.{◌≡◌, ℕ, ◌+◌, ◌-◌, ◌*◌, ◌%◌, ◌^◌, ◌<◌, ◌≤◌, Bool, false, if◌then◌else◌, List, [], ◌∷◌, ◌++◌, length, drop, replicate, Option, Some, None, is_some, IfSome}
use Rattle.std.specs.Int.{w16, w32, w64, to_be_bytes}
use Rattle.needle.specs.declared.item.Item.{Item}
use Rattle.needle.specs.declared.item.Item.TheVariants.{Live, Gone}
use Rattle.needle.specs.declared.item.Needle.{Needle}
use Rattle.needle.specs.declared.version.Version.{Version}
use Rattle.needle.specs.declared.version.Version.TheVariants.{V2, V3}
use Rattle.needle.specs.Crc.{checksum}

-- ---- the parts that a flag tells of

-- The text of what is there.
abbrev pub part : {A : Type 0} → (A → List ℕ) → Option A → List ℕ
part text None = []
part text (Some value) = text value

-- A length in one byte, and that many bytes.
abbrev pub short_text : List ℕ → List ℕ
short_text bytes = length bytes ∷ bytes

-- A length in two bytes, and that many bytes.
abbrev pub long_text : List ℕ → List ℕ
long_text bytes = to_be_bytes w16 (length bytes) ++ bytes

-- The low five bytes of a number.
abbrev pub five_bytes : ℕ → List ℕ
five_bytes number = drop 3 (to_be_bytes w64 number)

-- ---- the flags

-- Flags that tell of no part. A needle is written without them, and refused with one of them.
pub record Marks : Type 0 where
  pub compressed : Bool
  pub reserved : Bool
  pub manifest : Bool

-- None of them.
abbrev pub unmarked : Marks
unmarked = record { compressed = false; reserved = false; manifest = false }

-- A flag as a number.
abbrev pub bit : Bool → ℕ
bit is_set = if is_set then 1 else 0

-- The byte of the flags: of the marks, and of the parts that are there.
abbrev pub flags : Marks → Needle → ℕ
flags marks needle =
    bit marks.compressed + 2 * bit (is_some needle.name) + 4 * bit (is_some needle.mime) + 8 * bit (is_some needle.modified)
    + 16 * bit (is_some needle.ttl) + 32 * bit (is_some needle.pairs) + 64 * bit marks.reserved + 128 * bit marks.manifest

-- ---- the whole item

-- The parts that a flag tells of, in their order.
abbrev pub parts_text : Needle → List ℕ
parts_text needle =
    part short_text needle.name ++ (part short_text needle.mime ++ (part five_bytes needle.modified
    ++ (part (λ ttl. ttl) needle.ttl ++ part long_text needle.pairs)))

-- What `size` counts of a needle with these marks: the length of the data, the data, the flags and their parts.
abbrev pub counted : Marks → Needle → List ℕ
counted marks needle = to_be_bytes w32 (length needle.body) ++ (needle.body ++ (flags marks needle ∷ parts_text needle))

-- What `size` counts: nothing of a deletion.
abbrev pub content : Item → List ℕ
content (Live needle) = counted unmarked needle
content (Gone cookie key) = []

-- The data of an item, none of a deletion.
abbrev pub body_of : Item → List ℕ
body_of (Live needle) = needle.body
body_of (Gone cookie key) = []

-- The cookie of an item.
abbrev pub cookie_of : Item → ℕ
cookie_of (Live needle) = needle.cookie
cookie_of (Gone cookie key) = cookie

-- The key of an item.
abbrev pub key_of : Item → ℕ
key_of (Live needle) = needle.key
key_of (Gone cookie key) = key

-- When it was appended, from version 3 on.
abbrev pub moment_text : Version → ℕ → List ℕ
moment_text V2 moment = []
moment_text V3 moment = to_be_bytes w64 moment

-- The item up to its padding: cookie, key, size, what it counts, the checksum of the data, and the moment.
abbrev pub item_front : Item → Version → ℕ → List ℕ
item_front item version moment =
    to_be_bytes w32 (cookie_of item) ++ (to_be_bytes w64 (key_of item) ++ (to_be_bytes w32 (length (content item)) ++ (content item
    ++ (to_be_bytes w32 (checksum (body_of item)) ++ moment_text version moment))))

-- 1 to 8 bytes, to a multiple of 8.
abbrev pub padding_len : List ℕ → ℕ
padding_len front = 8 - length front % 8

-- The item as it is written: padded with zeros.
abbrev pub item_text : Item → Version → ℕ → List ℕ
item_text item version moment =
    let front = item_front item version moment in front ++ replicate (padding_len front) 0

-- ---- what can be written

-- A needle whose values fit their parts of the text.
pub record IsNeedle (needle : Needle) : Type 0 where
  pub cookie : needle.cookie < 2 ^ 32
  pub key : needle.key < 2 ^ 64
  pub filled : 0 < length needle.body
  pub name : IfSome needle.name (λ name. length name < 2 ^ 8)
  pub mime : IfSome needle.mime (λ mime. length mime < 2 ^ 8)
  pub modified : IfSome needle.modified (λ seconds. seconds < 2 ^ 40)
  pub ttl : IfSome needle.ttl (λ ttl. length ttl ≡ 2)
  pub pairs : IfSome needle.pairs (λ pairs. length pairs < 2 ^ 16)
  pub size : length (counted unmarked needle) < 2 ^ 32

-- The limits under which a needle is written.
pub record IsWithinLimits (needle : Needle) : Type 0 where
  pub filled : 1 ≤ length needle.body
  pub body : length needle.body ≤ 33554432
  pub name : IfSome needle.name (λ name. length name ≤ 255)
  pub mime : IfSome needle.mime (λ mime. length mime ≤ 255)
  pub modified : IfSome needle.modified (λ seconds. seconds < 2 ^ 40)
  pub pairs : IfSome needle.pairs (λ pairs. length pairs ≤ 65535)

-- An item may be written: a needle within its limits, and any deletion.
abbrev pub IsWritable : Item → Type 0
IsWritable (Live needle) = IsWithinLimits needle
IsWritable (Gone cookie key) = Unit {0}
