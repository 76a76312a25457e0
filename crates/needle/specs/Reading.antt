-- How the code reads, from left to right: a value and the bytes behind it, or None where the
-- bytes end before it does.
use Rattle.std.specs.Prelude.{◌≡◌, ℕ, Bool, true, false, not, nat_lt, ◌==◌, if◌then◌else◌, List, [], ◌∷◌, ◌++◌, length, take, drop, Option, Some, None, option_map, option_and_then, option_copied, bit_and, Result, Ok, Err, IsOk}
use Rattle.std.specs.Int.{w8, w16, w32, w64, from_be_bytes}
use Rattle.needle.specs.declared.fault.NeedleFault.{NeedleFault}
use Rattle.needle.specs.declared.fault.NeedleFault.TheVariants.{Truncated, SizeMismatch, ReservedSet, Compressed, Manifest, ChecksumMismatch, Memory}
use Rattle.needle.specs.declared.item.Item.{Item}
use Rattle.needle.specs.declared.item.Item.TheVariants.{Live, Gone}
use Rattle.needle.specs.declared.item.ReadItem.{ReadItem}
use Rattle.needle.specs.declared.version.Version.{Version}
use Rattle.needle.specs.Crc.{checksum}
use Rattle.needle.specs.Fields.{four_at, eight_at, size_in, counted_in, checksum_in, moment_in, IsWhole}
use Rattle.needle.specs.Layout.{padded}
use Rattle.needle.specs.declared.frame.Frame.{Frame}
use Rattle.needle.specs.declared.parts.Parts.{Parts}
use Rattle.needle.specs.declared.item.Needle.{Needle}

-- What is read next, where this was there.
infixl 10 ◌>>=◌
abbrev pub ◌>>=◌ : {A B : Type 0} → Option A → (A → Option B) → Option B
read >>= next = option_and_then next read

-- That many bytes.
abbrev pub bytes_at : ℕ → List ℕ → Option (List ℕ × List ℕ)
bytes_at count bytes = if nat_lt (length bytes) count then None else Some (take count bytes, drop count bytes)

-- Bytes with their length in one byte.
unfoldable pub short_at : List ℕ → Option (List ℕ × List ℕ)
short_at [] = None
short_at (len ∷ rest) = bytes_at len rest

-- Bytes with their length in two bytes.
unfoldable pub long_at : List ℕ → Option (List ℕ × List ℕ)
long_at bytes = do
  len ← bytes_at 2 bytes
  bytes_at (from_be_bytes w16 len.0) len.1

-- A number of five bytes.
unfoldable pub five_at : List ℕ → Option (ℕ × List ℕ)
five_at bytes = do
  five ← bytes_at 5 bytes
  Some (from_be_bytes w64 ((0 ∷ 0 ∷ 0 ∷ []) ++ five.0), five.1)

-- Data with its length in four bytes, which isn't 0.
unfoldable pub body_at : List ℕ → Option (List ℕ × List ℕ)
body_at bytes = do
  len ← bytes_at 4 bytes
  if from_be_bytes w32 len.0 == 0 then None else bytes_at (from_be_bytes w32 len.0) len.1

-- The flag is set.
abbrev pub has_flag : ℕ → ℕ → Bool
has_flag flags bit = not (bit_and flags bit == 0)

-- A part that is there where its flag is set.
abbrev pub part_at : {A : Type 0} → Bool → (List ℕ → Option (A × List ℕ)) → List ℕ → Option (Option A × List ℕ)
part_at false read bytes = Some (None, bytes)
part_at true read bytes = option_map (λ part. (Some part.0, part.1)) (read bytes)

-- The parts of a needle that were read.
pub record Contents : Type 0 where
  pub body : List ℕ
  pub flags : ℕ
  pub name : Option (List ℕ)
  pub mime : Option (List ℕ)
  pub modified : Option ℕ
  pub ttl : Option (List ℕ)
  pub pairs : Option (List ℕ)

-- The parts behind the flags.
unfoldable pub parts_at : List ℕ → ℕ → List ℕ → Option (Contents × List ℕ)
parts_at body flags bytes = do
  name ← part_at (has_flag flags 2) short_at bytes
  mime ← part_at (has_flag flags 4) short_at name.1
  modified ← part_at (has_flag flags 8) five_at mime.1
  ttl ← part_at (has_flag flags 16) (bytes_at 2) modified.1
  pairs ← part_at (has_flag flags 32) long_at ttl.1
  Some (record { body = body; flags = flags; name = name.0; mime = mime.0; modified = modified.0; ttl = ttl.0; pairs = pairs.0 }, pairs.1)

-- What the size counts behind the data.
unfoldable pub told_at : List ℕ → List ℕ → Option Contents
told_at body bytes = do
  flags ← bytes_at 1 bytes
  parts ← parts_at body (from_be_bytes w8 flags.0) flags.1
  if length parts.1 == 0 then Some parts.0 else None

-- All that the size counts.
unfoldable pub contents_at : List ℕ → Option Contents
contents_at bytes = do
  body ← body_at bytes
  told_at body.0 body.1

-- The parts without where they lie in memory.
abbrev pub contents_of : Parts → Contents
contents_of parts = record {
  body = parts.body.now;
  flags = parts.flags;
  name = option_copied parts.name;
  mime = option_copied parts.mime;
  modified = parts.modified;
  ttl = parts.ttl;
  pairs = option_copied parts.pairs;
}

-- A needle of what was read.
abbrev pub needle_from : ℕ → ℕ → Contents → Needle
needle_from cookie key read = record {
  cookie = cookie;
  key = key;
  body = read.body;
  name = read.name;
  mime = read.mime;
  modified = read.modified;
  ttl = read.ttl;
  pairs = read.pairs;
}

-- The checksum of the data, or the fault.
abbrev pub check_sum : ℕ → List ℕ → Result (Unit {0}) NeedleFault
check_sum stored body = if stored == checksum body then Ok tt else Err (ChecksumMismatch stored (checksum body))

-- Flags without a mark, or the fault.
abbrev pub check_marks : ℕ → Result (Unit {0}) NeedleFault
check_marks flags =
    if has_flag flags 64 then Err ReservedSet
    else (if has_flag flags 1 then Err Compressed
    else (if has_flag flags 128 then Err Manifest else Ok tt))

-- A value behind a check.
abbrev pub behind : {A B : Type 0} → Result A NeedleFault → (A → Result B NeedleFault) → Result B NeedleFault
behind (Ok value) next = next value
behind (Err fault) next = Err fault

-- The needle of the parts that were read.
abbrev pub live_at : ℕ → ℕ → Option Contents → ℕ → Result Item NeedleFault
live_at cookie key None stored = Err SizeMismatch
live_at cookie key (Some read) stored =
    behind (check_marks read.flags) (λ _. behind (check_sum stored read.body) (λ _. Ok (Live (needle_from cookie key read))))

-- The item whose size counts these bytes.
unfoldable pub item_at : ℕ → ℕ → List ℕ → ℕ → Result Item NeedleFault
item_at cookie key counted stored =
    if length counted == 0 then behind (check_sum stored []) (λ _. Ok (Gone cookie key))
    else live_at cookie key (contents_at counted) stored

-- The item at the front of a text.
unfoldable pub read_at : Version → List ℕ → Result ReadItem NeedleFault
read_at version text =
    if nat_lt (length text) (padded version (size_in text)) then Err Truncated
    else behind (item_at (four_at 0 text) (eight_at 4 text) (counted_in text) (checksum_in text))
    (λ item. Ok (record { item = item; taken = padded version (size_in text); moment = moment_in version text }))

-- What a function returned is what reading gives. Memory runs out only where nothing is refused.
abbrev pub Gives : {A : Type 0} → Result A NeedleFault → Result A NeedleFault → Type 0
Gives (Ok value) read = read ≡ Ok value
Gives (Err Memory) read = IsOk read
Gives (Err fault) read = read ≡ Err fault

-- The fields that were read.
pub record IsFrame (version : Version) (text : List ℕ) (frame : Frame) : Type 0 where
  pub whole : IsWhole version text
  pub cookie : frame.cookie ≡ four_at 0 text
  pub key : frame.key ≡ eight_at 4 text
  pub counted : frame.counted.now ≡ counted_in text
  pub checksum : frame.checksum ≡ checksum_in text
  pub moment : frame.moment ≡ moment_in version text
  pub taken : frame.taken ≡ padded version (size_in text)
