-- How long an item of a volume is, and the byte of each version.
use Rattle.std.specs.Prelude.{◌≡◌, ℕ, ◌+◌, ◌*◌, ◌/◌}
use Rattle.needle.specs.declared.version.Version.{Version}
use Rattle.needle.specs.declared.version.Version.TheVariants.{V2, V3}

-- Bytes around the parts that `size` counts: cookie, key, size and checksum; from version 3 on the append time.
abbrev pub frame_len : Version → ℕ
frame_len V2 = 20
frame_len V3 = 28

-- The item with its 1 to 8 bytes of padding, to a multiple of 8.
abbrev pub padded : Version → ℕ → ℕ
padded version size = (size + frame_len version) / 8 * 8 + 8

-- The first byte of a volume's file.
abbrev pub version_byte : Version → ℕ
version_byte V2 = 2
version_byte V3 = 3

-- The byte is that of a version.
abbrev pub IsVersionByte : ℕ → Type 0
IsVersionByte byte = (version : Version) × (byte ≡ version_byte version)
