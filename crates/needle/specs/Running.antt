-- A checksum that is taken in pieces.
use Rattle.std.specs.Prelude.{◌≡◌, ℕ, List, fold}
use Rattle.needle.specs.Crc.{byte_step}
use Rattle.needle.specs.declared.crc.Checksum.{Checksum}

-- It has taken these bytes.
abbrev pub IsRunOf : List ℕ → Checksum → Type 0
IsRunOf bytes sum = sum.remainder ≡ fold byte_step 0xFFFFFFFF bytes
