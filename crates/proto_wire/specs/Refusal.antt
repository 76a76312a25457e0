-- Why bytes don't begin with a field, by the bytes alone.
use Rattle.std.specs.Prelude.{◌≡◌, ◌⊎◌, ℕ, ◌+◌, ◌*◌, ◌/◌, ◌^◌, ◌<◌, ◌≤◌, List, ◌++◌, length, take}
use Rattle.std.specs.List.{AllByRecursion}
use Rattle.proto_wire.specs.declared.fault.WireFault.{WireFault}
use Rattle.proto_wire.specs.declared.fault.WireFault.TheVariants.{Truncated, BadVarint, BadTag, BadWireType}
use Rattle.proto_wire.specs.Text.{IsFieldNumber}
use Rattle.proto_wire.specs.Field.{StandsFor, IsVarint}

-- Each byte has its top bit: the number goes on behind it.
abbrev pub GoesOn : List ℕ → Type 0
GoesOn bytes = AllByRecursion (λ b. 128 ≤ b) bytes

-- The bytes begin with a number past 64 bits.
pub record IsLarge (bytes : List ℕ) : Type 0 where
  pub front : List ℕ
  pub rest : List ℕ
  pub number : ℕ
  pub parts : bytes ≡ front ++ rest
  pub spelled : StandsFor front number
  pub short : length front ≤ 10
  pub passes : 2 ^ 64 ≤ number

-- No number is read: the bytes end inside it, or its first ten bytes all go on, or it is past 64 bits.
abbrev pub IsVarintFault : WireFault → List ℕ → Type 0
IsVarintFault Truncated bytes = (length bytes < 10) × GoesOn bytes
IsVarintFault BadVarint bytes = ((10 ≤ length bytes) × GoesOn (take 10 bytes)) ⊎ IsLarge bytes
IsVarintFault BadTag bytes = ⊥
IsVarintFault BadWireType bytes = ⊥

-- A length, and fewer bytes than it says.
pub record IsShort (bytes : List ℕ) : Type 0 where
  pub front : List ℕ
  pub rest : List ℕ
  pub count : ℕ
  pub parts : bytes ≡ front ++ rest
  pub counts : IsVarint front count
  pub fewer : length rest < count

-- No value of this wire type is read.
pub data IsValueFault (kind : ℕ) (fault : WireFault) (bytes : List ℕ) : Type 0 where
  varint : kind ≡ 0 → IsVarintFault fault bytes → IsValueFault kind fault bytes
  fixed64 : kind ≡ 1 → fault ≡ Truncated → length bytes < 8 → IsValueFault kind fault bytes
  count : kind ≡ 2 → IsVarintFault fault bytes → IsValueFault kind fault bytes
  bytes_short : kind ≡ 2 → fault ≡ Truncated → IsShort bytes → IsValueFault kind fault bytes
  fixed32 : kind ≡ 5 → fault ≡ Truncated → length bytes < 4 → IsValueFault kind fault bytes
  unread : (kind ≡ 3) ⊎ (kind ≡ 4) ⊎ (kind ≡ 6) ⊎ (kind ≡ 7) → fault ≡ BadWireType → IsValueFault kind fault bytes

-- No field is read: no tag, or a tag of no field's number, or no value behind it.
pub data IsRefused (fault : WireFault) (bytes : List ℕ) : Type 0 where
  tag : IsVarintFault fault bytes → IsRefused fault bytes
  field_number : (front rest : List ℕ) (n : ℕ) → bytes ≡ front ++ rest → IsVarint front n → ¬ IsFieldNumber (n / 8) → fault ≡ BadTag → IsRefused fault bytes
  value : (front rest : List ℕ) (n kind : ℕ) → bytes ≡ front ++ rest → IsVarint front (n * 8 + kind) → IsFieldNumber n → kind < 8
      → IsValueFault kind fault rest → IsRefused fault bytes
