-- The eight bytes at the front of a volume's file.
use Rattle.std.specs.Prelude.{◌≡◌, ℕ, ◌+◌, ◌*◌, ◌≤◌, List, [], ◌∷◌, ◌++◌, slice_index, Result, Ok, Err}
use Rattle.std.specs.Int.{w16, to_be_bytes}
use Rattle.needle.specs.declared.placement.Placement.{Placement}
use Rattle.needle.specs.declared.superblock.SuperBlock.{SuperBlock}
use Rattle.needle.specs.declared.fault.NeedleFault.{NeedleFault}
use Rattle.needle.specs.declared.fault.NeedleFault.TheVariants.{BadVersion, BadPlacement, ReservedSet}
use Rattle.needle.specs.Layout.{version_byte, IsVersionByte}

-- The three digits of a placement, as one decimal number.
abbrev pub placement_byte : Placement → ℕ
placement_byte placement = 100 * placement.x + 10 * placement.y + placement.z

-- Each digit is 0 to 2.
abbrev pub AreDigits : ℕ → ℕ → ℕ → Type 0
AreDigits x y z = (x ≤ 2) × (y ≤ 2) × (z ≤ 2)

-- The digits of the placement are these.
abbrev pub HasDigits : ℕ → ℕ → ℕ → Placement → Type 0
HasDigits x y z placement = (placement.x ≡ x) × (placement.y ≡ y) × (placement.z ≡ z)

-- The byte is that of a placement.
abbrev pub IsPlacementByte : ℕ → Type 0
IsPlacementByte byte = (placement : Placement) × (byte ≡ placement_byte placement)

-- Version, placement, TTL, revision with the high byte first, and two bytes of zero.
abbrev pub superblock_text : SuperBlock → List ℕ
superblock_text block =
    version_byte block.version ∷ placement_byte block.placement ∷ (block.ttl ++ to_be_bytes w16 block.revision ++ (0 ∷ 0 ∷ []))

-- Byte 0 is that of a version.
abbrev pub HasVersion : List ℕ → Type 0
HasVersion text = IsVersionByte (slice_index text 0)

-- Byte 1 is that of a placement.
abbrev pub HasPlacement : List ℕ → Type 0
HasPlacement text = IsPlacementByte (slice_index text 1)

-- Bytes 6 and 7 are zero.
abbrev pub HasZeros : List ℕ → Type 0
HasZeros text = (slice_index text 6 ≡ 0) × (slice_index text 7 ≡ 0)

-- When each refusal comes. The refusals stand in their order, and each leaves out those before it.
abbrev pub IsBlockRefused : List ℕ → NeedleFault → Type 0
IsBlockRefused text BadVersion = HasVersion text → ⊥
IsBlockRefused text BadPlacement = HasVersion text × (HasPlacement text → ⊥)
IsBlockRefused text ReservedSet = HasVersion text × HasPlacement text × (HasZeros text → ⊥)
IsBlockRefused text _ = ⊥

-- What reading answers: the superblock that the text spells, or the first fault.
abbrev pub SuperBlockAnswer : List ℕ → Result SuperBlock NeedleFault → Type 0
SuperBlockAnswer text (Ok block) = text ≡ superblock_text block
SuperBlockAnswer text (Err fault) = IsBlockRefused text fault
