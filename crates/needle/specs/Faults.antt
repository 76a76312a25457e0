-- What a refusal of a superblock or an item is called.
use Rattle.std.specs.Prelude.{ℕ, List, codes}
use Rattle.needle.specs.declared.fault.NeedleFault.{NeedleFault}
use Rattle.needle.specs.declared.fault.NeedleFault.TheVariants.{BadVersion, BadPlacement, ReservedSet, Truncated, SizeMismatch, Compressed, Manifest, ChecksumMismatch, Memory}

-- The name of the variant.
abbrev pub fault_name : NeedleFault → List ℕ
fault_name BadVersion = codes "BadVersion"
fault_name BadPlacement = codes "BadPlacement"
fault_name ReservedSet = codes "ReservedSet"
fault_name Truncated = codes "Truncated"
fault_name SizeMismatch = codes "SizeMismatch"
fault_name Compressed = codes "Compressed"
fault_name Manifest = codes "Manifest"
fault_name (ChecksumMismatch stored computed) = codes "ChecksumMismatch"
fault_name Memory = codes "Memory"
