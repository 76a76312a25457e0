-- What a refusal of a file id is called.
use Rattle.std.specs.Prelude.{ℕ, List, codes}
use Rattle.file_id.specs.declared.fault.FidFault.{FidFault}
use Rattle.file_id.specs.declared.fault.FidFault.TheVariants.{NoComma, BadVolume, BadDelta, BadHex, KeyTooShort, KeyTooLong, KeyOverflow}

-- The name of the variant.
abbrev pub fault_name : FidFault → List ℕ
fault_name NoComma = codes "NoComma"
fault_name BadVolume = codes "BadVolume"
fault_name BadDelta = codes "BadDelta"
fault_name BadHex = codes "BadHex"
fault_name KeyTooShort = codes "KeyTooShort"
fault_name KeyTooLong = codes "KeyTooLong"
fault_name KeyOverflow = codes "KeyOverflow"
