-- What a refusal of an index is called.
use Rattle.std.specs.Prelude.{ℕ, List, codes}
use Rattle.needle_index.specs.declared.fault.IndexFault.{IndexFault}
use Rattle.needle_index.specs.declared.fault.IndexFault.TheVariants.{Ragged, Memory}

-- The name of the variant.
abbrev pub fault_name : IndexFault → List ℕ
fault_name (Ragged n) = codes "Ragged"
fault_name Memory = codes "Memory"
