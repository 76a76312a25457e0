-- What a refusal of a volume is called.
use Rattle.std.specs.Prelude.{ℕ, List, codes}
use Rattle.volume_items.specs.declared.fault.VolumeFault.{VolumeFault}
use Rattle.volume_items.specs.declared.fault.VolumeFault.TheVariants.{DiskFault, Broken, AlreadyThere, NotThere, BadSuper, NotHeld, WrongCookie, EmptyData, TooLarge, VolumeFull, ReadOnly, NoVacuum, InVacuum, RevisionAtEnd, Damaged, Memory}

-- The name of the variant.
abbrev pub fault_name : VolumeFault → List ℕ
fault_name DiskFault = codes "DiskFault"
fault_name Broken = codes "Broken"
fault_name AlreadyThere = codes "AlreadyThere"
fault_name NotThere = codes "NotThere"
fault_name (BadSuper fault) = codes "BadSuper"
fault_name NotHeld = codes "NotHeld"
fault_name (WrongCookie held) = codes "WrongCookie"
fault_name EmptyData = codes "EmptyData"
fault_name (TooLarge len) = codes "TooLarge"
fault_name (VolumeFull end) = codes "VolumeFull"
fault_name ReadOnly = codes "ReadOnly"
fault_name NoVacuum = codes "NoVacuum"
fault_name InVacuum = codes "InVacuum"
fault_name RevisionAtEnd = codes "RevisionAtEnd"
fault_name (Damaged at stored computed) = codes "Damaged"
fault_name Memory = codes "Memory"
