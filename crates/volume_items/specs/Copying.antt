-- How bytes of one file are copied behind another one's end.
use Rattle.std.specs.Prelude.{◌≡◌, ℕ, List, take, drop, Option, None}
use Rattle.weed_base.specs.Files.{Files, content}
use Rattle.volume_items.specs.Growing.{Appends}
use Rattle.volume_items.specs.declared.fault.VolumeFault.{VolumeFault}
use Rattle.volume_items.specs.declared.fault.VolumeFault.TheVariants.{DiskFault, Damaged}

-- So many bytes of one file from a place on now stand behind another one's former end, and no other file has changed.
abbrev pub Copies : (from to : List ℕ) (at count : ℕ) → Files → Files → Type 0
Copies from to at count old new = Appends to (take count (drop at (content old from))) old new

-- Why bytes aren't copied: a fault of the disk, or they aren't there, which a disk that tells its files never answers.
abbrev pub IsLost : Option Files → VolumeFault → Type 0
IsLost told DiskFault = Unit {0}
IsLost told (Damaged at stored computed) = told ≡ None
IsLost told fault = ⊥
