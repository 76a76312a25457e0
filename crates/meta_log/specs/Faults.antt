-- What a fault tells.
use Rattle.std.specs.Prelude.{ℕ, List, ⊤}
use Rattle.weed_base.specs.declared.disk.NamesFault.{NamesFault}
use Rattle.weed_base.specs.declared.disk.NamesFault.TheVariants.{Failed as NamesFailed, Memory as NoMemory}
use Rattle.meta_log.specs.declared.fault.LogFault.{LogFault}
use Rattle.meta_log.specs.declared.fault.LogFault.TheVariants.{DiskFault, Damaged, Memory}

-- What a fault of the names becomes.
abbrev pub fault_of_names : NamesFault → LogFault
fault_of_names NamesFailed = DiskFault
fault_of_names NoMemory = Memory

-- Where it is damage, its file and place are so.
abbrev pub IfDamaged : (List ℕ → ℕ → Type 0) → LogFault → Type 0
IfDamaged P DiskFault = ⊤
IfDamaged P (Damaged file at) = P file at
IfDamaged P Memory = ⊤
