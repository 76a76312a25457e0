-- Faults that are handed on.
use Rattle.std.specs.Prelude.{◌≡◌, ℕ, Option, Some, List, ⊤}
use Rattle.meta_log.specs.declared.fault.LogFault.{LogFault}
use Rattle.meta_log.specs.declared.fault.LogFault.TheVariants as log
use Rattle.name_core.specs.declared.names.KeeperFault.{KeeperFault}
use Rattle.name_core.specs.declared.names.KeeperFault.TheVariants as keeper
use Rattle.name_core.specs.declared.command.PlanFault.{PlanFault}
use Rattle.name_core.specs.declared.command.PlanFault.TheVariants as plan
use Rattle.filer.specs.declared.fault.LookFault.{LookFault}
use Rattle.filer.specs.declared.fault.LookFault.TheVariants as look
use Rattle.filer.specs.declared.fault.ApplyFault.{ApplyFault}
use Rattle.filer.specs.declared.fault.ApplyFault.TheVariants as apply

-- What an opening or a reading answers where the log failed.
abbrev pub look_fault_of_log : LogFault → LookFault
look_fault_of_log log.DiskFault = look.DiskFault
look_fault_of_log (log.Damaged file at) = look.Damaged file at
look_fault_of_log log.Memory = look.Memory

-- What a look answers where the keeper failed.
abbrev pub look_fault_of_keeper : KeeperFault → LookFault
look_fault_of_keeper keeper.Failed = look.KeeperFault
look_fault_of_keeper keeper.Memory = look.Memory

-- What a command answers where its plan failed.
abbrev pub apply_fault_of_plan : PlanFault → ApplyFault
apply_fault_of_plan (plan.Refused refusal) = apply.Refused refusal
apply_fault_of_plan plan.KeeperFault = apply.KeeperFault
apply_fault_of_plan plan.Memory = apply.Memory

-- And where its keeper failed.
abbrev pub apply_fault_of_keeper : KeeperFault → ApplyFault
apply_fault_of_keeper keeper.Failed = apply.KeeperFault
apply_fault_of_keeper keeper.Memory = apply.Memory

-- Where it is damage, its file and place are so.
abbrev pub IfDamaged : (List ℕ → ℕ → Type 0) → LookFault → Type 0
IfDamaged P look.DiskFault = ⊤
IfDamaged P look.KeeperFault = ⊤
IfDamaged P (look.Damaged file at) = P file at
IfDamaged P (look.Broken tick) = ⊤
IfDamaged P look.Memory = ⊤

-- A look at names has no other refusals than these, and the first of them only where the filer is broken since that tick.
abbrev pub IsOfNames : Option ℕ → LookFault → Type 0
IsOfNames broken (look.Broken tick) = broken ≡ Some tick
IsOfNames broken look.KeeperFault = ⊤
IsOfNames broken look.Memory = ⊤
IsOfNames broken look.DiskFault = ⊥
IsOfNames broken (look.Damaged file at) = ⊥

-- Want of memory, or a fault of the keeper.
abbrev pub IsMemoryOrKeeper : ApplyFault → Type 0
IsMemoryOrKeeper (apply.Refused refusal) = ⊥
IsMemoryOrKeeper apply.KeeperFault = ⊤
IsMemoryOrKeeper (apply.Broken tick) = ⊥
IsMemoryOrKeeper apply.Memory = ⊤
IsMemoryOrKeeper apply.DiskFault = ⊥
