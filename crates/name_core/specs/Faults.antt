-- Faults that are handed on, and the names of refusals.
use Rattle.std.specs.Prelude.{ℕ, List, codes}
use Rattle.name_core.specs.declared.command.Refusal.{Refusal}
use Rattle.name_core.specs.declared.command.Refusal.TheVariants.{IsFile, IsDirectory, BadPlace, TooManyChunks, RootFixed, NotFound, NotEmpty, IntoItself, Exists, PathLimit, TooMany, RecordTooLong, ClockAtEnd}
use Rattle.name_core.specs.declared.names.KeeperFault.{KeeperFault}
use Rattle.name_core.specs.declared.names.KeeperFault.TheVariants as keeper
use Rattle.name_core.specs.declared.command.PlanFault.{PlanFault}
use Rattle.name_core.specs.declared.command.PlanFault.TheVariants as plan

-- What a plan answers where its keeper failed.
abbrev pub plan_fault_of : KeeperFault → PlanFault
plan_fault_of keeper.Failed = plan.KeeperFault
plan_fault_of keeper.Memory = plan.Memory

-- The name of a refusal.
abbrev pub refusal_name : Refusal → List ℕ
refusal_name (IsFile path) = codes "IsFile"
refusal_name IsDirectory = codes "IsDirectory"
refusal_name BadPlace = codes "BadPlace"
refusal_name TooManyChunks = codes "TooManyChunks"
refusal_name RootFixed = codes "RootFixed"
refusal_name NotFound = codes "NotFound"
refusal_name NotEmpty = codes "NotEmpty"
refusal_name IntoItself = codes "IntoItself"
refusal_name Exists = codes "Exists"
refusal_name PathLimit = codes "PathLimit"
refusal_name TooMany = codes "TooMany"
refusal_name RecordTooLong = codes "RecordTooLong"
refusal_name ClockAtEnd = codes "ClockAtEnd"
