-- A filer: its state, and the tick of the disk's fault or the keeper's by which it is broken.
use Rattle.std.specs.Prelude.{◌≡◌, ℕ, Option, Some}
use Rattle.std.specs.declared.result.Result.{Result}
use Rattle.std.specs.declared.result.Result.TheVariants.{Ok, Err}
use Rattle.log_buffer.specs.declared.outlet.Outlet.{Ghosts}
use Rattle.name_core.specs.Namespace.{Namespace}
use Rattle.filer.specs.declared.fault.ApplyFault.{ApplyFault}
use Rattle.filer.specs.declared.fault.ApplyFault.TheVariants as fault
use Rattle.filer.specs.declared.receipt.Receipt.{Receipt}
use Rattle.filer.specs.declared.state.FilerState.{FilerState}
use Rattle.filer.specs.declared.filer.Filer.{Filer}

module _ {K O S : Type 0} {o : Ghosts O S} where
  -- What it keeps.
  abbrev pub state_of : Filer K O S o → FilerState K O S o
  state_of filer = filer.state

  -- The tick of the fault by which it is broken.
  abbrev pub broken_of : Filer K O S o → Option ℕ
  broken_of filer = filer.broken

  -- A look leaves all but what its keeper doesn't tell.
  pub record OnlyLooks (map : K → Option Namespace) (old new : Filer K O S o) : Type 0 where
    pub log : new.state.log ≡ old.state.log
    pub names : map new.state.keeper ≡ map old.state.keeper
    pub outlet : new.state.outlet ≡ old.state.outlet
    pub published : new.state.published ≡ old.state.published
    pub broken : new.broken ≡ old.broken

-- After a disk's or a keeper's fault at a tick it is broken, and after other answers as before.
abbrev pub broken_after : ℕ → Result Receipt ApplyFault → Option ℕ → Option ℕ
broken_after tick (Ok receipt) broken = broken
broken_after tick (Err (fault.Refused refusal)) broken = broken
broken_after tick (Err fault.KeeperFault) broken = Some tick
broken_after tick (Err (fault.Broken since)) broken = broken
broken_after tick (Err fault.Memory) broken = broken
broken_after tick (Err fault.DiskFault) broken = Some tick
