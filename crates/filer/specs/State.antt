-- What a filer keeps: a log, the names that a keeper has of it, and the list that was published.
use Rattle.std.specs.Prelude.{◌≡◌, ℕ, List, Option, IfSome}
use Rattle.weed_base.specs.Files.{Files}
use Rattle.log_buffer.specs.declared.outlet.Outlet.{Ghosts}
use Rattle.name_core.specs.declared.change.Record.{Record}
use Rattle.name_core.specs.Namespace.{Namespace}
use Rattle.name_core.specs.Log.{fold}
use Rattle.meta_log.specs.Kept.{HoldsRecords}
use Rattle.meta_log.specs.Records.{front_of_records}
use Rattle.meta_log.specs.declared.front.Front.{Front}
use Rattle.meta_log.specs.declared.meta_log.MetaLog.{MetaLog}
use Rattle.filer.specs.declared.state.FilerState.{FilerState}

module _ {K O S : Type 0} {o : Ghosts O S} where
  -- Its parts.
  abbrev pub log_of : FilerState K O S o → MetaLog
  log_of state = state.log

  abbrev pub keeper_of : FilerState K O S o → K
  keeper_of state = state.keeper

  abbrev pub outlet_of : FilerState K O S o → O
  outlet_of state = state.outlet

  -- How many records were published, and the time of the last.
  abbrev pub published_of : FilerState K O S o → Front
  published_of state = state.published

  -- The files hold it with these records: its log has them, the keeper's names, where told, are their fold, and the
  -- published list is that of their texts.
  pub record IsFiled (map : K → Option Namespace) (files : Files) (state : FilerState K O S o) (records : List Record) : Type 0 where
    pub log : HoldsRecords files state.log records
    pub names : IfSome (map state.keeper) (λ names. names ≡ fold records)
    pub list : o.StandsFor state.outlet log.payloads
    pub front : state.published ≡ front_of_records records

  -- The disk, where told, holds it with these records.
  abbrev pub HoldsState : (K → Option Namespace) → Option Files → FilerState K O S o → List Record → Type 0
  HoldsState map told state records = IfSome told (λ files. IsFiled map files state records)

  -- The published list stays.
  pub record StaysPublished (old new : FilerState K O S o) : Type 0 where
    pub list : (list : List (List ℕ)) → o.StandsFor old.outlet list → o.StandsFor new.outlet list
    pub front : new.published ≡ old.published
