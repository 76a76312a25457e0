-- A log that was opened, the disk that it was opened on, and the payloads that they stand for.
use Rattle.std.specs.Prelude.{◌≡◌, ℕ, ◌⊎◌, List, [], ◌∷◌, ◌++◌, length, Option, IfSome}
use Rattle.weed_base.specs.Files.{Files}
use Rattle.meta_log.specs.Segment.{items}
use Rattle.meta_log.specs.LogText.{IsAllowed, HasSegment, IsLogText}
use Rattle.meta_log.specs.declared.stem.Stem.{Stem}
use Rattle.meta_log.specs.declared.gate_log.GateLog.{GateLog}

-- Whose log it is.
abbrev pub stem_of : GateLog → Stem
stem_of log = log.stem

-- The place of the gate behind its last item.
abbrev pub gate_of : GateLog → ℕ
gate_of log = log.gate

-- The files hold the log with this list: they are its text, and the log stands at the gate behind its items.
pub record HoldsPayloads (files : Files) (log : GateLog) (payloads : List (List ℕ)) : Type 0 where
  pub segment : HasSegment (IsAllowed log.stem) log.stem files payloads
  pub gate : log.gate ≡ length (items payloads)

-- The disk, where told, holds the log with this list.
abbrev pub TellsPayloads : Option Files → GateLog → List (List ℕ) → Type 0
TellsPayloads told log payloads = IfSome told (λ files. HoldsPayloads files log payloads)

-- The disk holds the log, with some list.
abbrev pub HoldsGateLog : Option Files → GateLog → Type 0
HoldsGateLog told log = (payloads : List (List ℕ)) × TellsPayloads told log payloads

-- The disk, where told, is a log text for this list.
abbrev pub TellsText : Stem → Option Files → List (List ℕ) → Type 0
TellsText stem told payloads = IfSome told (λ files. IsLogText stem files payloads)

-- The disk, where told, was a log text, and it holds this log with the same list.
pub record IsOpened (stem : Stem) (old new : Option Files) (log : GateLog) : Type 0 where
  pub stem_is : log.stem ≡ stem
  pub text : IfSome old (λ files. (payloads : List (List ℕ)) × IsLogText stem files payloads)
  pub holds : (payloads : List (List ℕ)) → TellsText stem old payloads → TellsPayloads new log payloads

-- The files are a log text for the list or for it with one payload more.
abbrev pub IsEither : Stem → List (List ℕ) → List ℕ → Files → Type 0
IsEither stem payloads payload files = IsLogText stem files payloads ⊎ IsLogText stem files (payloads ++ payload ∷ [])

-- The disk, where told, is so.
abbrev pub TellsEither : Stem → Option Files → List (List ℕ) → List ℕ → Type 0
TellsEither stem told payloads payload = IfSome told (IsEither stem payloads payload)
