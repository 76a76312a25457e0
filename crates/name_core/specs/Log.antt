-- Logs: lists of records, and the namespace that each stands for.
use Rattle.std.specs.Prelude.{ℕ, ◌≤◌, ◌<◌, List, [], ◌∷◌, flat_map}
use Rattle.std.specs.FinMap.{empty}
use Rattle.name_core.specs.declared.change.Change.{Change}
use Rattle.name_core.specs.declared.change.Record.{Record}
use Rattle.name_core.specs.Namespace.{Namespace, AreRootless, after_changes, KeepsWellFormed}

-- The last time that a record may have, 2^63 - 1.
abbrev pub end_of_time : ℕ
end_of_time = 9223372036854775807

-- After all changes of a record.
abbrev pub after_record : Record → Namespace → Namespace
after_record r names = after_changes r.changes names

-- The changes of a log, in order.
abbrev pub changes_of : List Record → List Change
changes_of log = flat_map (λ r. r.changes) log

-- The namespace of a log: its changes in order, from the empty map on.
abbrev pub fold : List Record → Namespace
fold log = after_changes (changes_of log) empty

-- The last time of a log, or the one before it where it is empty.
abbrev pub last_time_from : ℕ → List Record → ℕ
last_time_from before [] = before
last_time_from before (r ∷ log) = last_time_from r.time log

-- The time of the last record, or 0.
abbrev pub last_time : List Record → ℕ
last_time log = last_time_from 0 log

-- Times rise strictly from the one before on, and none is past the end of time.
abbrev pub TimesRise : ℕ → List Record → Type 0
TimesRise before [] = Unit {0}
TimesRise before (r ∷ log) = (before < r.time) × (r.time ≤ end_of_time) × TimesRise r.time log

-- A log is sound where times rise strictly, lie in 1 to 2^63 - 1, no change names the root, and each change in order
-- leaves a well-formed map.
pub record IsSound (log : List Record) : Type 0 where
  pub times : TimesRise 0 log
  pub rootless : AreRootless (changes_of log)
  pub well_formed : KeepsWellFormed (changes_of log) empty
