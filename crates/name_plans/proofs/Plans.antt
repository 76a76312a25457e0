-- Each change of a command's record leaves a well-formed namespace.
use Rattle.std.proofs.Common.{◌≡◌, ℕ, List, [], ◌∷◌, length, Option, Some, Ok, ap, subst}
use Rattle.std.specs.Prelude.{◌==◌, nat_lt}
use Rattle.name_core.specs.declared.change.Change.{Change}
use Rattle.name_core.specs.declared.change.Record.{Record}
use Rattle.name_core.specs.declared.command.Refusal.{Refusal}
use Rattle.name_core.specs.declared.command.Refusal.TheVariants.{TooMany, RecordTooLong, ClockAtEnd}
use Rattle.name_core.specs.Log.{end_of_time}
use Rattle.name_core.specs.Namespace.{Namespace, IsWellFormed, KeepsWellFormed}
use Rattle.name_core.specs.Plan.{record_time}
use Rattle.records.specs.RecordText.{record_text}
use Rattle.name_plans.specs.declared.command.Command.{Command}
use Rattle.name_plans.specs.declared.command.Command.TheVariants.{MakeDir, Write, Remove, Move, Place}
use Rattle.name_plans.specs.Planning.{changes_for, plan_of, recorded}
use Rattle.name_plans.specs.Refusing.{refuse_if}
use Rattle.name_plans.proofs.Drops.{removal_keeps}
use Rattle.name_plans.proofs.Keeps.{and_then_ok, directories_keep, place_keeps, unless_ok, write_keeps}
use Rattle.name_plans.proofs.Moves.{move_keeps}

pub changes_keep : (names : Namespace) (time : ℕ) (command : Command) (changes : List Change) → IsWellFormed names → changes_for names time command ≡ Ok changes → KeepsWellFormed changes names
changes_keep names time (MakeDir path) changes formed e = directories_keep names time path changes formed e
changes_keep names time (Write path at chunks size mime md5) changes formed e = write_keeps names time path (record { at = at; pieces = chunks; size = size; mime = mime; md5 = md5 }) changes formed e
changes_keep names time (Remove path recursive) changes formed e = removal_keeps names path recursive changes formed e
changes_keep names time (Move from to) changes formed e = move_keeps names time from to changes formed e
changes_keep names time (Place path entry) changes formed e = place_keeps names time path entry changes formed e

some_record : (x y : Record) → ◌≡◌ {A = Option Record} (Some x) (Some y) → x ≡ y
some_record x y e = cc

-- The refusals behind a command's own
abbrev limits : ℕ → Record → List (Option Refusal)
limits last made =
    refuse_if (nat_lt 65536 (length made.changes)) TooMany
    ∷ refuse_if (nat_lt 67108864 (length (record_text made))) RecordTooLong
    ∷ refuse_if (last == end_of_time) ClockAtEnd
    ∷ []

-- A record that is made has the changes.
recorded_changes : (last time : ℕ) (changes : List Change) (made : Record) → recorded last time changes ≡ Ok (Some made) → changes ≡ made.changes
recorded_changes last time [] made e = cc
recorded_changes last time (change ∷ more) made e =
    let full : Record = record { time = time; changes = change ∷ more } in
    ap (λ r. r.changes) (some_record full made (unless_ok (limits last full) (Some full) (Some made) e))

pub plan_keeps : (names : Namespace) (command : Command) (clock last : ℕ) (made : Record) → IsWellFormed names → plan_of names command clock last ≡ Ok (Some made) → KeepsWellFormed made.changes names
plan_keeps names command clock last made formed e =
    let time : ℕ = record_time clock last in
    let first = and_then_ok (changes_for names time command) (recorded last time) (Some made) e in
    subst (λ l. KeepsWellFormed l names) (recorded_changes last time first.0 made first.2) (changes_keep names time command first.0 formed first.1)
