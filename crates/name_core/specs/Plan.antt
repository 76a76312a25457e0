-- Plans: the record that a command makes of a namespace, if any.
use Rattle.std.specs.Prelude.{◌≡◌, ◌≢◌, ℕ, ◌+◌, ◌/◌, ◌≤◌, max, min, Bool, false, List, [], ◌∷◌, ◌++◌, length, All, map, filter, find, Option, None, Some, is_none, Result, Ok, Err, ◌==◌, if◌then◌else◌}
use Rattle.std.specs.FinMap.{get}
use Rattle.entry.specs.declared.entry.Entry.{Entry}
use Rattle.name_core.specs.declared.change.Change.{Change}
use Rattle.name_core.specs.declared.change.Change.TheVariants.{Put, Drop}
use Rattle.name_core.specs.declared.change.Record.{Record}
use Rattle.name_core.specs.declared.command.Command.{Command}
use Rattle.name_core.specs.declared.command.Command.TheVariants.{MakeDir}
use Rattle.name_core.specs.declared.command.Refusal.{Refusal}
use Rattle.name_core.specs.declared.command.Refusal.TheVariants.{IsFile, ClockAtEnd}
use Rattle.name_core.specs.declared.command.PlanFault.{PlanFault}
use Rattle.name_core.specs.declared.command.PlanFault.TheVariants as faults
use Rattle.weed_base.specs.Path.{IsPath}
use Rattle.entry.specs.Entry.{is_file_kind}
use Rattle.name_core.specs.Namespace.{Namespace}
use Rattle.name_core.specs.Log.{end_of_time}
use Rattle.entry.specs.declared.entry.Kind.TheVariants.{Directory}

-- The seconds of a moment in nanoseconds.
abbrev pub seconds : ℕ → ℕ
seconds moment = moment / 1000000000

-- The directory that a command makes at a moment: mode 493, which is octal 755.
abbrev pub new_directory : ℕ → Entry
new_directory moment = record {
  kind = Directory;
  attributes = record {
    file_size = 0;
    mtime = seconds moment;
    mode = 493;
    uid = 0;
    gid = 0;
    crtime = seconds moment;
    mime = [];
    ttl_sec = 0;
    md5 = None;
  };
  chunks = [];
}

-- A path with each front of further parts behind it, the shortest first.
abbrev pub prefixes_from : List (List ℕ) → List (List ℕ) → List (List (List ℕ))
prefixes_from top [] = []
prefixes_from top (part ∷ parts) = (top ++ part ∷ []) ∷ prefixes_from (top ++ part ∷ []) parts

-- Each prefix of a path but the root, itself included, the shortest first.
abbrev pub prefixes : List (List ℕ) → List (List (List ℕ))
prefixes path = prefixes_from [] path

-- Whether a file stands at the path.
abbrev pub is_file : Option Entry → Bool
is_file None = false
is_file (Some entry) = is_file_kind entry.kind

-- The first of the paths that is a file.
abbrev pub first_file : Namespace → List (List (List ℕ)) → Option (List (List ℕ))
first_file names paths = find (λ path. is_file (get names path)) paths

-- Those of the paths at which nothing stands.
abbrev pub missing : Namespace → List (List (List ℕ)) → List (List (List ℕ))
missing names paths = filter (λ path. is_none (get names path)) paths

-- The changes, unless a file is in their way.
abbrev pub unless_file : Option (List (List ℕ)) → List Change → Result (List Change) Refusal
unless_file None changes = Ok changes
unless_file (Some file) changes = Err (IsFile file)

-- A new directory at each path.
abbrev pub puts : ℕ → List (List (List ℕ)) → List Change
puts time paths = map (λ path. Put path (new_directory time)) paths

-- A new directory at each missing one of the paths, unless one is a file.
abbrev pub directories_at : Namespace → ℕ → List (List (List ℕ)) → Result (List Change) Refusal
directories_at names time paths = unless_file (first_file names paths) (puts time (missing names paths))

-- What a command changes where its record has that time, or its own refusal.
abbrev pub changes_for : Namespace → ℕ → Command → Result (List Change) Refusal
changes_for names time (MakeDir path) = directories_at names time (prefixes path)

-- The time of the next record: the clock's, as far as it is past the last one.
abbrev pub record_time : ℕ → ℕ → ℕ
record_time clock last = max (min clock end_of_time) (last + 1)

-- What a plan comes to: a record, nothing to do, or a refusal.
pub data Planned : Type 0 where
  Recorded : Record → Planned
  Nothing : Planned
  Refused : Refusal → Planned

-- Changes that follow a last time make a record, unless that is the end of time; no change makes none.
abbrev pub recorded : ℕ → ℕ → List Change → Planned
recorded last time [] = Nothing
recorded last time (change ∷ more) =
    if last == end_of_time then Refused ClockAtEnd else Recorded (record { time = time; changes = change ∷ more })

-- The same of changes that may be refused.
abbrev pub planned : ℕ → ℕ → Result (List Change) Refusal → Planned
planned last time (Ok changes) = recorded last time changes
planned last time (Err refusal) = Refused refusal

-- The plan of a command at a clock, over a log whose last time is given.
abbrev pub plan_of : Namespace → Command → ℕ → ℕ → Planned
plan_of names command clock last =
    let time = record_time clock last in planned last time (changes_for names time command)

-- An answer is the plan, unless the outside or memory failed.
abbrev pub Plans : Planned → Result (Option Record) PlanFault → Type 0
Plans plan (Ok (Some r)) = plan ≡ Recorded r
Plans plan (Ok None) = plan ≡ Nothing
Plans plan (Err (faults.Refused refusal)) = plan ≡ Refused refusal
Plans plan (Err faults.KeeperFault) = Unit {0}
Plans plan (Err faults.Memory) = Unit {0}

-- The same of the changes alone.
abbrev pub Changes : Result (List Change) Refusal → Result (List Change) PlanFault → Type 0
Changes wanted (Ok changes) = wanted ≡ Ok changes
Changes wanted (Err (faults.Refused refusal)) = wanted ≡ Err refusal
Changes wanted (Err faults.KeeperFault) = Unit {0}
Changes wanted (Err faults.Memory) = Unit {0}

-- A new directory at a path other than the root.
abbrev pub IsNewDirectory : ℕ → Change → Type 0
IsNewDirectory time (Put path entry) = IsPath path × (path ≢ []) × (entry ≡ new_directory time)
IsNewDirectory time (Drop path) = ⊥

-- New directories, as many as a path has parts at the most.
pub record MakesDirectories (time : ℕ) (changes : List Change) : Type 0 where
  pub each : All (IsNewDirectory time) changes
  pub few : length changes ≤ 64
