-- What a plan keeps of a namespace and of a log.
use Rattle.std.proofs.Common.{◌≡◌, ◌≢◌, ◌⊎◌, ℕ, ◌<◌, ◌≤◌, Bool, true, false, cond, List, [], ◌∷◌, ◌++◌, length, Some, None, Option, Ok, Err, Result, refl, sym, ap, append_assoc, append-nil, ◌∙◌, subst, inl, inr, arith, eqb}
use Rattle.std.specs.Prelude.{All, is_none, IfOk, IfSome}
use Rattle.std.specs.FinMap.{get, insert, empty}
use Rattle.std.proofs.lemmas.Bool.{eqb-false, false≢true}
use Rattle.std.proofs.lemmas.List.Elements.{All-nil, All-cons, All-append, All-filter, All-map}
use Rattle.entry.specs.declared.entry.Entry.{Entry}
use Rattle.entry.specs.declared.entry.Kind.{Kind}
use Rattle.entry.specs.declared.entry.Kind.TheVariants.{Directory, File}
use Rattle.name_core.specs.declared.change.Change.{Change}
use Rattle.name_core.specs.declared.change.Change.TheVariants.{Put}
use Rattle.name_core.specs.declared.change.Record.{Record}
use Rattle.name_core.specs.declared.command.Command.{Command}
use Rattle.name_core.specs.declared.command.Command.TheVariants.{MakeDir}
use Rattle.name_core.specs.declared.command.PlanFault.{PlanFault}
use Rattle.name_core.specs.declared.command.Refusal.TheVariants.{ClockAtEnd}
use Rattle.entry.specs.Entry.{is_file_kind}
use Rattle.name_core.specs.Plan.{new_directory, prefixes_from, prefixes, is_file, first_file, missing, puts, unless_file, record_time, Recorded, Refused, recorded, planned, plan_of, Plans, MakesDirectories}
use Rattle.name_core.specs.Namespace.{Namespace, path_of, AreRootless, after_changes, IsDirectoryIn, IsWellFormed, KeepsWellFormed}
use Rattle.name_core.specs.Log.{end_of_time, changes_of, after_record, fold, last_time_from, last_time, TimesRise, IsSound}
use Rattle.name_core.proofs.Paths.{filled-append, get-insert_other, get-insert_same, longer_is_other, longer_than_top}
use Rattle.name_core.proofs.NamespaceLemmas.{IsDirectoryIn-found, IsWellFormed-insert, IsWellFormed-empty, KeepsWellFormed-append, IsWellFormed-after, after_changes-append}

not_file_is_directory : (kind : Kind) → is_file_kind kind ≡ false → kind ≡ Directory
not_file_is_directory Directory e = refl
not_file_is_directory File e = absurd (false≢true (sym e))

-- A search that finds nothing in a list: its first element fails, and so do the others.
find_none : (b : Bool) (path : List (List ℕ)) (rest : Option (List (List ℕ))) → cond b (Some path) rest ≡ None → (b ≡ false) × (rest ≡ None)
find_none true path rest e = cc
find_none false path rest e = (refl, e)

found_or_not : (o : Option Entry) → (o ≡ None) ⊎ ((entry : Entry) × (o ≡ Some entry))
found_or_not None = inl refl
found_or_not (Some entry) = inr (entry, refl)

-- Below a directory, and with no file on the way, the missing prefixes are put one below the other. The map
-- at hand has what the first one has at longer paths.
pub puts_keep : (first names : Namespace) (time : ℕ) (top parts : List (List ℕ))
    → IsWellFormed names
    → IsDirectoryIn names top
    → ((q : List (List ℕ)) → length top < length q → get names q ≡ get first q)
    → first_file first (prefixes_from top parts) ≡ None
    → KeepsWellFormed (puts time (missing first (prefixes_from top parts))) names
puts_keep first names time top [] formed above alike clear = tt
puts_keep first names time top (part ∷ parts) formed above alike clear =
    let path : List (List ℕ) = top ++ part ∷ [] in
    let longer : length top < length path = longer_than_top top part in
    let later : List (List (List ℕ)) = missing first (prefixes_from path parts) in
    let parted : (is_file (get first path) ≡ false) × (first_file first (prefixes_from path parts) ≡ None) = find_none _ path _ clear in
    let new : Entry = new_directory time in
    let changes : Option Entry → List Change = λ o. puts time (cond (is_none o) (path ∷ later) later) in
    elim (found_or_not (get first path)) [
      | inl is ↦
          subst (λ o. KeepsWellFormed (changes o) names) (sym is) (
            IsWellFormed-insert names top part new refl above formed,
            puts_keep first (insert names path new) time path parts
                (IsWellFormed-insert names top part new refl above formed)
                (IsDirectoryIn-found _ path new (get-insert_same names path new) refl)
                (λ q h. get-insert_other names path new q (longer_is_other path q h) ∙ alike q (omega arith))
                parted.1,
          )
      | inr (entry, is) ↦
          let kind : entry.kind ≡ Directory = not_file_is_directory entry.kind (ap is_file (sym is) ∙ parted.0) in
          subst (λ o. KeepsWellFormed (changes o) names) (sym is)
          (puts_keep first names time path parts formed
          (IsDirectoryIn-found names path entry (alike path longer ∙ is) kind)
          (λ q h. alike q (omega arith))
          parted.1)
    ]

-- No prefix is the root, so neither is a path that is put.
prefixes_rootless : (top parts : List (List ℕ)) → All (λ path. path ≢ []) (prefixes_from top parts)
prefixes_rootless top [] = All-nil (λ path. path ≢ [])
prefixes_rootless top (part ∷ parts) =
    let path : List (List ℕ) = top ++ part ∷ [] in
    All-cons (λ p. p ≢ []) path (prefixes_from path parts) (filled-append top part) (prefixes_rootless path parts)

puts_rootless : (names : Namespace) (time : ℕ) (path : List (List ℕ)) → AreRootless (puts time (missing names (prefixes path)))
puts_rootless names time path =
    All-map (λ change. path_of change ≢ []) (λ p. Put p (new_directory time)) (missing names (prefixes path))
    (All-filter (λ p. is_none (get names p)) (λ p. p ≢ []) (prefixes path) (prefixes_rootless [] path))

-- What a plan that makes a record says
pub record Makes (wanted : List Change) (last moment : ℕ) (made : Record) : Type 0 where
  pub time : made.time ≡ moment
  pub changes : made.changes ≡ wanted
  pub room : last ≢ end_of_time

recorded_is : (b : Bool) (last time : ℕ) (changes : List Change) (made : Record) → b ≡ eqb last end_of_time → cond b (Refused ClockAtEnd) (Recorded (record { time = time; changes = changes })) ≡ Recorded made → Makes changes last time made
recorded_is true last time changes made b e = cc
recorded_is false last time changes made b e =
    let full : Record = record { time = time; changes = changes } in
    let is : full ≡ made = cc in
    record { time = ap (λ r. r.time) (sym is); changes = ap (λ r. r.changes) (sym is); room = eqb-false last end_of_time (sym b) }

pub recorded_makes : (last time : ℕ) (changes : List Change) (made : Record) → recorded last time changes ≡ Recorded made → Makes changes last time made
recorded_makes last time [] made e = cc
recorded_makes last time (change ∷ more) made e = recorded_is (eqb last end_of_time) last time (change ∷ more) made refl e

-- An answer's record makes new directories.
makes_directories : (time last : ℕ) (changes : List Change) (made : Record) → MakesDirectories time changes → Makes changes last time made → MakesDirectories made.time made.changes
makes_directories time last changes made directories makes =
    subst (λ moment. MakesDirectories moment made.changes) (sym makes.time) (subst (MakesDirectories time) (sym makes.changes) directories)

pub plan_makes_directories : (time last : ℕ) (changes : List Change) (result : Result (Option Record) PlanFault) → MakesDirectories time changes
    → Plans (recorded last time changes) result → IfOk result (λ answer. IfSome answer (λ made. MakesDirectories made.time made.changes))
plan_makes_directories time last changes (Ok (Some made)) directories is = makes_directories time last changes made directories (recorded_makes last time changes made is)
plan_makes_directories time last changes (Ok None) directories is = tt
plan_makes_directories time last changes (Err fault) directories is = tt

pub planned_makes : (last time : ℕ) (file : Option (List (List ℕ))) (changes : List Change) (made : Record) → planned last time (unless_file file changes) ≡ Recorded made → (file ≡ None) × Makes changes last time made
planned_makes last time None changes made e = (refl, recorded_makes last time changes made e)
planned_makes last time (Some file) changes made e = cc

pub plan_keeps_names : (names : Namespace) (command : Command) (clock last : ℕ) (made : Record) → IsWellFormed names → plan_of names command clock last ≡ Recorded made → KeepsWellFormed made.changes names
plan_keeps_names names (MakeDir path) clock last made formed e =
    let time : ℕ = record_time clock last in
    let makes : (first_file names (prefixes path) ≡ None) × Makes (puts time (missing names (prefixes path))) last time made = planned_makes last time _ _ made e in
    subst (λ changes. KeepsWellFormed changes names) (sym makes.1.changes)
    (puts_keep names names time [] path formed tt (λ q h. refl) makes.0)

plan_is_rootless : (names : Namespace) (command : Command) (clock last : ℕ) (made : Record) → plan_of names command clock last ≡ Recorded made → AreRootless made.changes
plan_is_rootless names (MakeDir path) clock last made e =
    let time : ℕ = record_time clock last in
    let makes : (first_file names (prefixes path) ≡ None) × Makes (puts time (missing names (prefixes path))) last time made = planned_makes last time _ _ made e in
    subst AreRootless (sym makes.1.changes) (puts_rootless names time path)

pub plan_times : (names : Namespace) (command : Command) (clock last : ℕ) (made : Record) → plan_of names command clock last ≡ Recorded made → (made.time ≡ record_time clock last) × (last ≢ end_of_time)
plan_times names (MakeDir path) clock last made e =
    let time : ℕ = record_time clock last in
    let makes : (first_file names (prefixes path) ≡ None) × Makes (puts time (missing names (prefixes path))) last time made = planned_makes last time _ _ made e in
    (makes.1.time, makes.1.room)

pub record_time_rises : (clock last : ℕ) → last ≤ end_of_time → last ≢ end_of_time → (last < record_time clock last) × (record_time clock last ≤ end_of_time)
record_time_rises clock last low room = (omega arith, omega arith)

pub plan_times_rise : (names : Namespace) (command : Command) (clock last : ℕ) (made : Record) → last ≤ end_of_time → plan_of names command clock last ≡ Recorded made → (last < made.time) × (made.time ≤ end_of_time)
plan_times_rise names command clock last made low e =
    let is : (made.time ≡ record_time clock last) × (last ≢ end_of_time) = plan_times names command clock last made e in
    let rises : (last < record_time clock last) × (record_time clock last ≤ end_of_time) = record_time_rises clock last low is.1 in
    (omega arith, omega arith)

-- A log that a record joins
pub last_time_is_low : (before : ℕ) (log : List Record) → before ≤ end_of_time → TimesRise before log → last_time_from before log ≤ end_of_time
last_time_is_low before [] low rise = low
last_time_is_low before (r ∷ log) low rise = last_time_is_low r.time log rise.1 rise.2

pub TimesRise-push : (before : ℕ) (log : List Record) (made : Record) → TimesRise before log → last_time_from before log < made.time → made.time ≤ end_of_time → TimesRise before (log ++ made ∷ [])
TimesRise-push before [] made rise later low = (later, low, tt)
TimesRise-push before (r ∷ log) made rise later low = (rise.0, rise.1, TimesRise-push r.time log made rise.2 later low)

pub changes_of-push : (log : List Record) (made : Record) → changes_of (log ++ made ∷ []) ≡ changes_of log ++ made.changes
changes_of-push [] made = append-nil made.changes
changes_of-push (r ∷ log) made = ap (λ more. r.changes ++ more) (changes_of-push log made) ∙ sym (append_assoc r.changes (changes_of log) made.changes)

pub fold-push : (log : List Record) (made : Record) → fold (log ++ made ∷ []) ≡ after_record made (fold log)
fold-push log made = ap (λ changes. after_changes changes empty) (changes_of-push log made) ∙ after_changes-append (changes_of log) made.changes empty

pub IsWellFormed-fold : (log : List Record) → IsSound log → IsWellFormed (fold log)
IsWellFormed-fold log sound = IsWellFormed-after (changes_of log) empty IsWellFormed-empty sound.well_formed

pub IsSound-push : (log : List Record) (command : Command) (clock : ℕ) (made : Record) → IsSound log → plan_of (fold log) command clock (last_time log) ≡ Recorded made → IsSound (log ++ made ∷ [])
IsSound-push log command clock made sound e =
    let low : last_time log ≤ end_of_time = last_time_is_low 0 log (omega arith) sound.times in
    let times : (last_time log < made.time) × (made.time ≤ end_of_time) = plan_times_rise (fold log) command clock (last_time log) made low e in
    let keeps : KeepsWellFormed made.changes (fold log) = plan_keeps_names (fold log) command clock (last_time log) made (IsWellFormed-fold log sound) e in
    let rootless : AreRootless made.changes = plan_is_rootless (fold log) command clock (last_time log) made e in
    record {
      times = TimesRise-push 0 log made sound.times times.0 times.1;
      rootless = subst AreRootless (sym (changes_of-push log made))
          (All-append (λ change. path_of change ≢ []) (changes_of log) made.changes sound.rootless rootless);
      well_formed = subst (λ changes. KeepsWellFormed changes empty) (sym (changes_of-push log made))
          (KeepsWellFormed-append (changes_of log) made.changes empty sound.well_formed keeps);
    }
