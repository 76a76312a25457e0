-- From a whole run to its session.
use Rattle.std.proofs.Common.{◌≡◌, ◌≢◌, ◌⊎◌, ℕ, List, [], length, Option, Some, None, refl, ap, ◌∙◌, subst, inl, inr}
use Rattle.std.specs.Prelude.{IfSome, IsSomeAnd}
use Rattle.weed_base.specs.Files.{Files, BothTold}
use Rattle.name_core.specs.declared.change.Record.{Record}
use Rattle.meta_log.specs.Images.{IsMadeFrom}
use Rattle.meta_log.specs.LogText.{NoneFrom}
use Rattle.meta_log.specs.declared.stem.Stem.TheVariants.{Log}
use Rattle.meta_log.specs.Kept.{IsRecordLog, TellsRecordLog, IsRecordDamage}
use Rattle.meta_log.proofs.Damage.{no_record_damage}
use Rattle.weed_command.specs.Inbox.{left_of}
use Rattle.weed_command.specs.Filer.{IsFiledFrom, TellsFiler}
use Rattle.weed_command.specs.Session.{State, Stands, Turns, most_turns}
use Rattle.weed_command.specs.Tells.{Tells, Ends, IsSessionEnd}
use Rattle.weed_command.specs.Run.{Starts, Begins, IsEarly, IfDamagedExit, IsDoneOrShort, exit_of_fault}
use Rattle.meta_log.specs.Faults.{IfDamaged}
use Rattle.meta_log.specs.declared.fault.LogFault.{LogFault}
use Rattle.meta_log.specs.declared.fault.LogFault.TheVariants as fault
use Rattle.weed_command.specs.declared.exit.Exit.{Exit}
use Rattle.weed_command.specs.declared.exit.Exit.TheVariants as exit
use Rattle.weed_command.specs.declared.session.Session.{Session}
use Rattle.weed_command.specs.declared.plain_filer.PlainFiler.{PlainFiler}

some_same : {A : Type 0} (a b : A) → Some a ≡ Some b → a ≡ b
some_same a b e = cc

filed_tells : (old new : Option Files) (filer : PlainFiler) (log : List Record) → IsSomeAnd old (λ told. IsRecordLog told log) → IfSome old (λ files. IsFiledFrom files new filer) → TellsFiler new filer log
filed_tells None new filer log there filed = absurd there
filed_tells (Some files) new filer log there filed = filed.holds log there

-- A session began over a log.
pub found_log : (old new : Option Files) (session : Session) (files : Files) → old ≡ Some files → Begins old new session → (records : List Record) × IsRecordLog files records
found_log None new session files told begins = cc
found_log (Some before) new session files told begins =
    subst (λ (disk : Files). (records : List Record) × IsRecordLog disk records) (some_same before files told) begins.filed.found

-- Files of which no segment counts are a log of no records.
empty_log : (files : Files) → NoneFrom Log 1 files → IsRecordLog files []
empty_log files none = record { payloads = []; text = inl (none, refl); read = tt; times = tt }

-- Files that are no log of records stay as they are, since a segment of theirs counts.
pub no_log_stays : (old new : Option Files) (files : Files) → old ≡ Some files → ((records : List Record) → ¬ IsRecordLog files records)
    → BothTold (IsMadeFrom Log) old new → new ≡ old
no_log_stays None new files told no_log made = cc
no_log_stays (Some before) None files told no_log made = absurd made
no_log_stays (Some before) (Some after) files told no_log (inl same) = ap Some same
no_log_stays (Some before) (Some after) files told no_log (inr fresh) =
    absurd (no_log [] (empty_log files (subst (NoneFrom Log 1) (some_same before files told) fresh.0)))

-- A session that has begun tells the state that the run started from.
pub begun_tells : (left sent sent' : Option (List ℕ)) (old new : Option Files) (clock : Option (List ℕ)) (session : Session) (first : State)
    → Starts left sent old clock first → Begins old new session → sent' ≡ sent → Tells left sent' new clock session first
begun_tells left sent sent' old new clock session first starts begins same = record {
  left_is = ap (λ pending. left_of pending left) begins.empty ∙ ap (left_of []) starts.unread;
  sent_is = same ∙ starts.stands.sent_is;
  filer = filed_tells old new session.filer first.log starts.stands.log_is begins.filed;
  moments_are = starts.stands.moments_are;
}

still_log : (R : Files → Files → Type 0) (old new : Option Files) (log : List Record) → BothTold R old new → (TellsRecordLog old log → TellsRecordLog new log)
    → IsSomeAnd old (λ told. IsRecordLog told log) → IsSomeAnd new (λ told. IsRecordLog told log)
still_log R None new log both kept there = absurd there
still_log R (Some files) None log both kept there = absurd both
still_log R (Some files) (Some files') log both kept there = kept there

-- What ended before its session leaves what it started from.
pub early_stands : (R : Files → Files → Type 0) (left sent sent' : Option (List ℕ)) (old new : Option Files) (clock : Option (List ℕ)) (first : State)
    → Starts left sent old clock first → BothTold R old new → ((records : List Record) → TellsRecordLog old records → TellsRecordLog new records) → sent' ≡ sent
    → Stands left sent' new clock first
early_stands R left sent sent' old new clock first starts both kept same = record {
  left_is = starts.stands.left_is;
  sent_is = same ∙ starts.stands.sent_is;
  log_is = still_log R old new first.log both (kept first.log) starts.stands.log_is;
  moments_are = starts.stands.moments_are;
}

-- A log that was opened without damage
pub exit_is_sound : (fault : LogFault) → IfDamaged (λ _ _. ⊥) fault → IfDamagedExit (λ _ _. ⊥) (exit_of_fault fault)
exit_is_sound fault.DiskFault none = tt
exit_is_sound (fault.Damaged file at) none = none
exit_is_sound fault.Memory none = tt

pub session_is_sound : (P : List ℕ → ℕ → Type 0) (end : Exit) → IsSessionEnd end → IfDamagedExit P end
session_is_sound P exit.Done ends = ends
session_is_sound P exit.ReadFault ends = ends
session_is_sound P exit.WriteFault ends = ends
session_is_sound P exit.DiskFault ends = ends
session_is_sound P exit.TurnsSpent ends = ends
session_is_sound P exit.Memory ends = absurd ends
session_is_sound P (exit.BadWords place) ends = absurd ends
session_is_sound P (exit.Damaged file at) ends = absurd ends

pub session_has_words : (end : Exit) (place : ℕ) → IsSessionEnd end → end ≡ exit.BadWords place → ⊥
session_has_words end place ends is = subst IsSessionEnd is ends

undamaged : (files : Option Files) (log : List Record) (file : List ℕ) (at : ℕ) → IsSomeAnd files (λ told. IsRecordLog told log) → ¬ IfSome files (λ told. IsRecordDamage told file at)
undamaged None log file at there damage = there
undamaged (Some files) log file at there damage = no_record_damage files file at log damage there

-- An end has its cause: without one, the run is done or short of memory.
pub completes : (Cut : Type 0) (files : Option Files) (Same : Type 0) (Disk Read Write : Type 0) (end : Exit) (first : State)
    → IsSomeAnd files (λ told. IsRecordLog told first.log)
    → (path : List State) (last : State) → Ends Cut end first path last ⊎ IsEarly end
    → ((place : ℕ) → end ≡ exit.BadWords place → ⊥)
    → IfDamagedExit (λ file at. IfSome files (λ told. IsRecordDamage told file at) × Same) end
    → (end ≡ exit.DiskFault → Disk) → (end ≡ exit.ReadFault → Read) → (end ≡ exit.WriteFault → Write)
    → ¬ Disk → ¬ Read → ¬ Write → ((path : List State) → Turns first path → length path ≢ most_turns)
    → IsDoneOrShort end
completes Cut files Same Disk Read Write exit.Done first there path last ends good damaged disk read write no_disk no_read no_write few = tt
completes Cut files Same Disk Read Write exit.Memory first there path last ends good damaged disk read write no_disk no_read no_write few = tt
completes Cut files Same Disk Read Write exit.DiskFault first there path last ends good damaged disk read write no_disk no_read no_write few = no_disk (disk refl)
completes Cut files Same Disk Read Write exit.ReadFault first there path last ends good damaged disk read write no_disk no_read no_write few = no_read (read refl)
completes Cut files Same Disk Read Write exit.WriteFault first there path last ends good damaged disk read write no_disk no_read no_write few = no_write (write refl)
completes Cut files Same Disk Read Write exit.TurnsSpent first there path last (inl ends) good damaged disk read write no_disk no_read no_write few = few path ends.0 ends.1
completes Cut files Same Disk Read Write exit.TurnsSpent first there path last (inr early) good damaged disk read write no_disk no_read no_write few = early
completes Cut files Same Disk Read Write (exit.BadWords place) first there path last ends good damaged disk read write no_disk no_read no_write few = good place refl
completes Cut files Same Disk Read Write (exit.Damaged file at) first there path last ends good damaged disk read write no_disk no_read no_write few = undamaged files first.log file at there damaged.0
