-- From the disk that a run started on to what a crash leaves of the run.
use Rattle.std.proofs.Common.{◌≡◌, ◌⊎◌, inl, inr, ℕ, ◌≤◌, List, [], Option, Some, None, refl, sym, subst, arith}
use Rattle.std.specs.Prelude.{IsSomeAnd}
use Rattle.weed_base.specs.Files.{Files, BothTold}
use Rattle.weed_base.specs.Images.{NoMore, LeavesOnly, OnlyReads}
use Rattle.weed_base.specs.Sent.{Piece, bytes_sent}
use Rattle.weed_base.proofs.ImageLemmas.{leaves_both, leaves_weaker, reads_leaves}
use Rattle.name_core.specs.declared.change.Record.{Record}
use Rattle.name_core.specs.Log.{IsSound}
use Rattle.meta_log.specs.Kept.{IsRecordLog}
use Rattle.meta_log.specs.Images.{HasLogOf, IsOwn, AllNear, AreNear}
use Rattle.meta_log.specs.Faults.{IfDamaged}
use Rattle.meta_log.specs.declared.fault.LogFault.{LogFault}
use Rattle.meta_log.specs.declared.fault.LogFault.TheVariants as fault
use Rattle.weed_command.specs.Session.{State}
use Rattle.weed_command.specs.Tells.{Ends}
use Rattle.weed_command.specs.Crash.{IsOfRun, IsSoundLog, IsAtStart, Withstands, Survives}
use Rattle.weed_command.specs.declared.exit.Exit.{Exit}
use Rattle.weed_command.proofs.HandedLemmas.{unsent}
use Rattle.weed_command.proofs.CrashLemmas.{log_unique}
use Rattle.weed_command.proofs.SoundLemmas.{run_sound}

-- A disk that was told and stays so isn't damaged by what wants it untold.
pub stays_told : (R : Files → Files → Type 0) (old new : Option Files) (files : Files) → old ≡ Some files → BothTold R old new → new ≡ None → ⊥
stays_told R None new files told both untold = cc
stays_told R (Some before) None files told both untold = both
stays_told R (Some before) (Some after) files told both untold = cc

-- A fault that isn't there can't be damage.
pub undamaged : (Blame : Type 0) (fault : LogFault) → IfDamaged (λ _ _. Blame) fault → ¬ Blame → IfDamaged (λ _ _. ⊥) fault
undamaged Blame fault.DiskFault damage none = tt
undamaged Blame (fault.Damaged file at) damage none = none damage
undamaged Blame fault.Memory damage none = tt

-- What reads give of a disk of one's own is sound.
pub own_is_sound : (images : Files → Type 0) (files : Files) (log : List Record) → IsOwn images → images files → IsRecordLog files log → IsSound log
own_is_sound images files log own left kept =
    let had = own.logs files left in
    subst IsSound (log_unique files had.0 log had.1 kept) had.2

pub own_fewer : (images fewer : Files → Type 0) → IsOwn images → NoMore images fewer → IsOwn fewer
own_fewer images fewer own none = record {
  logs = λ image left. own.logs image (none image left);
  near = λ one other records others left also kept holds. own.near one other records others (none one left) (none other also) kept holds;
}

pub log_told : (told : Option Files) (log : List Record) → IsSomeAnd told (λ files. IsRecordLog files log) → (files : Files) × (told ≡ Some files) × IsRecordLog files log
log_told None log there = absurd there
log_told (Some files) log there = (files, refl, there)

fewer_logs : (images fewer : Files → Type 0) → NoMore images fewer → (image : Files) → HasLogOf fewer image → HasLogOf images image
fewer_logs images fewer none image had = (had.0, none had.0 had.1, had.2)

module _ {D : Type 0} (tick : D → ℕ) (images : D → Files → Type 0) (since : D → ℕ → Files → Type 0) where
  -- a log was opened, and then calls only read
  pub opened_and_read : (old mid new : D) → LeavesOnly tick since old mid (HasLogOf (images old)) → OnlyReads tick images since mid new → LeavesOnly tick since old new (HasLogOf (images old))
  opened_and_read old mid new opens reads =
      leaves_both tick since old mid new (HasLogOf (images old)) opens (reads_leaves tick images since mid new (HasLogOf (images old)) reads)

  -- calls only read, and then a log was opened
  pub read_and_opened : (old mid new : D) → OnlyReads tick images since old mid → LeavesOnly tick since mid new (HasLogOf (images mid)) → LeavesOnly tick since old new (HasLogOf (images old))
  read_and_opened old mid new reads opens =
      leaves_both tick since old mid new (HasLogOf (images old)) (reads_leaves tick images since old mid (HasLogOf (images old)) reads)
      (leaves_weaker tick since mid new (HasLogOf (images mid)) (HasLogOf (images old)) (fewer_logs (images old) (images mid) reads.now) opens)

module _ {D : Type 0} (tick : D → ℕ) (images : D → Files → Type 0) (since : D → ℕ → Files → Type 0) (sent : D → Option (List Piece))
    (only_now : (disk : D) (image : Files) → since disk (tick disk) image → images disk image)
    (counts_now : (disk : D) (moment : ℕ) (image : Files) → moment ≤ tick disk → images disk image → since disk moment image) where
  module _ (start mid : D) (own : IsOwn (images start)) (opens : LeavesOnly tick since start mid (HasLogOf (images start))) where
    -- what there was until a session began is of the start
    before_session : (image : Files) → since mid (tick start) image → (log : List Record) × IsSoundLog image log × IsAtStart (images start) log
    before_session image left =
        elim (opens.each (tick start) image (omega arith) left) as (λ _. (log : List Record) × IsSoundLog image log × IsAtStart (images start) log) [
          | inl before ↦
              let at = only_now start image before in
              let had = own.logs image at in (had.0, (had.1, had.2), (image, at, had.1))
          | inr has ↦ let had = own.logs has.0 has.1 in (had.0, (has.2 had.0 had.1, had.2), (has.0, has.1, had.1))
        ]

    at_start : (image : Files) → images mid image → (log : List Record) × IsSoundLog image log × IsAtStart (images start) log
    at_start image left = before_session image (counts_now mid (tick start) image opens.later left)

    still_near : AllNear (images mid)
    still_near one other records others left also kept holds =
        let at = at_start one left in
        let to = at_start other also in
        let same = log_unique one records at.0 kept at.1.0 in
        let equal = log_unique other others to.0 holds to.1.0 in
        subst (λ (r : List Record). AreNear r others) (sym same) (subst (λ (r : List Record). AreNear at.0 r) (sym equal) (own.near at.2.0 to.2.0 at.0 to.0 at.2.1 to.2.1 at.2.2 to.2.2))

    -- a run that ended before its session
    pub survives_early : (end : Exit) (first last : State) → bytes_sent (sent mid) ≡ Some first.sent → Survives tick images since sent start mid end first [] last (λ _. ⊥)
    survives_early end first last told = record {
      crash = λ image left. let was = before_session image left in (was.0, was.1, inl was.2);
      answers = record { whole = tt; begun = λ _ moment image at left. absurd (unsent (sent mid) first.sent moment told at) };
      again = record { logs = λ image left. let at = at_start image left in (at.0, at.1.0, at.1.1); near = still_near };
    }

    module _ (now : D) (end : Exit) (first : State) (path : List State) (last : State) (sound : IsSound first.log) (withstands : Withstands tick images since sent mid now end first path last)
        (Cut : Type 0) (ends : Ends Cut end first path last) where
      -- a run with its session
      session_crash : (image : Files) → since now (tick start) image → (log : List Record) × IsSoundLog image log × (IsAtStart (images start) log ⊎ IsOfRun end first path last log)
      session_crash image left =
          elim (withstands.leaves.each (tick start) image opens.later left) as (λ _. (log : List Record) × IsSoundLog image log × (IsAtStart (images start) log ⊎ IsOfRun end first path last log)) [
            | inl before ↦ let was = before_session image before in (was.0, was.1, inl was.2)
            | inr of_run ↦ (of_run.0, (of_run.1, run_sound Cut end first path last of_run.0 ends of_run.2 sound), inr of_run.2)
          ]

      session_logs : (image : Files) → images now image → (log : List Record) × IsRecordLog image log × IsSound log
      session_logs image left =
          let at = session_crash image (counts_now now (tick start) image (omega (arith, opens.later, withstands.leaves.later)) left) in
          (at.0, at.1.0, at.1.1)

      pub survives_session : Survives tick images since sent start now end first path last (IsOfRun end first path last)
      survives_session = record { crash = session_crash; answers = withstands.answers; again = record { logs = session_logs; near = withstands.near } }
