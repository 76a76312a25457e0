-- The open files of a directory, and what they await of the next sync.
use Rattle.std.specs.Prelude.{◌≡◌, ◌≢◌, ◌⊎◌, ◌<◌, ◌≤◌, ℕ, zero, suc, true, cond, not, List, length, filter, map, slice_index_or, ⊤}
use Rattle.std.specs.Str.{bytes_eq}
use Rattle.std.specs.List.{Any}
use Rattle.real_forms.specs.System.{FileCall, SettleData, SettleAll, Act, CallFile}
use Rattle.real_forms.specs.declared.kept.Awaits.{Awaits}
use Rattle.real_forms.specs.declared.kept.Awaits.TheVariants.{Nothing, Data, Everything}
use Rattle.real_forms.specs.declared.kept.KeptFile.{KeptFile}
use Rattle.real_forms.specs.declared.kept.KeptFiles.{KeptFiles}

-- A mark asks for at least as much as another: everything for more than data, data for more than nothing.
abbrev pub Covers : Awaits → Awaits → Type 0
Covers mark Nothing = ⊤
Covers Nothing Data = ⊥
Covers Data Data = ⊤
Covers Everything Data = ⊤
Covers Nothing Everything = ⊥
Covers Data Everything = ⊥
Covers Everything Everything = ⊤

-- That file is open under that name, and awaits at least that.
abbrev pub Awaiting : {F : Type 0} → List ℕ → F → Awaits → List (KeptFile F) → Type 0
Awaiting name file mark files = Any (λ kept. (kept.name ≡ name) × ((kept.file ≡ file) × Covers kept.awaits mark)) files

-- Each file that awaited something is still open, and awaits at least as much.
abbrev pub StillAwaits : {F : Type 0} → List (KeptFile F) → List (KeptFile F) → Type 0
StillAwaits {F} old new = (name : List ℕ) (file : F) (mark : Awaits) → mark ≢ Nothing → Awaiting name file mark old → Awaiting name file mark new

-- What awaits something awaited as much, but for what may.
abbrev pub AwaitsNoMore : {F : Type 0} → (List ℕ → Awaits → Type 0) → List (KeptFile F) → List (KeptFile F) → Type 0
AwaitsNoMore {F} May old new = (name : List ℕ) (file : F) (mark : Awaits) → mark ≢ Nothing → Awaiting name file mark new → Awaiting name file mark old ⊎ May name mark

-- The file at that place has that name.
abbrev pub IsNamedAt : {F : Type 0} → List ℕ → ℕ → List (KeptFile F) → Type 0
IsNamedAt {F} name place files = (place < length files) × ((d : KeptFile F) → (slice_index_or files place d).name ≡ name)

-- The file at that place is this one.
abbrev pub IsFileAt : {F : Type 0} → ℕ → List (KeptFile F) → F → Type 0
IsFileAt {F} place files file = (d : KeptFile F) → (slice_index_or files place d).file ≡ file

-- That file is open under that name.
abbrev pub IsOpenAs : {F : Type 0} → List ℕ → F → List (KeptFile F) → Type 0
IsOpenAs name file files = Any (λ kept. (kept.name ≡ name) × (kept.file ≡ file)) files

-- None is open that wasn't.
abbrev pub OpensNone : {F : Type 0} → List (KeptFile F) → List (KeptFile F) → Type 0
OpensNone {F} old new = (name : List ℕ) (file : F) → IsOpenAs name file new → IsOpenAs name file old

-- What a file awaited was settled by a sync of its kind, which answered Ok.
abbrev pub IsSettledBy : {F : Type 0} → (FileCall → F → Type 0) → Awaits → F → Type 0
IsSettledBy answered Nothing file = ⊤
IsSettledBy answered Data file = answered SettleData file
IsSettledBy answered Everything file = answered SettleAll file

-- The file is the same, and its mark stays, or falls to nothing by an answer.
pub record FallsByAnswer {F : Type 0} (answered : FileCall → F → Type 0) (before after : KeptFile F) : Type 0 where
  pub name : after.name ≡ before.name
  pub file : after.file ≡ before.file
  pub mark : (after.awaits ≡ before.awaits) ⊎ ((after.awaits ≡ Nothing) × IsSettledBy answered before.awaits before.file)

-- The file awaits something.
abbrev pub AwaitsSomething : {F : Type 0} → KeptFile F → Type 0
AwaitsSomething kept = kept.awaits ≢ Nothing

-- The file awaits nothing.
abbrev pub AwaitsNothing : {F : Type 0} → KeptFile F → Type 0
AwaitsNothing kept = kept.awaits ≡ Nothing

-- The files but those of that name.
abbrev pub without : {F : Type 0} → List ℕ → List (KeptFile F) → List (KeptFile F)
without name files = filter (λ kept. not (bytes_eq kept.name name)) files

-- The file, which has the second name where it had the first.
abbrev pub renamed_file : {F : Type 0} → List ℕ → List ℕ → KeptFile F → KeptFile F
renamed_file from to kept = cond (bytes_eq kept.name from) (record kept { name = to }) kept

-- What had the first name has the second, what had the second is gone, and the other files stay.
abbrev pub AreRenamed : {F : Type 0} → List ℕ → List ℕ → List (KeptFile F) → List (KeptFile F) → Type 0
AreRenamed from to old new = new ≡ map (renamed_file from to) (without to old)

-- What the file awaited was asked for by one call of its kind, and nothing where it awaited nothing.
abbrev pub SettlesBy : {R F : Type 0} → (R → R → Act F → Type 0) → Awaits → F → R → R → Type 0
SettlesBy one_act Nothing file old new = new ≡ old
SettlesBy one_act Data file old new = one_act old new (CallFile file SettleData)
SettlesBy one_act Everything file old new = one_act old new (CallFile file SettleAll)

-- So many first files were settled by it, one after another.
abbrev pub SettlesFirst : {R F : Type 0} → (R → R → Act F → Type 0) → List (KeptFile F) → ℕ → R → R → Type 0
SettlesFirst one_act files zero old new = new ≡ old
SettlesFirst {R} {F} one_act files (suc count) old new =
    (next : R) × SettlesFirst one_act files count old next
    × ((d : KeptFile F) → SettlesBy one_act (slice_index_or files count d).awaits (slice_index_or files count d).file next new)

-- First files of the directory were settled so, and then the names at most, where they awaited it.
pub record SettlesInTurn {R F : Type 0} (one_act : R → R → Act F → Type 0) (kept : KeptFiles F) (old new : R) : Type 0 where
  pub count : ℕ
  pub next : R
  pub within : count ≤ length kept.files.items
  pub files : SettlesFirst one_act kept.files.items count old next
  pub names : (new ≡ next) ⊎ ((kept.names_await ≡ true) × one_act next new (CallFile kept.directory SettleAll))
