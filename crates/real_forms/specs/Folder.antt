-- What the calls of an attached directory ask of the system, and what they keep.
use Rattle.std.specs.Prelude.{◌≡◌, ◌≢◌, ◌⊎◌, ℕ, true, false, List, [], string_bytes}
use Rattle.std.specs.Cmp.Lexicographic.{slice_cmp}
use Rattle.std.specs.Ordering.{nat_cmp}
use Rattle.std.specs.List.{All, AllZip}
use Rattle.std.specs.List.Sorted.{IsSorted, IsPermutation}
use Rattle.real_forms.specs.System.{FileCall, CutTo, SettleAll, Act, CallFile, MakeDirectory, MakeFile, ActsOnly, IsSettling, PathCall, MadeDirectory, OpenedToSettle, Opened, Missed, Made, Removed, Renamed, Listed, path_in, directory_above}
use Rattle.real_forms.specs.Awaiting.{Awaiting, IsOpenAs, IsFileAt, StillAwaits, AwaitsNoMore, AwaitsNothing, FallsByAnswer, without, AreRenamed}
use Rattle.real_forms.specs.declared.kept.Awaits.{Awaits}
use Rattle.real_forms.specs.declared.kept.Awaits.TheVariants.{Everything}
use Rattle.real_forms.specs.declared.kept.KeptFile.{KeptFile}
use Rattle.real_forms.specs.declared.folder.Folder.{Folder}

-- The file stood open under that name, or it was opened at that path.
abbrev pub IsOpenFile : {F : Type 0} → (PathCall F → Type 0) → List ℕ → List ℕ → List (KeptFile F) → F → Type 0
IsOpenFile answered path name files file = IsOpenAs name file files ⊎ answered (Opened path file)

-- At that place is such a file.
abbrev pub IsOpenAt : {F : Type 0} → (PathCall F → Type 0) → List ℕ → List ℕ → List (KeptFile F) → List (KeptFile F) → ℕ → Type 0
IsOpenAt {F} answered path name before after place = (file : F) × IsFileAt place after file × IsOpenFile answered path name before file

-- The path of that name in the directory.
abbrev pub path_of : {F : Type 0} → Folder F → List ℕ → List ℕ
path_of folder name = path_in (string_bytes folder.path) name

-- An open file of that name in the directory is so.
abbrev pub OfFile : {F : Type 0} → (PathCall F → Type 0) → (F → Type 0) → List ℕ → Folder F → Type 0
OfFile {F} answered P name folder = (file : F) × IsOpenFile answered (path_of folder name) name folder.kept.files.items file × P file

-- The same, or no file of that name is there, and that is so.
abbrev pub OfFileOrMissed : {F : Type 0} → (PathCall F → Type 0) → Type 0 → (F → Type 0) → List ℕ → Folder F → Type 0
OfFileOrMissed answered Q P name folder = OfFile answered P name folder ⊎ (answered (Missed (path_of folder name)) × Q)

-- The act is that call of an open file of that name, which then awaits at least that of a sync.
abbrev pub IsCallOf : {F : Type 0} → (PathCall F → Type 0) → FileCall → Awaits → List ℕ → Folder F → Folder F → Act F → Type 0
IsCallOf answered call mark name before after act =
    OfFile answered (λ file. (act ≡ CallFile file call) × Awaiting name file mark after.kept.files.items) name before

-- The act is this one, and then the names await a sync.
abbrev pub IsNaming : {F : Type 0} → Act F → Folder F → Act F → Type 0
IsNaming this after act = (act ≡ this) × (after.kept.names_await ≡ true)

-- The act empties an open file of that name, or makes one where none was found, and what it did then awaits a sync.
abbrev pub IsMaking : {F : Type 0} → (PathCall F → Type 0) → List ℕ → Folder F → Folder F → Act F → Type 0
IsMaking answered name before after act =
    IsCallOf answered (CutTo 0) Everything name before after act
    ⊎ (answered (Missed (path_of before name)) × IsNaming (MakeFile (path_of before name)) after act)

-- What lies at that path was opened, and settled whole.
abbrev pub IsSettledAt : {F : Type 0} → (PathCall F → Type 0) → (FileCall → F → Type 0) → List ℕ → Type 0
IsSettledAt {F} by_path by_file path = (file : F) × by_path (OpenedToSettle path file) × by_file SettleAll file

-- It was asked first for a directory to be made; then what lies above it was settled, and from then on nothing but settled.
abbrev pub MakesThenSettles : {R F : Type 0} → (R → R → Act F → Type 0) → (PathCall F → Type 0) → (FileCall → F → Type 0) → List ℕ → R → R → Type 0
MakesThenSettles {R} {F} one_act by_path by_file place old new =
    (made : R) × (settled : R) × (above : F) × one_act old made (MakeDirectory place) × by_path (MadeDirectory place)
    × by_path (OpenedToSettle (directory_above place) above) × by_file SettleAll above × one_act made settled (CallFile above SettleAll)
    × ActsOnly one_act IsSettling settled new

-- The same, once what was attached before was settled.
abbrev pub SettlesMakesSettles : {R F : Type 0} → (R → R → Act F → Type 0) → (PathCall F → Type 0) → (FileCall → F → Type 0) → List ℕ → R → R → Type 0
SettlesMakesSettles {R} one_act by_path by_file place old new =
    (begun : R) × ActsOnly one_act IsSettling old begun × MakesThenSettles one_act by_path by_file place begun new

-- These are the names that were listed in the directory, in byte order.
abbrev pub IsListing : {F : Type 0} → (PathCall F → Type 0) → List (List ℕ) → Folder F → Type 0
IsListing answered names folder =
    (listed : List (List ℕ)) × answered (Listed (string_bytes folder.path) listed) × IsPermutation listed names × IsSorted (slice_cmp nat_cmp) names

-- The directory is the same one.
pub record IsSameFolder {F : Type 0} (before after : Folder F) : Type 0 where
  pub path : after.path ≡ before.path
  pub directory : after.kept.directory ≡ before.kept.directory

-- Each file that is open was so before under that name, or was opened or made at the path of it.
abbrev pub OpensByName : {F : Type 0} → (PathCall F → Type 0) → Folder F → Folder F → Type 0
OpensByName {F} answered before after =
    (name : List ℕ) (file : F) → IsOpenAs name file after.kept.files.items
    → IsOpenFile answered (path_of before name) name before.kept.files.items file ⊎ answered (Made (path_of before name) file)

-- Each file that is open was so before, but for this one.
abbrev pub OpensOne : {F : Type 0} → List ℕ → F → Folder F → Folder F → Type 0
OpensOne {F} name file before after =
    (other : List ℕ) (held : F) → IsOpenAs other held after.kept.files.items → IsOpenAs other held before.kept.files.items ⊎ ((name ≡ other) × (file ≡ held))

-- The same directory. Each open file is the one at its name's path, and what awaited a sync still does.
pub record KeepsFolder {F : Type 0} (answered : PathCall F → Type 0) (before after : Folder F) : Type 0 where
  pub same : IsSameFolder before after
  pub opens : OpensByName answered before after
  pub files : StillAwaits before.kept.files.items after.kept.files.items
  pub names : before.kept.names_await ≡ true → after.kept.names_await ≡ true

-- No mark rose but those that may, and the names await a sync as before, or `Named` says why not.
pub record MarksNoMore {F : Type 0} (May : List ℕ → Awaits → Type 0) (Named : Type 0) (before after : Folder F) : Type 0 where
  pub files : AwaitsNoMore May before.kept.files.items after.kept.files.items
  pub names : (after.kept.names_await ≡ before.kept.names_await) ⊎ Named

-- Nothing of the directory awaits a sync.
abbrev pub IsSettledWhole : {F : Type 0} → Folder F → Type 0
IsSettledWhole folder = All AwaitsNothing folder.kept.files.items × (folder.kept.names_await ≡ false)

-- A directory was opened: it and its files were settled whole. None of its files stays open.
pub record IsOpenedFolder {F : Type 0} (by_path : PathCall F → Type 0) (by_file : FileCall → F → Type 0) (place : List ℕ) (folder : Folder F) : Type 0 where
  pub path : string_bytes folder.path ≡ place
  pub directory : by_path (OpenedToSettle place folder.kept.directory)
  pub names : by_file SettleAll folder.kept.directory
  pub files : (listed : List (List ℕ)) × by_path (Listed place listed) × All (λ name. IsSettledAt by_path by_file (path_in place name)) listed
  pub closed : folder.kept.files.items ≡ []
  pub named : folder.kept.names_await ≡ false

-- A file that was there was emptied, or one was made, and the names await a sync; it awaits a sync of everything.
abbrev pub HasMade : {F : Type 0} → (PathCall F → Type 0) → (FileCall → F → Type 0) → List ℕ → Folder F → Folder F → Type 0
HasMade {F} by_path by_file name before after =
    OfFile by_path (λ file. by_file (CutTo 0) file × Awaiting name file Everything after.kept.files.items) name before
    ⊎ (((file : F) × by_path (Made (path_of before name) file) × Awaiting name file Everything after.kept.files.items) × (after.kept.names_await ≡ true))

-- A file was removed.
pub record HasRemoved {F : Type 0} (answered : PathCall F → Type 0) (name : List ℕ) (before after : Folder F) : Type 0 where
  pub call : answered (Removed (path_of before name))
  pub files : after.kept.files.items ≡ without name before.kept.files.items
  pub names : after.kept.names_await ≡ true

-- A file was renamed.
pub record HasRenamed {F : Type 0} (answered : PathCall F → Type 0) (from to : List ℕ) (before after : Folder F) : Type 0 where
  pub call : answered (Renamed (path_of before from) (path_of before to))
  pub equal : from ≡ to → after.kept.files.items ≡ before.kept.files.items
  pub moved : from ≢ to → AreRenamed from to before.kept.files.items after.kept.files.items
  pub names : after.kept.names_await ≡ true

-- Names may have changed, and await a sync; the files are the same.
pub record NamesMayHaveChanged {F : Type 0} (before after : Folder F) : Type 0 where
  pub files : after.kept.files.items ≡ before.kept.files.items
  pub names : after.kept.names_await ≡ true

-- What awaited a sync fell by an answer of one alone.
pub record SettlesFiles {F : Type 0} (answered : FileCall → F → Type 0) (before after : Folder F) : Type 0 where
  pub files : AllZip (FallsByAnswer answered) before.kept.files.items after.kept.files.items
  pub names : (after.kept.names_await ≡ before.kept.names_await) ⊎ ((after.kept.names_await ≡ false) × answered SettleAll before.kept.directory)
