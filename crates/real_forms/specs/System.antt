-- The calls of the system that keep a directory: what each answered, and which of them may change something.
use Rattle.std.specs.Prelude.{◌≡◌, ◌⊎◌, ℕ, zero, suc, ⊤, List, [], ◌∷◌, ◌++◌, codes, unwrap_or}
use Rattle.std.specs.Path.{path_parent}

-- A call of a file: it wrote bytes at a place, cut the file to a length, or settled its data or all of it.
pub data FileCall : Type 0 where
  Write : ℕ → List ℕ → FileCall
  CutTo : ℕ → FileCall
  SettleData : FileCall
  SettleAll : FileCall

-- A call by paths, with what it gave: it made a directory, opened what is there to settle it, opened or made a file,
-- found nothing there, removed or renamed a file, or listed the names in a directory.
pub data PathCall (F : Type 0) : Type 0 where
  MadeDirectory : List ℕ → PathCall F
  OpenedToSettle : List ℕ → F → PathCall F
  Opened : List ℕ → F → PathCall F
  Missed : List ℕ → PathCall F
  Made : List ℕ → F → PathCall F
  Removed : List ℕ → PathCall F
  Renamed : List ℕ → List ℕ → PathCall F
  Listed : List ℕ → List (List ℕ) → PathCall F

-- What may change something: a call of an open file, a directory or a file to be made, a file to be removed, or renamed.
pub data Act (F : Type 0) : Type 0 where
  CallFile : F → FileCall → Act F
  MakeDirectory : List ℕ → Act F
  MakeFile : List ℕ → Act F
  RemoveFile : List ℕ → Act F
  RenameFile : List ℕ → List ℕ → Act F

-- One such act led from here to there, or none did.
abbrev pub ActsOnce : {R F : Type 0} → (R → R → Act F → Type 0) → (Act F → Type 0) → R → R → Type 0
ActsOnce {F = F} one_act May old new = (new ≡ old) ⊎ ((act : Act F) × May act × one_act old new act)

-- So many such acts, one behind another, led from here to there.
abbrev pub ActsInTurn : {R F : Type 0} → (R → R → Act F → Type 0) → (Act F → Type 0) → ℕ → R → R → Type 0
ActsInTurn one_act May zero old new = new ≡ old
ActsInTurn {R} {F} one_act May (suc count) old new =
    (act : Act F) × (next : R) × May act × one_act old next act × ActsInTurn one_act May count next new

-- Such acts alone led from here to there.
abbrev pub ActsOnly : {R F : Type 0} → (R → R → Act F → Type 0) → (Act F → Type 0) → R → R → Type 0
ActsOnly one_act May old new = (count : ℕ) × ActsInTurn one_act May count old new

-- The act settles an open file, or a directory.
abbrev pub IsSettling : {F : Type 0} → Act F → Type 0
IsSettling (CallFile file SettleData) = ⊤
IsSettling (CallFile file SettleAll) = ⊤
IsSettling (CallFile file (Write at piece)) = ⊥
IsSettling (CallFile file (CutTo to)) = ⊥
IsSettling (MakeDirectory path) = ⊥
IsSettling (MakeFile path) = ⊥
IsSettling (RemoveFile path) = ⊥
IsSettling (RenameFile from to) = ⊥

-- Something that was to be settled wasn't.
abbrev pub SettlingFailed : {F : Type 0} → (Act F → Type 0) → Type 0
SettlingFailed {F} failed = (act : Act F) × IsSettling act × failed act

-- The act settles something, or makes the directory at that path.
abbrev pub IsOpening : {F : Type 0} → List ℕ → Act F → Type 0
IsOpening path act = IsSettling act ⊎ (act ≡ MakeDirectory path)

-- The path of a file in a directory.
abbrev pub path_in : List ℕ → List ℕ → List ℕ
path_in directory name = directory ++ codes "/" ++ name

-- The path, or where it is empty the directory that the process is in.
abbrev pub or_here : List ℕ → List ℕ
or_here [] = codes "."
or_here (byte ∷ rest) = byte ∷ rest

-- The path of the directory that a path's own name stands in.
abbrev pub directory_above : List ℕ → List ℕ
directory_above path = or_here (unwrap_or (path_parent path) [])
