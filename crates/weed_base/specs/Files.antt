-- What a disk reads: named files, and what each call makes of them.
use Rattle.std.specs.Prelude.{◌≡◌, ℕ, ◌+◌, ◌-◌, ◌≤◌, ◌<◌, min, max, List, [], ◌++◌, length, take, drop, ⊤, None, Some, Option, IsSome, IsSomeAnd, IsTrue, MatchResult, Result, Bool, true, nat_eq, codes, ◌⊎◌, unwrap_or}
use Rattle.std.specs.List.{starts_with}
use Rattle.std.specs.Ordering.{nat_cmp}
use Rattle.std.specs.Cmp.Lexicographic.{slice_cmp}
use Rattle.std.specs.FinMap.{FinMap, get, insert, remove}
use Rattle.std.specs.Option.{option_map}

-- From names to contents, in the byte order of the names.
abbrev pub Files : Type 0
Files = FinMap (slice_cmp nat_cmp) (List ℕ)

-- The bytes of a file, none where it isn't there.
abbrev pub content : Files → List ℕ → List ℕ
content files name = unwrap_or (get files name) []

-- Bytes with a piece written over them from a place on.
abbrev pub spliced : List ℕ → ℕ → List ℕ → List ℕ
spliced bytes at piece = take at bytes ++ piece ++ drop (at + length piece) bytes

-- After a write that answered Ok.
abbrev pub written : List ℕ → ℕ → List ℕ → Files → Files
written name at piece files = insert files name (spliced (content files name) at piece)

-- After a cut.
abbrev pub cut_to : List ℕ → ℕ → Files → Files
cut_to name to files = insert files name (take to (content files name))

-- After a file was made: it is there and empty.
abbrev pub made : List ℕ → Files → Files
made name files = insert files name []

-- After a file was removed.
abbrev pub removed : List ℕ → Files → Files
removed name files = remove files name

-- After a rename: the file takes the place of what had the new name.
abbrev pub renamed : List ℕ → List ℕ → Files → Files
renamed old new files = insert (remove files old) new (content files old)

-- The file is there, and the place is at most its length.
abbrev pub IsWithin : List ℕ → ℕ → Files → Type 0
IsWithin name at files = IsSomeAnd (get files name) (λ bytes. at ≤ length bytes)

-- The file is there.
abbrev pub IsThere : List ℕ → Files → Type 0
IsThere name files = IsSome (get files name)

-- The name may be given on a disk that has only names of the stem `marks.`, or any.
abbrev pub MayBeNamed : Bool → List ℕ → Type 0
MayBeNamed marks_only name = IsTrue marks_only → starts_with nat_eq name (codes "marks.") ≡ true

-- A read from a place gave so many bytes at the front of the room: all that are there and fit.
abbrev pub ReadsAt : List ℕ → ℕ → ℕ → List ℕ → Type 0
ReadsAt bytes at count room =
    (count ≡ min (length room) (length bytes - at)) × (take count room ≡ take count (drop at bytes))

-- The same of a read that may give fewer: it gave none only at the end, or for no room.
abbrev pub ReadsSome : List ℕ → ℕ → ℕ → List ℕ → Type 0
ReadsSome bytes at count room =
    (count ≤ length bytes - at) × (take count room ≡ take count (drop at bytes)) × (count ≡ 0 → 0 < length room → length bytes ≤ at)

-- Bytes that a failed write of so many bytes at a place may leave: anything in its range and past the old
-- end, and else the same.
pub record IsTorn (at count : ℕ) (old new : List ℕ) : Type 0 where
  pub front : take at new ≡ take at old
  pub back : drop (at + count) new ≡ drop (at + count) old
  pub no_shorter : length old ≤ length new
  pub no_longer : length new ≤ max (length old) (at + count)

-- What a failed write may leave: that file torn, and the others as they were.
abbrev pub MayWrite : List ℕ → ℕ → List ℕ → Files → Files → Type 0
MayWrite name at piece old new =
    (bytes : List ℕ) × IsTorn at (length piece) (content old name) bytes × (new ≡ insert old name bytes)

-- Both are told and so related, or neither is told.
abbrev pub BothTold : {A : Type 0} → (A → A → Type 0) → Option A → Option A → Type 0
BothTold R None None = ⊤
BothTold R (Some old) (Some new) = R old new
BothTold R None (Some new) = ⊥
BothTold R (Some old) None = ⊥

-- A call that changes the files at once: done where it answered Ok, and else as before or as after.
abbrev pub Changes : {T E : Type 0} → (Files → Files) → Option Files → Option Files → Result T E → Type 0
Changes change old new result =
    MatchResult result (λ _. new ≡ option_map change old) (λ _. (new ≡ old) ⊎ (new ≡ option_map change old))
