-- The files of a log: its segments, which of them count, and the payloads that they stand for.
use Rattle.std.specs.Prelude.{◌≡◌, ◌≢◌, ℕ, ◌+◌, ◌/◌, ◌%◌, ◌≤◌, ◌⊎◌, ⊤, Bool, IsTrue, List, [], ◌∷◌, ◌++◌, length, take, drop, All, Option, codes}
use Rattle.std.specs.Int.{w64, from_be_bytes}
use Rattle.std.specs.FinMap.{get}
use Rattle.std.specs.Option.{option_map}
use Rattle.weed_base.specs.Files.{Files, content, written, IsThere}
use Rattle.meta_log.specs.Segment.{IsSegment, IsBroken, framed}
use Rattle.meta_log.specs.declared.stem.Stem.{Stem}
use Rattle.meta_log.specs.declared.stem.Stem.TheVariants.{Log, Marks}

-- What the names of the files begin with.
abbrev pub stem_text : Stem → List ℕ
stem_text Log = codes "log"
stem_text Marks = codes "marks"

-- The last decimal digit of a number.
abbrev pub digit : ℕ → ℕ
digit number = 48 + number % 10

-- The last eight decimal digits of a number.
abbrev pub eight_digits : ℕ → List ℕ
eight_digits number =
    digit (number / 10000000) ∷ digit (number / 1000000) ∷ digit (number / 100000) ∷ digit (number / 10000)
    ∷ digit (number / 1000) ∷ digit (number / 100) ∷ digit (number / 10) ∷ digit number ∷ []

-- The file of a segment, as `log.00000001`.
abbrev pub segment_name : Stem → ℕ → List ℕ
segment_name stem number = stem_text stem ++ (46 ∷ eight_digits number)

-- The file beside it by which it counts, as `log.00000001.on`.
abbrev pub on_name : Stem → ℕ → List ℕ
on_name stem number = segment_name stem number ++ codes ".on"

-- That segment counts.
abbrev pub Counts : Stem → ℕ → Files → Type 0
Counts stem number files = IsThere (on_name stem number) files

-- No segment from that number on counts.
abbrev pub NoneFrom : Stem → ℕ → Files → Type 0
NoneFrom stem first files = (number : ℕ) → first ≤ number → number ≤ 99999999 → ¬ Counts stem number files

-- Some segment from that number on counts.
abbrev pub SomeFrom : Stem → ℕ → Files → Type 0
SomeFrom stem first files = (number : ℕ) × (first ≤ number) × (number ≤ 99999999) × Counts stem number files

-- A payload of `marks`: done and intent, 8 bytes each, highest first, of which done isn't past intent.
pub record IsMarks (payload : List ℕ) : Type 0 where
  pub whole : length payload ≡ 16
  pub in_order : from_be_bytes w64 (take 8 payload) ≤ from_be_bytes w64 (drop 8 payload)

-- A payload that the files of a stem may hold: any, or marks.
abbrev pub Suits : Stem → List ℕ → Type 0
Suits Log payload = ⊤
Suits Marks payload = IsMarks payload

-- All of the payloads suit the stem.
abbrev pub IsAllowed : Stem → List (List ℕ) → Type 0
IsAllowed stem payloads = All (Suits stem) payloads

-- Of the segments the first alone counts, and its file holds these payloads, which are allowed.
pub record HasSegment (Allowed : List (List ℕ) → Type 0) (stem : Stem) (files : Files) (payloads : List (List ℕ)) : Type 0 where
  pub counts : Counts stem 1 files
  pub alone : NoneFrom stem 2 files
  pub segment : IsSegment (content files (segment_name stem 1)) payloads
  pub allowed : Allowed payloads

-- The files hold this list: none of the segments counts, or the first alone does.
abbrev pub HasText : (List (List ℕ) → Type 0) → Stem → Files → List (List ℕ) → Type 0
HasText Allowed stem files payloads =
    (NoneFrom stem 1 files × (payloads ≡ [])) ⊎ HasSegment Allowed stem files payloads

-- The files are a log text, for this list.
abbrev pub IsLogText : Stem → Files → List (List ℕ) → Type 0
IsLogText stem files payloads = HasText (IsAllowed stem) stem files payloads

-- The files hold no allowed list, and this file and place are the first to blame: the first segment that
-- doesn't count below one that does; of several that count the second, which isn't read yet; and else the
-- place in the first where it breaks.
abbrev pub HasDamage : (List (List ℕ) → Type 0) → Stem → Files → List ℕ → ℕ → Type 0
HasDamage Allowed stem files name at =
    (SomeFrom stem 2 files × (¬ Counts stem 1 files) × (name ≡ segment_name stem 1) × (at ≡ 0))
    ⊎ (SomeFrom stem 2 files × Counts stem 1 files × (name ≡ segment_name stem 2) × (at ≡ 0))
    ⊎ (NoneFrom stem 2 files × Counts stem 1 files × (name ≡ segment_name stem 1)
    × IsBroken Allowed (content files (segment_name stem 1)) at)

-- The files aren't a log text, with the first file and place to blame.
abbrev pub IsDamage : Stem → Files → List ℕ → ℕ → Type 0
IsDamage stem files name at = HasDamage (IsAllowed stem) stem files name at

-- The file is the first segment, or the second: no other is read or named.
abbrev pub IsBlamable : Stem → List ℕ → Type 0
IsBlamable stem file = (file ≡ segment_name stem 1) ⊎ (file ≡ segment_name stem 2)

-- A disk that has names of the stem `marks.` alone may keep marks alone.
abbrev pub MayKeep : Bool → Stem → Type 0
MayKeep marks_only stem = IsTrue marks_only → stem ≡ Marks

-- Every file of another name is as it was.
abbrev pub ChangesOnly : List ℕ → Files → Files → Type 0
ChangesOnly name old new = (other : List ℕ) → other ≢ name → get new other ≡ get old other

-- A text was appended behind a gate at that place of the file: its length, it, and a closed gate; and then its own
-- gate was opened. Not a byte more was written.
abbrev pub AppendsAt : List ℕ → ℕ → List ℕ → Option Files → Option Files → Type 0
AppendsAt name gate text old new =
    new ≡ option_map (written name gate (1 ∷ [])) (option_map (written name (gate + 1) (framed text ++ 0 ∷ [])) old)
