-- Paths: lists of parts, and the one text of each.
use Rattle.std.specs.Prelude.{◌≡◌, ◌≢◌, ℕ, ◌≤◌, ◌<◌, List, [], ◌∷◌, ◌++◌, length, take, drop, All, Option, None, Some, codes, bytes_eq, if◌then◌else◌, ◌==◌}
use Rattle.std.specs.List.{slice_split}
use Rattle.std.specs.Str.{IsUtf8}

-- A part: 1 to 255 bytes without a slash, and neither `.` nor `..`
pub record IsPart (part : List ℕ) : Type 0 where
  pub filled : 0 < length part
  pub short : length part ≤ 255
  pub plain : All (λ b. b ≢ 47) part
  pub no_dot : part ≢ codes "."
  pub no_dots : part ≢ codes ".."

-- Each part behind a slash
abbrev pub spelled : List (List ℕ) → List ℕ
spelled [] = []
spelled (part ∷ parts) = (47 ∷ part) ++ spelled parts

-- The text of a path: a slash for the root, and else each part behind a slash
abbrev pub text_of : List (List ℕ) → List ℕ
text_of [] = 47 ∷ []
text_of (part ∷ parts) = spelled (part ∷ parts)

-- What is a path: at most 64 parts, and a text of at most 4,096 bytes of UTF-8 without a zero byte
pub record IsPath (parts : List (List ℕ)) : Type 0 where
  pub each : All IsPart parts
  pub few : length parts ≤ 64
  pub short : length (text_of parts) ≤ 4096
  pub no_zero : All (λ b. b ≢ 0) (text_of parts)
  pub utf8 : IsUtf8 (text_of parts)

-- What stands behind each slash of a text, up to the next one
abbrev pub parts_of : List ℕ → List (List ℕ)
parts_of text = drop 1 (slice_split (λ b. b == 47) text)

-- The parts of a text that is read; a lone slash has none.
abbrev pub parts_in : List ℕ → List (List ℕ)
parts_in text = if bytes_eq text (codes "/") then [] else parts_of text

-- The path without its last part; the root has none.
abbrev pub parent_of : List (List ℕ) → Option (List (List ℕ))
parent_of [] = None
parent_of (part ∷ parts) = Some (take (length parts) (part ∷ parts))

-- A path is below another that is a proper prefix of it.
abbrev pub IsBelow : List (List ℕ) → List (List ℕ) → Type 0
IsBelow path top = (part : List ℕ) × (rest : List (List ℕ)) × (path ≡ top ++ part ∷ rest)
