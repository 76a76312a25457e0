-- What reading all of a body comes to.
use Rattle.std.specs.Prelude.{◌≡◌, ℕ, ◌<◌, Bool, true, false, List, ◌++◌, length, Option, Result, Ok, Err, ⊤}
use Rattle.http_bodies.specs.declared.fault.BodyFault.{BodyFault}
use Rattle.http_bodies.specs.declared.fault.BodyFault.TheVariants.{ReadFault, Cut, BadChunk, TooLong, BadForm, Memory}
use Rattle.http_bodies.specs.declared.stage.Stage.{Stage}
use Rattle.http_bodies.specs.declared.stage.Stage.TheVariants.{Length}
use Rattle.http_bodies.specs.Body.{Moves, IsRefused}

-- The body is refused so where it stands, or memory was wanting.
abbrev pub Fails : BodyFault → Stage → Option (List ℕ) → Type 0
Fails ReadFault stage left = ⊤
Fails Cut stage left = IsRefused Cut stage left
Fails BadChunk stage left = IsRefused BadChunk stage left
Fails TooLong stage left = IsRefused TooLong stage left
Fails BadForm stage left = ⊥
Fails Memory stage left = ⊤

-- What was held has grown by next data, with which the body moved on.
pub record Grows (stage next : Stage) (left new_left : Option (List ℕ)) (held now : List ℕ) : Type 0 where
  pub payload : List ℕ
  pub moves : Moves stage next left new_left payload
  pub grown : now ≡ held ++ payload

-- A piece was read, the body is at its end, or it fails behind what was read.
abbrev pub ReadsPiece : Result Bool BodyFault → Stage → Stage → Option (List ℕ) → Option (List ℕ) → List ℕ → List ℕ → Type 0
ReadsPiece (Ok true) stage next left new_left held now = Grows stage next left new_left held now × (length held < length now)
ReadsPiece (Ok false) stage next left new_left held now = Grows stage next left new_left held now × (next ≡ Length 0)
ReadsPiece (Err fault) stage next left new_left held now = Grows stage next left new_left held now × Fails fault next new_left

-- All was read up to the body's end, or up to where it fails.
abbrev pub ReadsAll : Result Unit BodyFault → Stage → Stage → Option (List ℕ) → Option (List ℕ) → List ℕ → List ℕ → Type 0
ReadsAll (Ok _) stage next left new_left held now = Grows stage next left new_left held now × (next ≡ Length 0)
ReadsAll (Err fault) stage next left new_left held now = Grows stage next left new_left held now × Fails fault next new_left
