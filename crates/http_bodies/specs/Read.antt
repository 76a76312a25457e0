-- What reading a body does to what is left.
use Rattle.std.specs.Prelude.{◌≡◌, ◌⊎◌, ℕ, ◌<◌, ◌≤◌, false, List, [], length, take, Option, Result, Ok, Err}
use Rattle.weed_base.specs.Told.{Consumes, IsAtEnd}
use Rattle.http_bodies.specs.declared.fault.BodyFault.{BodyFault}
use Rattle.http_bodies.specs.declared.fault.BodyFault.TheVariants.{ReadFault, Cut}
use Rattle.http_bodies.specs.declared.stage.Stage.{Stage}
use Rattle.http_bodies.specs.Stage.{is_between, turns}
use Rattle.http_bodies.specs.Body.{Moves, IsRefused}

-- A mark was passed, or the body is refused where it stands.
abbrev pub PassesMark : Result Unit BodyFault → Stage → Stage → Option (List ℕ) → Option (List ℕ) → Type 0
PassesMark (Ok _) stage next left new_left = (turns next < turns stage) × Moves stage next left new_left []
PassesMark (Err fault) stage next left new_left = (next ≡ stage) × (new_left ≡ left) × IsRefused fault stage left

-- All marks were passed up to the next data or the end, or the body is refused where it then stands.
abbrev pub PassesMarks : Result Unit BodyFault → Stage → Stage → Option (List ℕ) → Option (List ℕ) → Type 0
PassesMarks (Ok _) stage next left new_left = (is_between next ≡ false) × Moves stage next left new_left []
PassesMarks (Err fault) stage next left new_left = Moves stage next left new_left [] × IsRefused fault next new_left

-- Of so many bytes that are wanted the next ones were taken, one at least. Where none is left they are cut.
abbrev pub TakesData : Result ℕ BodyFault → ℕ → Option (List ℕ) → Option (List ℕ) → List ℕ → Type 0
TakesData (Ok count) wanted left new_left room = (count ≤ length room) × (count ≤ wanted) × Consumes left new_left (take count room) × (count ≡ 0 → wanted ≡ 0)
TakesData (Err fault) wanted left new_left room = (new_left ≡ left) × ((fault ≡ ReadFault) ⊎ ((fault ≡ Cut) × (0 < wanted) × IsAtEnd left))
