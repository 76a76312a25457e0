-- The mark that the first bytes show.
use Rattle.std.specs.Prelude.{◌≡◌, ◌≢◌, ℕ, ◌+◌, ◌<◌, ◌≤◌, Bool, true, false, List, [], ◌++◌, length, take, codes, Option, None, Some, Result, Ok, Err, if◌then◌else◌, nat_eq}
use Rattle.std.specs.List.{ends_with}
use Rattle.http_bodies.specs.declared.fault.BodyFault.{BodyFault}
use Rattle.http_bodies.specs.declared.fault.BodyFault.TheVariants.{ReadFault}
use Rattle.http_bodies.specs.declared.stage.Stage.{Stage}
use Rattle.http_bodies.specs.declared.mark.Mark.{Mark}
use Rattle.http_bodies.specs.Stage.{IsSound, turns}
use Rattle.http_bodies.specs.Body.{Leads, IsCut, StandsFor, Refused}

-- How many bytes a line has at least that begins with these, none of its CR LF but a CR at their end among them.
abbrev pub least_line : List ℕ → ℕ
least_line bytes = if ends_with nat_eq bytes (codes "\r") then length bytes + 1 else length bytes + 2

-- The mark in front of the bytes, or that more bytes tell, or with what the body is refused, whatever follows.
abbrev pub FindsMark : Stage → List ℕ → Result (Option Mark) BodyFault → Type 0
FindsMark stage bytes (Ok (Some mark)) =
    (mark.len ≤ length bytes) × IsSound mark.next × Leads stage (take mark.len bytes) mark.next × (turns mark.next < turns stage)
FindsMark stage bytes (Ok None) = IsCut stage bytes × (length bytes < 32768)
FindsMark stage bytes (Err fault) = (fault ≢ ReadFault) × ((more : List ℕ) → StandsFor stage (bytes ++ more) [] (Refused fault))

-- The same of an inbox, of which the mark is taken.
abbrev pub TakesMark : Result Bool BodyFault → Stage → Stage → List ℕ → List ℕ → Type 0
TakesMark (Ok true) stage next old new = (turns next < turns stage) × ((text : List ℕ) × Leads stage text next × (old ≡ text ++ new))
TakesMark (Ok false) stage next old new = IsCut stage old × (length old < 32768) × (next ≡ stage) × (new ≡ old)
TakesMark (Err fault) stage next old new =
    (fault ≢ ReadFault) × (next ≡ stage) × (new ≡ old) × ((more : List ℕ) → StandsFor stage (old ++ more) [] (Refused fault))
