-- Refusals in their order.
use Rattle.std.specs.Prelude.{◌≡◌, ℕ, ◌==◌, Bool, true, false, List, [], ◌∷◌, length, Option, None, Some, Result, Ok, Err}
use Rattle.name_core.specs.declared.command.Refusal.{Refusal}
use Rattle.name_core.specs.declared.command.PlanFault.{PlanFault}
use Rattle.name_core.specs.declared.command.PlanFault.TheVariants as faults

-- A refusal exactly where a test holds.
abbrev pub refuse_if : Bool → Refusal → Option Refusal
refuse_if true refusal = Some refusal
refuse_if false refusal = None

-- The outcome, unless one of the refusals stands: then the first of these.
abbrev pub unless : {T : Type 0} → List (Option Refusal) → T → Result T Refusal
unless [] outcome = Ok outcome
unless (None ∷ refusals) outcome = unless refusals outcome
unless (Some refusal ∷ refusals) outcome = Err refusal

-- What comes of an outcome, unless it is refused.
abbrev pub and_then : {T U : Type 0} → Result T Refusal → (T → Result U Refusal) → Result U Refusal
and_then (Ok outcome) later = later outcome
and_then (Err refusal) later = Err refusal

-- An answer is that outcome, unless the outside or memory failed.
abbrev pub Comes : {T : Type 0} → Result T Refusal → Result T PlanFault → Type 0
Comes wanted (Ok outcome) = wanted ≡ Ok outcome
Comes wanted (Err (faults.Refused refusal)) = wanted ≡ Err refusal
Comes wanted (Err faults.KeeperFault) = Unit {0}
Comes wanted (Err faults.Memory) = Unit {0}

-- The path is the root.
abbrev pub is_root : List (List ℕ) → Bool
is_root path = length path == 0
