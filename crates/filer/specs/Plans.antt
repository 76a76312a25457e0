-- The plan of a command, and the receipt of one that isn't refused.
use Rattle.std.specs.Prelude.{◌≡◌, ℕ, ◌+◌, Option, Some, None, Result, IfSome}
use Rattle.name_core.specs.Namespace.{Namespace}
use Rattle.name_core.specs.declared.change.Record.{Record}
use Rattle.name_core.specs.declared.command.Refusal.{Refusal}
use Rattle.name_plans.specs.declared.command.Command.{Command}
use Rattle.name_plans.specs.Planning.{plan_of}
use Rattle.meta_log.specs.declared.front.Front.{Front}
use Rattle.filer.specs.declared.receipt.Receipt.{Receipt}

-- What a plan comes to: a record, none where nothing changes, or a refusal.
abbrev pub Planned : Type 0
Planned = Result (Option Record) Refusal

-- The plan of a command at a clock, over a log whose last time is given, where the names are told.
abbrev pub IsPlan : Option Namespace → Command → ℕ → ℕ → Planned → Type 0
IsPlan told command clock last plan = IfSome told (λ names. plan ≡ plan_of names command clock last)

-- The receipt where nothing changes.
abbrev pub receipt_of_none : Front → Receipt
receipt_of_none front = record { time = None; count = front.count }

-- The receipt of a record behind a front.
abbrev pub receipt_of : Record → Front → Receipt
receipt_of made front = record { time = Some made.time; count = front.count + 1 }

-- The front with a record behind it.
abbrev pub front_behind : Record → Front → Front
front_behind made front = record { count = front.count + 1; time = made.time }
