use Rattle.std.proofs.Common.{ℕ, List, ◌++◌, take}
use Rattle.records.specs.Lengths.{Measures}
use Rattle.records.specs.RecordText.{events_text}
use Rattle.records.proofs.counting.count_events.Given as goal

-- The changes so far are counted
abbrev pub invariant-loop-change : goal.invariant-loop-change
invariant-loop-change l = (front : List ℕ) → Measures l.initial.text.size front → Measures l.text.size (front ++ events_text (take l.change-index l.changes))
