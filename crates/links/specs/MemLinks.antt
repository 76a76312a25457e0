-- A link in memory: what it holds.
use Rattle.std.specs.Prelude.{ℕ, List, [], Some, None, Option, ◌-◌, ◌^◌}
use Rattle.weed_base.specs.Calls.{CallState, uncalled}
use Rattle.weed_base.specs.MemForms.{SinkState}
use Rattle.links.specs.Lines.{Line}

-- The bytes left to read, what each open to come gives, the addresses opened, the sink that it writes to, and its
-- reads and opens.
pub record LinkState : Type 0 where
  pub left : List ℕ
  pub coming : List (List ℕ)
  pub opened : List (List ℕ)
  pub sink : SinkState
  pub reads : CallState
  pub opens : CallState

-- Where it leads.
abbrev pub line_of : LinkState → Line
line_of link = record { opened = Some link.opened; coming = Some link.coming; faults = link.opens.faults }

-- What a read leaves.
abbrev pub beside_reads : LinkState → LinkState
beside_reads link = record link { left = []; reads = uncalled [] }

-- What a write leaves.
abbrev pub beside_writes : LinkState → LinkState
beside_writes link = record link { sink = record { written = []; most = 0; calls = uncalled [] } }

-- The text that is read now: nothing before the first open.
abbrev pub text_of : Option (List ℕ) → List ℕ
text_of None = []
text_of (Some text) = text

-- Before the first call: these texts are to come, and the calls with these numbers fail.
abbrev pub link_of : List (List ℕ) → List ℕ → List ℕ → List ℕ → LinkState
link_of coming failing_reads failing_writes failing_opens =
    record { left = []; coming = coming; opened = []; sink = record { written = []; most = 2 ^ 64 - 1; calls = uncalled failing_writes }; reads = uncalled failing_reads; opens = uncalled failing_opens }
