-- Places in a log, and what is read from one on.
use Rattle.std.specs.Prelude.{◌≡◌, ℕ, ◌+◌, ◌≤◌, List, ◌++◌, length, take, min, Option, IfSome}
use Rattle.weed_base.specs.Files.{Files}
use Rattle.meta_log.specs.Segment.{items}
use Rattle.meta_log.specs.Held.{HoldsPayloads}
use Rattle.meta_log.specs.Left.{StandFrom}
use Rattle.meta_log.specs.declared.gate_log.GateLog.{GateLog}
use Rattle.meta_log.specs.declared.place.Place.{Place}

-- The place right behind these payloads.
abbrev pub place_behind : List (List ℕ) → Place
place_behind payloads = record { segment = 1; at = length (items payloads) }

-- The disk, where told, holds the log, and the place lies behind some of its payloads.
abbrev pub HoldsPlace : Option Files → GateLog → Place → Type 0
HoldsPlace told log place =
    IfSome told (λ files. (before : List (List ℕ)) × (past : List (List ℕ)) × HoldsPayloads files log (before ++ past) × (place ≡ place_behind before))

-- From the place on come these payloads, at most so many, and this is the place behind them.
abbrev pub IsNext : Option Files → GateLog → Place → ℕ → List (List ℕ) → Place → Type 0
IsNext told log place room texts next =
    IfSome told (λ files. (before past : List (List ℕ)) → HoldsPayloads files log (before ++ past) → place ≡ place_behind before
    → (texts ≡ take room past) × (next ≡ place_behind (before ++ take room past)))

-- Where a reading from the place on begins: there, or at the end of a file that is shorter.
abbrev pub begins_at : List ℕ → Place → ℕ
begins_at bytes place = min place.at (length bytes)

-- From the place on these texts stand before the gate, at most so many, and the next place is right behind them.
pub record ReadsFrom (bytes : List ℕ) (gate : ℕ) (place : Place) (room : ℕ) (texts : List (List ℕ)) (next : Place) : Type 0 where
  pub stand : StandFrom bytes gate (begins_at bytes place) texts
  pub few : length texts ≤ room
  pub next_is : next ≡ record { segment = 1; at = begins_at bytes place + length (items texts) }
