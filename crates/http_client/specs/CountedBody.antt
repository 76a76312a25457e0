-- Bodies whose length is stated.
use Rattle.std.specs.Prelude.{◌≡◌, ℕ, ◌<◌, ◌≤◌, List, length, Option, IfSome, Result, Ok, Err, ⊤}
use Rattle.weed_base.specs.Told.{Consumes}
use Rattle.http_head.specs.declared.fault.HeadFault.{HeadFault}
use Rattle.http_head.specs.declared.fault.HeadFault.TheVariants.{ReadFault, Bad, HeadTooLong, BadMethod, BadCoding, TooLong, Memory}

-- A body of so many bytes is refused so, where at most the limit are taken: it is longer, or the bytes end inside it.
abbrev pub IsRefused : ℕ → ℕ → HeadFault → List ℕ → Type 0
IsRefused count limit ReadFault left = ⊤
IsRefused count limit Bad left = (count ≤ limit) × (length left < count)
IsRefused count limit HeadTooLong left = ⊥
IsRefused count limit BadMethod left = ⊥
IsRefused count limit BadCoding left = ⊥
IsRefused count limit TooLong left = limit < count
IsRefused count limit Memory left = ⊤

-- The body of so many bytes was taken, or is refused, and the bytes read are gone.
abbrev pub TakesCounted : ℕ → ℕ → Result (List ℕ) HeadFault → Option (List ℕ) → Option (List ℕ) → Type 0
TakesCounted count limit (Ok body) old new = (length body ≡ count) × (count ≤ limit) × Consumes old new body
TakesCounted count limit (Err fault) old new = IfSome old (IsRefused count limit fault) × ((gone : List ℕ) × Consumes old new gone)
