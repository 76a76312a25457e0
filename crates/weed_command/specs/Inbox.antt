-- The bytes that were read ahead of their use, and what stands at the front of all that is left.
use Rattle.std.specs.Prelude.{◌≡◌, ◌≢◌, ℕ, ◌<◌, List, [], ◌++◌, length, take, drop, Option, IfSome}
use Rattle.std.specs.Option.{option_map}
use Rattle.weed_base.specs.Told.{Consumes, IsAtEnd}
use Rattle.weed_command.specs.HeadEnd.{HasNoEndBelow}
use Rattle.weed_command.specs.Request.{IsRequest, BeginsWithRequest}
use Rattle.weed_command.specs.declared.inbox.Head.{Head}
use Rattle.weed_command.specs.declared.inbox.Head.TheVariants.{End, Request, NotYet}

-- The target of the last request, and the bytes that are still to be used.
pub record InboxState : Type 0 where
  pub target : List ℕ
  pub pending : List ℕ

-- All bytes left: those read ahead, and those of the source, where they are told.
abbrev pub left_of : List ℕ → Option (List ℕ) → Option (List ℕ)
left_of pending left = option_map (λ bytes. pending ++ bytes) left

-- Some bytes, of which no front is a request.
abbrev pub IsNoRequest : List ℕ → Type 0
IsNoRequest bytes = (bytes ≢ []) × (¬ BeginsWithRequest bytes)

-- It takes more to tell what these bytes begin: no head of them is whole, and one may still be.
pub record LacksHead (bytes : List ℕ) : Type 0 where
  pub none : HasNoEndBelow bytes (length bytes)
  pub short : length bytes < 16384

-- What stood at the front of the bytes left: nothing, a request, which was taken, or something else.
abbrev pub FindsHead : Head → Option (List ℕ) → Option (List ℕ) → List ℕ → Type 0
FindsHead End old new target = IsAtEnd old × (new ≡ old)
FindsHead Request old new target = (text : List ℕ) × IsRequest text target × Consumes old new text
FindsHead NotYet old new target = IfSome old IsNoRequest × (new ≡ old)

-- The same of so many first bytes of an inbox.
abbrev pub TakesHead : Head → InboxState → InboxState → ℕ → Type 0
TakesHead End old new count = ⊥
TakesHead Request old new count = IsRequest (take count old.pending) new.target × (new.pending ≡ drop count old.pending)
TakesHead NotYet old new count = ((target : List ℕ) → ¬ IsRequest (take count old.pending) target) × (new ≡ old)

-- Bytes of the source were added, none only at its end.
abbrev pub Adds : List ℕ → List ℕ → Option (List ℕ) → Option (List ℕ) → ℕ → Type 0
Adds pending new left new_left count =
    (bytes : List ℕ) × (length bytes ≡ count) × (new ≡ pending ++ bytes) × Consumes left new_left bytes × (count ≡ 0 → IsAtEnd new_left)
