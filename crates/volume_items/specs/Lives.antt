-- The needles of a volume's items that nothing behind them replaces or removes.
use Rattle.std.specs.Prelude.{ℕ, ◌==◌, Bool, true, false, not, if◌then◌else◌, List, [], ◌∷◌}
use Rattle.needle.specs.declared.item.Item.{Item}
use Rattle.needle.specs.declared.item.Item.TheVariants.{Live, Gone}
use Rattle.needle.specs.declared.item.ReadItem.{ReadItem}
use Rattle.needle.specs.Item.{key_of}

-- One of the items tells of the key.
abbrev pub is_told_in : List ReadItem → ℕ → Bool
is_told_in [] key = false
is_told_in (read ∷ more) key = if key_of read.item == key then true else is_told_in more key

-- An item lives ahead of others: a needle of whose key none of them tells. A deletion never does.
abbrev pub lives_ahead_of : Item → List ReadItem → Bool
lives_ahead_of (Live needle) more = not (is_told_in more needle.key)
lives_ahead_of (Gone cookie key) more = false

-- The items that live, in their order.
abbrev pub live_of : List ReadItem → List ReadItem
live_of [] = []
live_of (read ∷ more) = if lives_ahead_of read.item more then read ∷ live_of more else live_of more
