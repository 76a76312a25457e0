-- The last texts of a log, as many as an outlet is handed.
use Rattle.std.specs.Prelude.{◌≡◌, ◌≤◌, ◌<◌, ◌⊎◌, ◌-◌, ℕ, List, length, drop, sum_by}

-- So many of the texts stand ahead of the longest end of them that has at most 67,108,864 bytes.
pub record StandsAhead (texts : List (List ℕ)) (count : ℕ) : Type 0 where
  pub within : count ≤ length texts
  pub few : sum_by length (drop count texts) ≤ 67108864
  pub longest : (count ≡ 0) ⊎ (67108864 < sum_by length (drop (count - 1) texts))
