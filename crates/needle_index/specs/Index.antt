-- A map from keys to the spots of needles.
use Rattle.std.specs.Prelude.{ℕ}
use Rattle.std.specs.FinMap.{FinMap, code}
use Rattle.std.specs.Ordering.{nat_cmp}
use Rattle.std.specs.Coded.{Coded, code_by, coded×, coded_ℕ}
use Rattle.std.specs.Prelude.{refl}
use Rattle.needle_index.specs.declared.spot.Spot.{Spot}

-- From keys to spots.
abbrev pub Spots : Type 0
Spots = FinMap nat_cmp Spot

-- The map, and how many puts it takes without memory.
pub record Index : Type 0 where
  pub spots : Spots
  pub spare : ℕ

-- A spot is stored as the pair of its fields.
abbrev pub spot_code : Coded Spot
spot_code = code_by (ℕ × ℕ) (coded× coded_ℕ coded_ℕ) (λ s. (s.offset, s.size)) (λ p. record { offset = p.0; size = p.1 }) (λ _. refl)

-- An index is stored as the pair of its fields.
abbrev pub index_code : Coded Index
index_code = code_by (Spots × ℕ) (coded× (code coded_ℕ spot_code) coded_ℕ) (λ i. (i.spots, i.spare)) (λ p. record { spots = p.0; spare = p.1 }) (λ _. refl)
