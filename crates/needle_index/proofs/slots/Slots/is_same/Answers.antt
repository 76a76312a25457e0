use Rattle.std.specs.Cmp.{nat_eq_equiv}
use Rattle.std.proofs.lemmas.Map.Lookups.{hash_map_eq-Decides}
use Rattle.needle_index.proofs.Maps.{alike, alike_back, spots_decided}
use Rattle.needle_index.proofs.slots.Slots.is_same.Goals as goal

pub returns : goal.returns
returns c =
    let decides = hash_map_eq-Decides nat_eq_equiv spots_decided c.self.inside.map c.other.inside.map c.eq.result c.eq.ensures in
    rw (← c.self.view_is, ← c.other.view_is) (
      λ same. alike c.self.inside.map.entries c.other.inside.map.entries (decides.0 same),
      λ same. decides.1 (alike_back c.self.inside.map.entries c.other.inside.map.entries same),
    )
