use Rattle.needle.specs.declared.version.Version.TheVariants.{V2, V3}
use Rattle.needle_index.proofs.Sums.{none_kept}
use Rattle.needle_index.proofs.index_map.IndexMap.new.Goals as goal

pub invariant_of-result : goal.invariant_of-result
invariant_of-result c = (none_kept V2 _ c.new.ensures, none_kept V3 _ c.new.ensures)
