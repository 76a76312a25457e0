-- How many of a record's changes are puts.
use Rattle.std.proofs.Common.{◌≤◌, List, [], ◌∷◌, length, arith}
use Rattle.name_core.specs.declared.change.Change.{Change}
use Rattle.name_core.specs.declared.change.Change.TheVariants.{Put, Drop}
use Rattle.filer_keeper.specs.Commit.{put_count}

pub few_puts : (changes : List Change) → put_count changes ≤ length changes
few_puts [] = omega arith
few_puts (Put path entry ∷ more) = let few = few_puts more in omega (arith, few)
few_puts (Drop path ∷ more) = let few = few_puts more in omega (arith, few)
