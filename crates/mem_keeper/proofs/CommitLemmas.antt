-- What is left of a commit after one change.
use Rattle.std.proofs.Common.{◌≡◌, ◌≢◌, ◌+◌, List, [], ◌∷◌, subst, arith}
use Rattle.std.proofs.lemmas.List.Elements.{All-tail}
use Rattle.name_core.specs.declared.change.Change.{Change}
use Rattle.name_core.specs.declared.change.Change.TheVariants.{Put, Drop}
use Rattle.name_core.specs.Namespace.{path_of}
use Rattle.name_core.specs.RecordText.{HasValidEntry}
use Rattle.filer_keeper.specs.Commit.{MayBeMade, put_count}

pub put_count_more : (change : Change) (rest : List Change) → put_count (change ∷ rest) ≡ put_count (change ∷ []) + put_count rest
put_count_more (Put path entry) rest = omega arith
put_count_more (Drop path) rest = omega arith

pub may_later : (change : Change) (rest all : List Change) → all ≡ change ∷ rest → MayBeMade all → MayBeMade rest
may_later change rest all is may =
    let both = subst MayBeMade is may in record {
      rootless = All-tail (λ change. path_of change ≢ []) change rest both.rootless;
      valid = All-tail HasValidEntry change rest both.valid;
    }
