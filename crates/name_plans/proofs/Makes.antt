-- What may stand in a record: new directories, and further changes.
use Rattle.std.proofs.Common.{◌≡◌, ◌≢◌, ℕ, List, [], ◌∷◌, ◌++◌, refl, sym, subst, arith}
use Rattle.std.proofs.lemmas.List.Elements.{All-nil, All-cons, All-append, All-weaker}
use Rattle.entry.specs.declared.entry.Entry.{Entry}
use Rattle.entry.specs.Entry.{IsValid}
use Rattle.name_core.specs.declared.change.Change.{Change}
use Rattle.name_core.specs.declared.change.Change.TheVariants.{Put, Drop}
use Rattle.name_core.specs.Namespace.{path_of}
use Rattle.name_core.specs.Plan.{new_directory, IsNewDirectory, MakesDirectories}
use Rattle.name_core.specs.RecordText.{HasValidEntry}
use Rattle.name_plans.specs.Makeable.{AreMakeable}

pub new_directory_valid : (time : ℕ) → IsValid (new_directory time)
new_directory_valid time = record { bare = λ _. refl; chunks = λ k d below. absurd (omega arith); few = omega arith; file_size = omega arith; mime = omega arith }

new_is_valid : (time : ℕ) (change : Change) → IsNewDirectory time change → HasValidEntry change
new_is_valid time (Put path entry) is = subst IsValid (sym is.2) (new_directory_valid time)
new_is_valid time (Drop path) is = absurd is

new_is_rootless : (time : ℕ) (change : Change) → IsNewDirectory time change → path_of change ≢ []
new_is_rootless time (Put path entry) is = is.1
new_is_rootless time (Drop path) is = absurd is

pub directories_makeable : (time : ℕ) (changes : List Change) → MakesDirectories time changes → AreMakeable changes
directories_makeable time changes makes = record {
  rootless = All-weaker (IsNewDirectory time) (λ change. path_of change ≢ []) (new_is_rootless time) changes makes.each;
  valid = All-weaker (IsNewDirectory time) HasValidEntry (new_is_valid time) changes makes.each;
}

pub makeable-append : (xs ys : List Change) → AreMakeable xs → AreMakeable ys → AreMakeable (xs ++ ys)
makeable-append xs ys front back = record {
  rootless = All-append (λ change. path_of change ≢ []) xs ys front.rootless back.rootless;
  valid = All-append HasValidEntry xs ys front.valid back.valid;
}

pub one_makeable : (change : Change) → path_of change ≢ [] → HasValidEntry change → AreMakeable (change ∷ [])
one_makeable change rootless valid = record {
  rootless = All-cons (λ c. path_of c ≢ []) change [] rootless (All-nil (λ c. path_of c ≢ []));
  valid = All-cons HasValidEntry change [] valid (All-nil HasValidEntry);
}

-- New directories, and a valid entry put behind them
pub put_makeable : (time : ℕ) (parents made : List Change) (path : List (List ℕ)) (entry : Entry) → MakesDirectories time parents
    → path ≢ [] → IsValid entry → made ≡ parents ++ Put path entry ∷ [] → AreMakeable made
put_makeable time parents made path entry makes rootless valid is =
    subst AreMakeable (sym is) (makeable-append parents (Put path entry ∷ []) (directories_makeable time parents makes) (one_makeable (Put path entry) rootless valid))

-- New directories, a drop, a valid entry put, and further changes
pub move_makeable : (time : ℕ) (parents moved made : List Change) (from to : List (List ℕ)) (entry : Entry) → MakesDirectories time parents
    → from ≢ [] → to ≢ [] → IsValid entry → AreMakeable moved → made ≡ parents ++ Drop from ∷ Put to entry ∷ moved → AreMakeable made
move_makeable time parents moved made from to entry makes from_filled to_filled valid had is =
    subst AreMakeable (sym is) (makeable-append parents (Drop from ∷ Put to entry ∷ moved) (directories_makeable time parents makes)
    (makeable-append (Drop from ∷ []) (Put to entry ∷ moved) (one_makeable (Drop from) from_filled tt) (makeable-append (Put to entry ∷ []) moved (one_makeable (Put to entry) to_filled valid) had)))

pub none_makeable : AreMakeable []
none_makeable = record { rootless = All-nil (λ change. path_of change ≢ []); valid = All-nil HasValidEntry }
