-- What calls leave of a disk that is told or isn't.
use Rattle.std.proofs.Common.{◌≡◌, ◌⊎◌, inl, inr, sym, subst, ap, ◌∙◌, Option, Some, None}
use Rattle.std.specs.Prelude.{IfSome}
use Rattle.std.specs.Option.{option_map}
use Rattle.weed_base.specs.Files.{Files, BothTold}

-- a change that was done
pub told_done : (Q : Files → Type 0) (change : Files → Files) (old new : Option Files) → new ≡ option_map change old → ((files : Files) → Q (change files)) → IfSome new Q
told_done Q change None new is step = subst (λ o. IfSome o Q) (sym is) tt
told_done Q change (Some files) new is step = subst (λ o. IfSome o Q) (sym is) (step files)

-- one change after another
pub done_twice : (first second : Files → Files) (old mid new : Option Files) → mid ≡ option_map first old → new ≡ option_map second mid → new ≡ option_map (λ files. second (first files)) old
done_twice first second None mid new one two = two ∙ ap (option_map second) one
done_twice first second (Some files) mid new one two = two ∙ ap (option_map second) one

-- a relation of one change
pub both_done : (R : Files → Files → Type 0) (change : Files → Files) (old new : Option Files) → new ≡ option_map change old → ((files : Files) → R files (change files)) → BothTold R old new
both_done R change None new is step = subst (λ o. BothTold R None o) (sym is) tt
both_done R change (Some files) new is step = subst (λ o. BothTold R (Some files) o) (sym is) (step files)

both_same : (R : Files → Files → Type 0) (told : Option Files) → ((files : Files) → R files files) → BothTold R told told
both_same R None same = tt
both_same R (Some files) same = same files

pub both_unchanged : (R : Files → Files → Type 0) (old new : Option Files) → new ≡ old → ((files : Files) → R files files) → BothTold R old new
both_unchanged R old new is same = subst (λ o. BothTold R old o) (sym is) (both_same R old same)

pub both_failed : (R : Files → Files → Type 0) (change : Files → Files) (old new : Option Files) → (new ≡ old) ⊎ (new ≡ option_map change old)
    → ((files : Files) → R files files) → ((files : Files) → R files (change files)) → BothTold R old new
both_failed R change old new (inl is) same step = both_unchanged R old new is same
both_failed R change old new (inr is) same step = both_done R change old new is step

-- two steps
pub both_twice : (R S T : Files → Files → Type 0) (old mid new : Option Files) → BothTold R old mid → BothTold S mid new → ((a b c : Files) → R a b → S b c → T a c) → BothTold T old new
both_twice R S T None None None first second joins = tt
both_twice R S T None None (Some c) first second joins = absurd second
both_twice R S T None (Some b) new first second joins = absurd first
both_twice R S T (Some a) None new first second joins = absurd first
both_twice R S T (Some a) (Some b) None first second joins = absurd second
both_twice R S T (Some a) (Some b) (Some c) first second joins = joins a b c first second

-- a weaker relation
pub told_related_both : (R S : Files → Files → Type 0) (old new : Option Files) → BothTold R old new → ((a b : Files) → R a b → S a b) → BothTold S old new
told_related_both R S None None both weaker = tt
told_related_both R S None (Some b) both weaker = absurd both
told_related_both R S (Some a) None both weaker = absurd both
told_related_both R S (Some a) (Some b) both weaker = weaker a b both

-- a fact of files that another disk tells as well
pub moved : {a b : Option Files} (P : Files → Type 0) → a ≡ b → IfSome a P → IfSome b P
moved P same fact = subst (λ told. IfSome told P) same fact

pub moved_both : (R : Files → Files → Type 0) (old a b : Option Files) → b ≡ a → BothTold R old a → BothTold R old b
moved_both R old a b same fact = subst (λ told. BothTold R old told) (sym same) fact
