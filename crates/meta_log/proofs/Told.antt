-- What a call leaves of a disk that is told or isn't.
use Rattle.std.proofs.Common.{◌≡◌, ◌⊎◌, inl, inr, sym, subst, ap, ◌∙◌, Option, Some, None, Result, Ok, Err}
use Rattle.std.specs.Prelude.{IfSome, OnOk, OnErr, MatchResult}
use Rattle.std.specs.Option.{option_map}
use Rattle.weed_base.specs.Files.{Files, BothTold}

-- a change that was done
pub told_done : (P Q : Files → Type 0) (change : Files → Files) (old new : Option Files) → new ≡ option_map change old → ((files : Files) → P files → Q (change files)) → IfSome old P → IfSome new Q
told_done P Q change None new is step held = subst (λ o. IfSome o Q) (sym is) tt
told_done P Q change (Some files) new is step held = subst (λ o. IfSome o Q) (sym is) (step files held)

-- one change after another
pub done_twice : (first second : Files → Files) (old mid new : Option Files) → mid ≡ option_map first old → new ≡ option_map second mid → new ≡ option_map (λ files. second (first files)) old
done_twice first second None mid new one two = two ∙ ap (option_map second) one
done_twice first second (Some files) mid new one two = two ∙ ap (option_map second) one

-- a change that failed
pub told_failed : (P Q : Files → Type 0) (change : Files → Files) (old new : Option Files) → (new ≡ old) ⊎ (new ≡ option_map change old)
    → ((files : Files) → P files → Q files) → ((files : Files) → P files → Q (change files)) → IfSome old P → IfSome new Q
told_failed P Q change None new (inl is) same step held = subst (λ o. IfSome o Q) (sym is) tt
told_failed P Q change None new (inr is) same step held = subst (λ o. IfSome o Q) (sym is) tt
told_failed P Q change (Some files) new (inl is) same step held = subst (λ o. IfSome o Q) (sym is) (same files held)
told_failed P Q change (Some files) new (inr is) same step held = subst (λ o. IfSome o Q) (sym is) (step files held)

-- what is so related
pub told_related : (P Q : Files → Type 0) (R : Files → Files → Type 0) (old new : Option Files) → BothTold R old new → ((before after : Files) → P before → R before after → Q after) → IfSome old P → IfSome new Q
told_related P Q R None None both step held = tt
told_related P Q R None (Some after) both step held = absurd both
told_related P Q R (Some before) None both step held = absurd both
told_related P Q R (Some before) (Some after) both step held = step before after held both

-- a relation of one change
pub both_done : (R : Files → Files → Type 0) (change : Files → Files) (old new : Option Files) → new ≡ option_map change old → ((files : Files) → R files (change files)) → BothTold R old new
both_done R change None new is step = subst (λ o. BothTold R None o) (sym is) tt
both_done R change (Some files) new is step = subst (λ o. BothTold R (Some files) o) (sym is) (step files)

both_same : (R : Files → Files → Type 0) (told : Option Files) → ((files : Files) → R files files) → BothTold R told told
both_same R None same = tt
both_same R (Some files) same = same files

pub both_unchanged : (R : Files → Files → Type 0) (old new : Option Files) → new ≡ old → ((files : Files) → R files files) → BothTold R old new
both_unchanged R old new is same = subst (λ o. BothTold R old o) (sym is) (both_same R old same)

pub both_failed : (R : Files → Files → Type 0) (change : Files → Files) (old new : Option Files) → (new ≡ old) ⊎ (new ≡ option_map change old) → ((files : Files) → R files files) → ((files : Files) → R files (change files)) → BothTold R old new
both_failed R change old new (inl is) same step = both_unchanged R old new is same
both_failed R change old new (inr is) same step = both_done R change old new is step

-- two steps
pub both_twice : (R S T : Files → Files → Type 0) (old mid new : Option Files) → BothTold R old mid → BothTold S mid new → ((a b c : Files) → R a b → S b c → T a c) → BothTold T old new
both_twice R S T None None None first second joins = tt
both_twice R S T None None (Some c) first second joins = absurd second
both_twice R S T None (Some b) new first second joins = absurd first
both_twice R S T (Some a) None new first second joins = absurd first
both_twice R S T (Some a) (Some b) None first second joins = absurd second
both_twice R S T (Some a) (Some b) (Some c) first second joins = joins a b c first second

-- a fact for one outcome
pub on_ok : {T E : Type 0} {P : Type 0} (A B : Type 0) (r : Result T E) → MatchResult r (λ _. A) (λ _. B) → (A → P) → OnOk r P
on_ok A B (Ok x) m done = done m
on_ok A B (Err e) m done = tt

pub on_err : {T E : Type 0} {P : Type 0} (A B : Type 0) (r : Result T E) → MatchResult r (λ _. A) (λ _. B) → (B → P) → OnErr r P
on_err A B (Ok x) m failed = tt
on_err A B (Err e) m failed = failed m

pub on_ok_always : {T E : Type 0} {P : Type 0} (r : Result T E) → P → OnOk r P
on_ok_always (Ok x) p = p
on_ok_always (Err e) p = tt

pub on_err_always : {T E : Type 0} {P : Type 0} (r : Result T E) → P → OnErr r P
on_err_always (Ok x) p = tt
on_err_always (Err e) p = p
