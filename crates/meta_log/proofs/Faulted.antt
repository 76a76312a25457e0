-- What is said of damage, weakened.
use Rattle.std.proofs.Common.{◌≡◌, ℕ, List, Result, Ok, Err, subst, sym, ◌∙◌}
use Rattle.std.specs.Prelude.{IfErr}
use Rattle.meta_log.specs.Faults.{IfDamaged}
use Rattle.meta_log.specs.declared.fault.LogFault.{LogFault}
use Rattle.meta_log.specs.declared.fault.LogFault.TheVariants.{DiskFault, Damaged, Memory}

pub IfDamaged-weaker : (P Q : List ℕ → ℕ → Type 0) (fault : LogFault) → ((file : List ℕ) (at : ℕ) → P file at → Q file at) → IfDamaged P fault → IfDamaged Q fault
IfDamaged-weaker P Q DiskFault weaker said = tt
IfDamaged-weaker P Q (Damaged file at) weaker said = weaker file at said
IfDamaged-weaker P Q Memory weaker said = tt

-- at the exit of a `?`
pub damaged_on : {T : Type 0} (P Q : List ℕ → ℕ → Type 0) (result : Result T LogFault) (fault other : LogFault) → result ≡ Err fault → fault ≡ other → ((file : List ℕ) (at : ℕ) → P file at → Q file at) → IfDamaged P other → IfErr result (IfDamaged Q)
damaged_on P Q result fault other is same weaker said =
    subst (λ r. IfErr r (IfDamaged Q)) (sym is) (IfDamaged-weaker P Q fault weaker (subst (IfDamaged P) (sym same) said))

-- what is Ok is no fault
pub ok_is_no_fault : {T : Type 0} (result : Result T LogFault) (value : T) (fault : LogFault) → result ≡ Ok value → ¬ (result ≡ Err fault)
ok_is_no_fault result value fault ok err = let both : Ok value ≡ Err fault = sym ok ∙ err in cc

-- both of two things that are said of damage
pub damaged_both : (P Q : List ℕ → ℕ → Type 0) (fault : LogFault) → IfDamaged P fault → IfDamaged Q fault → IfDamaged (λ file at. P file at × Q file at) fault
damaged_both P Q DiskFault one other = tt
damaged_both P Q (Damaged file at) one other = (one, other)
damaged_both P Q Memory one other = tt

pub IfErr-weaker : {T : Type 0} (P Q : List ℕ → ℕ → Type 0) (result : Result T LogFault) → ((file : List ℕ) (at : ℕ) → P file at → Q file at) → IfErr result (IfDamaged P) → IfErr result (IfDamaged Q)
IfErr-weaker P Q (Ok value) weaker said = tt
IfErr-weaker P Q (Err fault) weaker said = IfDamaged-weaker P Q fault weaker said
