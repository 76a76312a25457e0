-- One write after another.
use Rattle.std.proofs.Common.{◌≡◌, ◌⊎◌, ℕ, ◌+◌, ◌≤◌, ◌<◌, min, inl, inr, refl, List, ◌++◌, length, take, drop, Option, Some, None, Result, Ok, Err, sym, ap, subst, ◌∙◌, arith, append_assoc, length-append}
use Rattle.std.proofs.lemmas.List.{take_min, take-append-le}
use Rattle.std.proofs.Math.Seq.{take-append-add}
use Rattle.std.specs.Option.{option_map}
use Rattle.weed_command.proofs.ListLemmas.{take-add}
use Rattle.std.specs.Prelude.{OnErr}
use Rattle.weed_base.specs.Told.{raised, Appends, Rose, HasCause, IsWriteFault}
use Rattle.weed_command.specs.Written.{AppendsFront}
use Rattle.weed_command.specs.Causes.{IsCauseBeside}

-- the bytes of one write behind those of another
pub appends_both : (old mid new : Option (List ℕ)) (xs ys : List ℕ) → Appends old mid xs → Appends mid new ys → Appends old new (xs ++ ys)
appends_both None mid new xs ys first second = second ∙ ap (option_map (λ written. written ++ ys)) first
appends_both (Some text) mid new xs ys first second =
    second ∙ ap (option_map (λ written. written ++ ys)) first ∙ ap Some (append_assoc text xs ys)

-- the bytes of one write behind first ones
pub appends_more : (old mid new : Option (List ℕ)) (bytes : List ℕ) (m n : ℕ) → Appends old mid (take m bytes) → Appends mid new (take n (drop m bytes)) → Appends old new (take (m + n) bytes)
appends_more old mid new bytes m n first second =
    let both = appends_both old mid new (take m bytes) (take n (drop m bytes)) first second in
    subst (Appends old new) (sym (take-add m n bytes)) both

-- the bytes of one write behind some first bytes of those of another, whatever was to follow
pub front_behind : (old mid new : Option (List ℕ)) (xs ys zs : List ℕ) → Appends old mid xs → AppendsFront mid new ys → AppendsFront old new (xs ++ (ys ++ zs))
front_behind old mid new xs ys zs first (count, second, less) =
    let n = min count (length ys) in
    let cut : take (length xs + n) (xs ++ (ys ++ zs)) ≡ xs ++ take count ys =
    take-append-add xs (ys ++ zs) n ∙ ap (λ rest. xs ++ rest) (take-append-le n ys zs (omega arith) ∙ take_min count ys) in
    (length xs + n, subst (Appends old new) (sym cut) (appends_both old mid new xs (take count ys) first second), omega (arith, less, length-append xs (ys ++ zs), length-append ys zs))

-- a count that went up by one rose
pub rises : (before now : ℕ) → before ≤ now → now ≡ raised before → Rose before now
rises before now later is = omega (arith, later, is)

-- the cause of what failed
pub failed_in : {T E : Type 0} (before now : ℕ) (result : Result T E) → HasCause before now result → OnErr result (Rose before now)
failed_in before now (Ok value) cause = tt
failed_in before now (Err fault) cause = rises before now cause.later (cause.failed refl)

fault_or_not : {T E : Type 0} (before now : ℕ) (result : Result T E) → HasCause before now result → (now ≡ before) ⊎ (now ≡ raised before)
fault_or_not before now (Ok value) cause = inl (cause.quiet (λ failed. cc))
fault_or_not before now (Err fault) cause = inr (cause.failed refl)

-- the cause of a call behind one that left the count, at an end that hides it
pub hidden_cause : {T E : Type 0} (start before now : ℕ) (result : Result T E) (Fault Hides : Type 0) → before ≡ start → HasCause before now result → ¬ Fault → Hides → IsCauseBeside start now Fault Hides
hidden_cause start before now result Fault Hides same cause none hides = subst (λ n. IsCauseBeside n now Fault Hides) same (record {
  later = cause.later;
  quiet = λ _ shown. absurd (shown hides);
  failed = λ fault. absurd (none fault);
  hidden = λ _. fault_or_not before now result cause;
})

ok_is : {E : Type 0} (result : Result ℕ E) (count other : ℕ) → result ≡ Ok count → result ≡ Ok other → count ≡ other
ok_is result count other first second = cc

-- a write that took some bytes didn't fail
pub took_some : {E : Type 0} (count : ℕ) (piece : List ℕ) → 0 < count → ¬ IsWriteFault {E = E} (Ok count) piece
took_some count piece some (inl failed) = absurd (cc)
took_some {E = E} count piece some (inr none) = omega (arith, some, ok_is {E = E} (Ok count) count 0 refl none.0)
