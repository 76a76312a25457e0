-- What an opening keeps.
use Rattle.std.proofs.Common.{◌≡◌, inl, inr, ℕ, Bool, true, false, List, [], ◌∷◌, ◌++◌, length, refl, sym, ◌∙◌, subst, arith, Option, Some, None}
use Rattle.std.specs.Prelude.{IfSome, IsTrue, MatchBool, All}
use Rattle.std.proofs.lemmas.List.{get_or_push, length_push}
use Rattle.std.proofs.lemmas.List.Elements.{All-push, All-nil}
use Rattle.weed_base.specs.Files.{Files, BothTold}
use Rattle.meta_log.specs.LogText.{NoneFrom, HasText, HasSegment, IsAllowed, IsLogText}
use Rattle.meta_log.specs.Opening.{IsOpen}
use Rattle.meta_log.specs.Held.{HoldsGateLog, HoldsPayloads, IsOpened}
use Rattle.meta_log.specs.declared.gate_log.GateLog.{GateLog}
use Rattle.meta_log.proofs.Unique.{text_unique}
use Rattle.meta_log.specs.Making.{IsFresh, IsFreshOrEmpty, LeavesOthers}
use Rattle.meta_log.specs.Standing.{IsStanding}
use Rattle.meta_log.specs.declared.stem.Stem.{Stem}
use Rattle.meta_log.specs.declared.standing.Standing.{Standing}
use Rattle.meta_log.specs.declared.standing.Standing.TheVariants.{Empty}

-- the last one of a list that all of it is true of
pub All-last : {X : Type 0} (P : X → Type 0) (xs : List X) (x : X) → All P (xs ++ x ∷ []) → P x
All-last P xs x all = subst P (get_or_push xs x x (length xs) refl) (all (length xs) x (omega (arith, length_push xs x)))

-- a check of each payload by itself
pub verdict : (P : List ℕ → Type 0) (fits : Bool) (before : List (List ℕ)) (payload : List ℕ) → (IsTrue fits → P payload) × (P payload → IsTrue fits) → All P before
    → MatchBool fits (All P (before ++ payload ∷ [])) (¬ All P (before ++ payload ∷ []))
verdict P true before payload tells passed = All-push P before payload passed (tells.0 refl)
verdict P false before payload tells passed = λ all. let granted = tells.1 (All-last P before payload all) in absurd (cc)

module _ (Allowed : List (List ℕ) → Type 0) (stem : Stem) (begins : Allowed []) where
  pub fresh_text : (files : Files) → IsFresh stem files → HasText Allowed stem files []
  fresh_text files fresh = inr (record {
    counts = fresh.counts;
    alone = fresh.alone;
    segment = record { gate = 0; rest = []; spelled = fresh.closed; closed = λ e. omega (arith, e); short = All-nil _ };
    allowed = begins;
  })

  pub empty_text : (files : Files) → IsFreshOrEmpty stem files → HasText Allowed stem files []
  empty_text files (inl none) = inl (none, refl)
  empty_text files (inr fresh) = fresh_text files fresh

  pub only_empty : (files : Files) (payloads : List (List ℕ)) → NoneFrom stem 1 files → HasText Allowed stem files payloads → payloads ≡ []
  only_empty files payloads none (inl text) = text.1
  only_empty files payloads none (inr held) = absurd (none 1 (omega arith) (omega arith) held.counts)

  -- the making of a first segment keeps the list
  pub making_keeps : (old new : Option Files) → BothTold (LeavesOthers stem) old new → IfSome old (NoneFrom stem 1) → IfSome new (IsFreshOrEmpty stem)
      → (payloads : List (List ℕ)) → IfSome old (λ files. HasText Allowed stem files payloads) → IfSome new (λ files. HasText Allowed stem files payloads)
  making_keeps None None told none made payloads text = tt
  making_keeps None (Some new) told none made payloads text = absurd told
  making_keeps (Some old) None told none made payloads text = tt
  making_keeps (Some old) (Some new) told none made payloads text = subst (HasText Allowed stem new) (sym (only_empty old payloads none text)) (empty_text new made)

-- what is fresh is fresh or empty
pub fresh_or_empty : (told : Option Files) (stem : Stem) → IfSome told (IsFresh stem) → IfSome told (IsFreshOrEmpty stem)
fresh_or_empty None stem fresh = tt
fresh_or_empty (Some files) stem fresh = inr fresh

-- the same where the disk was looked at before
pub looked_at_keeps : (Allowed : List (List ℕ) → Type 0) (stem : Stem) → Allowed [] → (old synced mid new : Option Files) (found : Standing) → mid ≡ synced → synced ≡ old → found ≡ Empty
    → IfSome synced (λ files. IsStanding stem files found) → IfSome new (IsFreshOrEmpty stem) → BothTold (LeavesOthers stem) mid new
    → (payloads : List (List ℕ)) → IfSome old (λ files. HasText Allowed stem files payloads) → IfSome new (λ files. HasText Allowed stem files payloads)
looked_at_keeps Allowed stem begins old synced mid new found same_mid same_old is stands made told payloads text =
    let none = subst (λ s. IfSome synced (λ files. IsStanding stem files s)) is stands in
    let here = subst (λ o. IfSome o (NoneFrom stem 1)) (sym same_mid) none in
    let before = subst (λ o. IfSome o (λ files. HasText Allowed stem files payloads)) (sym (same_mid ∙ same_old)) text in
    making_keeps Allowed stem begins mid new told here made payloads before

-- what an opening hands on
opened_files : (stem : Stem) (old new : Files) (log : GateLog) → log.stem ≡ stem → IsOpen (IsAllowed stem) (IsAllowed stem) stem log.gate old new
    → ((payloads : List (List ℕ)) × IsLogText stem old payloads) × ((payloads : List (List ℕ)) → IsLogText stem old payloads → HoldsPayloads new log payloads)
opened_files stem old new log stem_is found = (
  (found.payloads, found.before),
  λ payloads text.
      let same = text_unique (IsAllowed stem) (IsAllowed stem) stem old found.payloads payloads found.before text in
      let held = subst (λ (s : Stem). HasSegment (IsAllowed s) s new found.payloads) (sym stem_is) found.now in
      subst (HoldsPayloads new log) same (record { segment = held; gate = found.place }),
)

pub opened : (old new : Option Files) (stem : Stem) (log : GateLog) → log.stem ≡ stem → BothTold (IsOpen (IsAllowed stem) (IsAllowed stem) stem log.gate) old new → IsOpened stem old new log
opened None None stem log stem_is found = record { stem_is = stem_is; text = tt; holds = λ payloads text. tt }
opened None (Some new) stem log stem_is found = absurd found
opened (Some old) None stem log stem_is found = absurd found
opened (Some old) (Some new) stem log stem_is found =
    let both = opened_files stem old new log stem_is found in
    record { stem_is = stem_is; text = both.0; holds = both.1 }

-- So the disk holds the log.
pub opened_holds : (old new : Option Files) (stem : Stem) (log : GateLog) → BothTold (LeavesOthers stem) old new → IsOpened stem old new log → HoldsGateLog new log
opened_holds old None stem log told opened = ([], tt)
opened_holds None (Some new) stem log told opened = absurd told
opened_holds (Some old) (Some new) stem log told opened = (opened.text.0, opened.holds opened.text.0 opened.text.1)
