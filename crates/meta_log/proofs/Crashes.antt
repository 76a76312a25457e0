-- What a crash leaves of the two writes of an append.
use Rattle.std.proofs.Common.{◌≡◌, ◌⊎◌, inl, inr, ℕ, ◌+◌, ◌≤◌, min, List, [], ◌∷◌, length, take, refl, sym, subst, ap, arith, Option, Some, None}
use Rattle.std.specs.Prelude.{IfSome, unwrap_or}
use Rattle.std.specs.FinMap.{get}
use Rattle.weed_base.specs.Files.{Files, content, IsTorn, MayWrite}
use Rattle.weed_base.specs.Images.{Only, IsTornImage, TearsThere, Tears, LeavesOnly}
use Rattle.weed_base.proofs.ImageLemmas.{leaves_both, leaves_weaker}
use Rattle.meta_log.specs.Segment.{IsShort, items}
use Rattle.meta_log.specs.LogText.{segment_name, NoneFrom, Suits, IsLogText}
use Rattle.meta_log.specs.Held.{HoldsPayloads, TellsPayloads, IsEither}
use Rattle.meta_log.specs.Images.{ComesBy, ImagesHoldPayloads}
use Rattle.meta_log.specs.declared.stem.Stem.{Stem}
use Rattle.meta_log.specs.declared.gate_log.GateLog.{GateLog}
use Rattle.meta_log.proofs.Made.{none_still}
use Rattle.meta_log.proofs.Appends.{IsReady, length_held, stays, either_way}

-- Where a write begins within the file, it is torn as one that failed.
torn_within : (at count : ℕ) (old new : List ℕ) → at ≤ length old → IsTornImage at count old new → IsTorn at count old new
torn_within at count old new within torn =
    let least : min at (length old) ≡ at = omega (arith, within) in
    record {
      front = subst (λ (n : ℕ). take n new ≡ take n old) least torn.front;
      back = torn.back within;
      no_shorter = torn.no_shorter;
      no_longer = torn.no_longer;
    }

tears_at : (name : List ℕ) (at : ℕ) (piece : List ℕ) (old new : Files) (there : Option (List ℕ)) → get old name ≡ there → at ≤ length (content old name) → TearsThere name at (length piece) old there new
    → (new ≡ old) ⊎ MayWrite name at piece old new
tears_at name at piece old new None is within tears = inl tears
tears_at name at piece old new (Some bytes) is within tears =
    let same : content old name ≡ bytes = ap (λ (o : Option (List ℕ)). unwrap_or o []) is in
    let torn = subst (λ (l : List ℕ). IsTornImage at (length piece) l tears.0) (sym same) tears.1 in
    inr (tears.0, torn_within at (length piece) (content old name) tears.0 within torn, tears.2)

-- So an image is as it was, or as a write that failed may leave it.
pub tears_within : (name : List ℕ) (at : ℕ) (piece : List ℕ) (old new : Files) → at ≤ length (content old name) → Tears name at (length piece) old new → (new ≡ old) ⊎ MayWrite name at piece old new
tears_within name at piece old new within tears = tears_at name at piece old new (get old name) refl within tears

none_torn_at : (stem : Stem) (at count : ℕ) (old new : Files) (there : Option (List ℕ)) → NoneFrom stem 1 old → TearsThere (segment_name stem 1) at count old there new → NoneFrom stem 1 new
none_torn_at stem at count old new None none tears = subst (NoneFrom stem 1) (sym tears) none
none_torn_at stem at count old new (Some bytes) none tears = subst (NoneFrom stem 1) (sym tears.2) (none_still stem old tears.0 none)

-- Where no segment counts, a write to the first makes none count.
pub none_torn : (stem : Stem) (at count : ℕ) (old new : Files) → NoneFrom stem 1 old → Tears (segment_name stem 1) at count old new → NoneFrom stem 1 new
none_torn stem at count old new none tears = none_torn_at stem at count old new (get old (segment_name stem 1)) none tears

-- a write behind the gate leaves the list
stage_keeps : (log : GateLog) (payloads : List (List ℕ)) (text piece : List ℕ) (old new : Files) → log.gate ≡ length (items payloads) → IsLogText log.stem old payloads
    → Tears (segment_name log.stem 1) (log.gate + 1) (length piece) old new → IsLogText log.stem new payloads
stage_keeps log payloads text piece old new gate_is (inl none) tears = inl (none_torn log.stem (log.gate + 1) (length piece) old new none.0 tears, none.1)
stage_keeps log payloads text piece old new gate_is (inr segment) tears =
    let held : HoldsPayloads old log payloads = record { segment = segment; gate = gate_is } in
    elim (tears_within (segment_name log.stem 1) (log.gate + 1) piece old new (length_held old log payloads held) tears) [
      | inl same ↦ subst (λ (f : Files). IsLogText log.stem f payloads) (sym same) (inr segment)
      | inr may ↦ stays log payloads text old new piece held may
    ]

-- an opened gate leaves it, or lets the payload count
open_leaves : (log : GateLog) (payloads : List (List ℕ)) (text : List ℕ) → IsShort text → Suits log.stem text → (old new : Files) → IsReady old log payloads text
    → Tears (segment_name log.stem 1) log.gate 1 old new → IsEither log.stem payloads text new
open_leaves log payloads text fits suits old new prepared tears =
    let long = length_held old log payloads prepared.held in
    elim (tears_within (segment_name log.stem 1) log.gate (1 ∷ []) old new (omega (arith, long)) tears) [
      | inl same ↦ subst (IsEither log.stem payloads text) (sym same) (inl (inr prepared.held.segment))
      | inr may ↦ either_way log payloads text fits suits old new prepared may
    ]

-- The calls of an append, where `file` and `piece` are what they pass.
module _ {D : Type 0} (tick : D → ℕ) (since : D → ℕ → Files → Type 0) (images : D → Files → Type 0) (log : GateLog) (payloads : List (List ℕ)) (text file piece : List ℕ) (file_is : file ≡ segment_name log.stem 1) (gate_is : log.gate ≡ length (items payloads)) where
  abbrev first_from : D → Files → Type 0
  first_from old = ComesBy (Tears file (log.gate + 1) (length piece)) (images old)

  abbrev last_from : D → Files → Type 0
  last_from middle = ComesBy (Tears file log.gate 1) (images middle)

  -- the first
  pub first_leaves : (old middle : D) → ImagesHoldPayloads log.stem (images old) payloads → LeavesOnly tick since old middle (first_from old) → LeavesOnly tick since old middle (IsEither log.stem payloads text)
  first_leaves old middle hold leaves =
      leaves_weaker tick since old middle (first_from old) (IsEither log.stem payloads text)
      (λ image from. inl (stage_keeps log payloads text piece from.0 image gate_is (hold from.0 from.1) (subst (λ (n : List ℕ). Tears n (log.gate + 1) (length piece) from.0 image) file_is from.2)))
      leaves

  -- both, where the first is settled
  pub both_leave : (told : Option Files) (old middle new : D) → IsShort text → Suits log.stem text → ImagesHoldPayloads log.stem (images old) payloads → LeavesOnly tick since old middle (first_from old)
      → IfSome told (λ files. IsReady files log payloads text) → Only told (images middle) → LeavesOnly tick since middle new (last_from middle) → LeavesOnly tick since old new (IsEither log.stem payloads text)
  both_leave told old middle new fits suits hold first prepared only last =
      leaves_both tick since old middle new (IsEither log.stem payloads text) (first_leaves old middle hold first)
      (leaves_weaker tick since middle new (last_from middle) (IsEither log.stem payloads text)
      (λ image from.
      open_leaves log payloads text fits suits from.0 image (subst (λ o. IfSome o (λ files. IsReady files log payloads text)) (only from.0 from.1) prepared)
      (subst (λ (n : List ℕ). Tears n log.gate 1 from.0 image) file_is from.2))
      last)

-- What is settled holds what reads give.
pub settled_holds : (told : Option Files) (images : Files → Type 0) (log new : GateLog) (payloads : List (List ℕ)) → new.stem ≡ log.stem → Only told images → TellsPayloads told new payloads → ImagesHoldPayloads log.stem images payloads
settled_holds told images log new payloads stem_is only holds = λ image left.
    let held = subst (λ o. TellsPayloads o new payloads) (only image left) holds in
    subst (λ (s : Stem). IsLogText s image payloads) stem_is (inr held.segment)
