-- The steps of an append, over a disk that is told or isn't.
use Rattle.std.proofs.Common.{◌≡◌, ◌⊎◌, inl, inr, ℕ, ◌+◌, ◌≤◌, List, [], ◌∷◌, ◌++◌, length, sym, ◌∙◌, ap, subst, arith, length-append, Option, Some, None}
use Rattle.std.specs.Prelude.{IfSome}
use Rattle.std.specs.Option.{option_map}
use Rattle.std.specs.FinMap.{get}
use Rattle.std.proofs.lemmas.List.Elements.{All-push}
use Rattle.weed_base.specs.Files.{Files, content, spliced, written, IsWithin, MayWrite, BothTold}
use Rattle.meta_log.specs.Segment.{IsShort, framed, items, IsSegment}
use Rattle.meta_log.specs.LogText.{segment_name, Suits, IsAllowed, HasSegment, IsLogText, ChangesOnly}
use Rattle.meta_log.specs.Held.{HoldsPayloads, TellsPayloads, TellsEither}
use Rattle.meta_log.specs.declared.gate_log.GateLog.{GateLog}
use Rattle.meta_log.proofs.Frames.{length-items-push}
use Rattle.meta_log.proofs.Splices.{IsStaged, stage, stage_torn, open_gate, open_torn}
use Rattle.meta_log.proofs.Disks.{content-insert_same, get-insert_other, rewritten, there_of_content}

-- The files hold the log, and behind its gate stands a whole item.
pub record IsReady (files : Files) (log : GateLog) (payloads : List (List ℕ)) (text : List ℕ) : Type 0 where
  pub held : HoldsPayloads files log payloads
  pub staged : IsStaged (content files (segment_name log.stem 1)) payloads text

segment_of_staged : (bytes : List ℕ) (payloads : List (List ℕ)) (text : List ℕ) → IsStaged bytes payloads text → IsSegment bytes payloads
segment_of_staged bytes payloads text staged = record {
  gate = staged.gate;
  rest = framed text ++ 0 ∷ staged.rest;
  spelled = staged.spelled;
  closed = staged.closed;
  short = staged.short;
}

pub length_held : (files : Files) (log : GateLog) (payloads : List (List ℕ)) → HoldsPayloads files log payloads → log.gate + 1 ≤ length (content files (segment_name log.stem 1))
length_held files log payloads held =
    let segment = held.segment.segment in
    omega (arith, ap length segment.spelled, length-append (items payloads) (segment.gate ∷ segment.rest), held.gate)

module _ (log : GateLog) (payloads : List (List ℕ)) (text : List ℕ) where
  abbrev name : List ℕ
  name = segment_name log.stem 1

  abbrev ready : List ℕ
  ready = framed text ++ 0 ∷ []

  staged : (files : Files) → HoldsPayloads files log payloads → IsReady (written name (log.gate + 1) ready files) log payloads text
  staged files held =
      let bytes = spliced (content files name) (log.gate + 1) ready in
      let is_staged = stage payloads log.gate held.gate (content files name) text held.segment.segment in
      record {
        held = record {
          segment = rewritten (IsAllowed log.stem) log.stem files bytes payloads payloads held.segment (segment_of_staged bytes payloads text is_staged) held.segment.allowed;
          gate = held.gate;
        };
        staged = subst (λ (l : List ℕ). IsStaged l payloads text) (sym (content-insert_same files name bytes)) is_staged;
      }

  pub stays : (old new : Files) (count : List ℕ) → HoldsPayloads old log payloads → MayWrite name (log.gate + 1) count old new → IsLogText log.stem new payloads
  stays old new piece held may =
      let segment = stage_torn payloads log.gate held.gate (content old name) may.0 (length piece) held.segment.segment may.1 in
      subst (λ (f : Files). IsLogText log.stem f payloads) (sym may.2)
      (inr (rewritten (IsAllowed log.stem) log.stem old may.0 payloads payloads held.segment segment held.segment.allowed))

  module _ (fits : IsShort text) (suits : Suits log.stem text) where
    opened : (files : Files) (new : GateLog) → IsReady files log payloads text → new.stem ≡ log.stem → new.gate ≡ log.gate + length ready → HoldsPayloads (written name log.gate (1 ∷ []) files) new (payloads ++ text ∷ [])
    opened files new prepared stem_is gate_is =
        let bytes = spliced (content files name) log.gate (1 ∷ []) in
        let segment = open_gate payloads log.gate prepared.held.gate (content files name) text prepared.staged fits in
        let held = rewritten (IsAllowed log.stem) log.stem files bytes payloads (payloads ++ text ∷ []) prepared.held.segment segment (All-push (Suits log.stem) payloads text prepared.held.segment.allowed suits) in
        record {
          segment = subst (λ s. HasSegment (IsAllowed s) s (written name log.gate (1 ∷ []) files) (payloads ++ text ∷ [])) (sym stem_is) held;
          gate = omega (arith, gate_is, prepared.held.gate, length-items-push payloads text);
        }

    pub either_way : (old new : Files) → IsReady old log payloads text → MayWrite name log.gate (1 ∷ []) old new → IsLogText log.stem new payloads ⊎ IsLogText log.stem new (payloads ++ text ∷ [])
    either_way old new prepared may =
        let outcome = open_torn payloads log.gate prepared.held.gate (content old name) may.0 text prepared.staged fits may.1 in
        let P : Files → Type 0 = λ f. IsLogText log.stem f payloads ⊎ IsLogText log.stem f (payloads ++ text ∷ []) in
        let again = rewritten (IsAllowed log.stem) log.stem old may.0 payloads in
        subst P (sym may.2) (elim outcome [
          | inl same ↦ inl (inr (again payloads prepared.held.segment same prepared.held.segment.allowed))
          | inr more ↦ inr (inr (again (payloads ++ text ∷ []) prepared.held.segment more (All-push (Suits log.stem) payloads text prepared.held.segment.allowed suits)))
        ])

-- The first write stages the item.
pub stages : (told : Option Files) (log : GateLog) (payloads : List (List ℕ)) (text : List ℕ) → TellsPayloads told log payloads
    → IfSome (option_map (written (segment_name log.stem 1) (log.gate + 1) (framed text ++ 0 ∷ [])) told) (λ files. IsReady files log payloads text)
stages None log payloads text held = tt
stages (Some files) log payloads text held = staged log payloads text files held

-- Where it fails, the list stays.
pub stage_fails : (old new : Option Files) (log : GateLog) (payloads : List (List ℕ)) (text piece : List ℕ) → BothTold (MayWrite (segment_name log.stem 1) (log.gate + 1) piece) old new
    → TellsPayloads old log payloads → TellsEither log.stem new payloads text
stage_fails None None log payloads text piece may held = tt
stage_fails None (Some new) log payloads text piece may held = absurd may
stage_fails (Some old) None log payloads text piece may held = tt
stage_fails (Some old) (Some new) log payloads text piece may held = inl (stays log payloads text old new piece held may)

-- The second write opens the gate.
pub opens : (told : Option Files) (log new : GateLog) (payloads : List (List ℕ)) (text : List ℕ) → IsShort text → Suits log.stem text
    → IfSome told (λ files. IsReady files log payloads text) → new.stem ≡ log.stem → new.gate ≡ log.gate + length (framed text ++ 0 ∷ [])
    → TellsPayloads (option_map (written (segment_name log.stem 1) log.gate (1 ∷ [])) told) new (payloads ++ text ∷ [])
opens None log new payloads text fits suits prepared stem_is gate_is = tt
opens (Some files) log new payloads text fits suits prepared stem_is gate_is = opened log payloads text fits suits files new prepared stem_is gate_is

-- Where it fails, the list stays or has the payload at its end.
pub open_fails : (old new : Option Files) (log : GateLog) (payloads : List (List ℕ)) (text : List ℕ) → IsShort text → Suits log.stem text
    → IfSome old (λ files. IsReady files log payloads text) → BothTold (MayWrite (segment_name log.stem 1) log.gate (1 ∷ [])) old new → TellsEither log.stem new payloads text
open_fails None None log payloads text fits suits prepared may = tt
open_fails None (Some new) log payloads text fits suits prepared may = absurd may
open_fails (Some old) None log payloads text fits suits prepared may = tt
open_fails (Some old) (Some new) log payloads text fits suits prepared may = either_way log payloads text fits suits old new prepared may

-- So the gate is within the file.
pub ready_within : (told : Option Files) (log : GateLog) (payloads : List (List ℕ)) (text : List ℕ) → IfSome told (λ files. IsReady files log payloads text) → IfSome told (IsWithin (segment_name log.stem 1) log.gate)
ready_within None log payloads text prepared = tt
ready_within (Some files) log payloads text prepared =
    let long = length_held files log payloads prepared.held in
    there_of_content files (segment_name log.stem 1) log.gate (omega (arith, long)) (omega (arith, long))

-- Other files stay as they are.
pub others_written : (told : Option Files) (file : List ℕ) (at : ℕ) (piece : List ℕ) → BothTold (ChangesOnly file) told (option_map (written file at piece) told)
others_written None file at piece = tt
others_written (Some files) file at piece = λ other differs. get-insert_other files file (spliced (content files file) at piece) other differs

pub others_torn : (old new : Option Files) (file : List ℕ) (at : ℕ) (piece : List ℕ) → BothTold (MayWrite file at piece) old new → BothTold (ChangesOnly file) old new
others_torn None None file at piece may = tt
others_torn None (Some new) file at piece may = absurd may
others_torn (Some old) None file at piece may = absurd may
others_torn (Some old) (Some new) file at piece may = λ other differs. ap (λ (f : Files). get f other) may.2 ∙ get-insert_other old file may.0 other differs

pub others_twice : (old mid new : Option Files) (file : List ℕ) → BothTold (ChangesOnly file) old mid → BothTold (ChangesOnly file) mid new → BothTold (ChangesOnly file) old new
others_twice None None None file first second = tt
others_twice None None (Some new) file first second = absurd second
others_twice None (Some mid) new file first second = absurd first
others_twice (Some old) None new file first second = absurd first
others_twice (Some old) (Some mid) None file first second = absurd second
others_twice (Some old) (Some mid) (Some new) file first second = λ other differs. second other differs ∙ first other differs

-- The same over the calls of an append: `file` and `piece` are what it passes, and `first` and `last` what it leaves.
module _ (old first last : Option Files) (log : GateLog) (text file piece : List ℕ) (file_is : file ≡ segment_name log.stem 1) (piece_is : piece ≡ framed text ++ 0 ∷ []) where
  pub first_failed : BothTold (MayWrite file (log.gate + 1) piece) old first → (payloads : List (List ℕ)) → TellsPayloads old log payloads → TellsEither log.stem first payloads text
  first_failed may payloads held = stage_fails old first log payloads text piece (subst (λ (n : List ℕ). BothTold (MayWrite n (log.gate + 1) piece) old first) file_is may) held

  pub first_done : first ≡ option_map (written file (log.gate + 1) piece) old → (payloads : List (List ℕ)) → TellsPayloads old log payloads → IfSome first (λ files. IsReady files log payloads text)
  first_done is payloads held =
      let P : Option Files → Type 0 = λ o. IfSome o (λ files. IsReady files log payloads text) in
      let named = ap (λ (n : List ℕ). option_map (written n (log.gate + 1) piece) old) file_is in
      let filled = ap (λ (p : List ℕ). option_map (written (segment_name log.stem 1) (log.gate + 1) p) old) piece_is in
      subst P (sym (is ∙ named ∙ filled)) (stages old log payloads text held)

  module _ (fits : IsShort text) (suits : Suits log.stem text) (is : first ≡ option_map (written file (log.gate + 1) piece) old) where
    pub last_failed : BothTold (MayWrite file log.gate (1 ∷ [])) first last → (payloads : List (List ℕ)) → TellsPayloads old log payloads → TellsEither log.stem last payloads text
    last_failed may payloads held =
        open_fails first last log payloads text fits suits (first_done is payloads held) (subst (λ (n : List ℕ). BothTold (MayWrite n log.gate (1 ∷ [])) first last) file_is may)

    pub last_done : (new : GateLog) → new.stem ≡ log.stem → new.gate ≡ log.gate + length piece → last ≡ option_map (written file log.gate (1 ∷ [])) first
        → (payloads : List (List ℕ)) → TellsPayloads old log payloads → TellsPayloads last new (payloads ++ text ∷ [])
    last_done new stem_is gate_is last_is payloads held =
        let P : Option Files → Type 0 = λ o. TellsPayloads o new (payloads ++ text ∷ []) in
        let named = ap (λ (n : List ℕ). option_map (written n log.gate (1 ∷ [])) first) file_is in
        subst P (sym (last_is ∙ named))
        (opens first log new payloads text fits suits (first_done is payloads held) stem_is (gate_is ∙ ap (λ (p : List ℕ). log.gate + length p) piece_is))
