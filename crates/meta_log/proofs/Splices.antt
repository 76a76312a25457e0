-- What the two writes of an append make of a segment, and what each may leave where it fails.
use Rattle.std.proofs.Common.{◌≡◌, ◌≢◌, ◌⊎◌, inl, inr, ℕ, ◌+◌, ◌≤◌, List, [], ◌∷◌, ◌++◌, length, drop, All, sym, ◌∙◌, ap, subst, arith, append_assoc, length-append, take-append-drop}
use Rattle.std.proofs.lemmas.List.{take_at, drop_at, drop-drop}
use Rattle.std.proofs.lemmas.List.Elements.{All-push}
use Rattle.std.proofs.lemmas.Bool.{cases_eq}
use Rattle.weed_base.specs.Files.{spliced, IsTorn}
use Rattle.meta_log.specs.Segment.{IsShort, framed, items, IsSegment}
use Rattle.meta_log.proofs.Frames.{items-push}

-- a splice right behind a front part
pub spliced_behind : (front back piece : List ℕ) (at : ℕ) → at ≡ length front → spliced (front ++ back) at piece ≡ front ++ (piece ++ drop (length piece) back)
spliced_behind front back piece at is =
    let tail : drop (at + length piece) (front ++ back) ≡ drop (length piece) back =
    sym (drop-drop (length piece) at (front ++ back)) ∙ ap (λ (l : List ℕ). drop (length piece) l) (drop_at front back at (sym is)) in
    ap (λ (l : List ℕ). l ++ piece ++ drop (at + length piece) (front ++ back)) (take_at front back at (sym is))
    ∙ ap (λ (l : List ℕ). front ++ piece ++ l) tail
    ∙ append_assoc front piece (drop (length piece) back)

-- a torn write right behind a front part
pub torn_behind : (front back new : List ℕ) (at count : ℕ) → at ≡ length front → IsTorn at count (front ++ back) new → new ≡ front ++ drop at new
torn_behind front back new at count is torn =
    sym (take-append-drop at new) ∙ ap (λ (l : List ℕ). l ++ drop at new) (torn.front ∙ take_at front back at (sym is))

pub torn_back : (front back new : List ℕ) (at count : ℕ) → at ≡ length front → IsTorn at count (front ++ back) new → drop count (drop at new) ≡ drop count back
torn_back front back new at count is torn =
    drop-drop count at new ∙ torn.back ∙ sym (drop-drop count at (front ++ back)) ∙ ap (λ (l : List ℕ). drop count l) (drop_at front back at (sym is))

-- a segment with a whole item behind its gate
pub record IsStaged (bytes : List ℕ) (payloads : List (List ℕ)) (payload : List ℕ) : Type 0 where
  pub gate : ℕ
  pub rest : List ℕ
  pub spelled : bytes ≡ items payloads ++ gate ∷ (framed payload ++ 0 ∷ rest)
  pub closed : gate ≢ 1
  pub short : All IsShort payloads

module _ (payloads : List (List ℕ)) (place : ℕ) (is : place ≡ length (items payloads)) where
  up_to_gate : (gate : ℕ) → place + 1 ≡ length (items payloads ++ gate ∷ [])
  up_to_gate gate = omega (arith, is, length-append (items payloads) (gate ∷ []))

  pub stage : (bytes payload : List ℕ) → IsSegment bytes payloads → IsStaged (spliced bytes (place + 1) (framed payload ++ 0 ∷ [])) payloads payload
  stage bytes payload segment =
      let piece = framed payload ++ 0 ∷ [] in
      let left = drop (length piece) segment.rest in
      let parted : bytes ≡ (items payloads ++ segment.gate ∷ []) ++ segment.rest = segment.spelled ∙ sym (append_assoc (items payloads) (segment.gate ∷ []) segment.rest) in
      record {
        gate = segment.gate;
        rest = left;
        spelled = ap (λ (l : List ℕ). spliced l (place + 1) piece) parted
            ∙ spliced_behind (items payloads ++ segment.gate ∷ []) segment.rest piece (place + 1) (up_to_gate segment.gate)
            ∙ append_assoc (items payloads) (segment.gate ∷ []) (piece ++ left)
            ∙ ap (λ (l : List ℕ). items payloads ++ segment.gate ∷ l) (append_assoc (framed payload) (0 ∷ []) left);
        closed = segment.closed;
        short = segment.short;
      }

  pub stage_torn : (bytes new : List ℕ) (count : ℕ) → IsSegment bytes payloads → IsTorn (place + 1) count bytes new → IsSegment new payloads
  stage_torn bytes new count segment torn =
      let parted : bytes ≡ (items payloads ++ segment.gate ∷ []) ++ segment.rest = segment.spelled ∙ sym (append_assoc (items payloads) (segment.gate ∷ []) segment.rest) in
      record {
        gate = segment.gate;
        rest = drop (place + 1) new;
        spelled = torn_behind (items payloads ++ segment.gate ∷ []) segment.rest new (place + 1) count (up_to_gate segment.gate) (subst (λ (l : List ℕ). IsTorn (place + 1) count l new) parted torn)
            ∙ append_assoc (items payloads) (segment.gate ∷ []) (drop (place + 1) new);
        closed = segment.closed;
        short = segment.short;
      }

  -- behind any gate the item counts or it doesn't
  either : (bytes payload : List ℕ) (gate : ℕ) (rest : List ℕ) → bytes ≡ items payloads ++ gate ∷ (framed payload ++ 0 ∷ rest) → All IsShort payloads → IsShort payload → IsSegment bytes payloads ⊎ IsSegment bytes (payloads ++ payload ∷ [])
  either bytes payload gate rest spelled short fits = elim (cases_eq gate 1) [
    | inl opened ↦ inr (record {
      gate = 0;
      rest = rest;
      spelled = spelled ∙ ap (λ (n : ℕ). items payloads ++ n ∷ (framed payload ++ 0 ∷ rest)) opened ∙ sym (items-push payloads payload (0 ∷ rest));
      closed = λ e. omega (arith, e);
      short = All-push IsShort payloads payload short fits;
    })
    | inr closed ↦ inl (record { gate = gate; rest = framed payload ++ 0 ∷ rest; spelled = spelled; closed = closed; short = short })
  ]

  pub open_gate : (bytes payload : List ℕ) → IsStaged bytes payloads payload → IsShort payload → IsSegment (spliced bytes place (1 ∷ [])) (payloads ++ payload ∷ [])
  open_gate bytes payload staged fits = record {
    gate = 0;
    rest = staged.rest;
    spelled = ap (λ (l : List ℕ). spliced l place (1 ∷ [])) staged.spelled
        ∙ spliced_behind (items payloads) (staged.gate ∷ (framed payload ++ 0 ∷ staged.rest)) (1 ∷ []) place is
        ∙ sym (items-push payloads payload (0 ∷ staged.rest));
    closed = λ e. omega (arith, e);
    short = All-push IsShort payloads payload staged.short fits;
  }

  first_byte : (left back : List ℕ) → drop 1 left ≡ back → 1 ≤ length left → (gate : ℕ) × (left ≡ gate ∷ back)
  first_byte [] back e some = absurd (omega arith)
  first_byte (gate ∷ left) back e some = (gate, ap (λ (l : List ℕ). gate ∷ l) e)

  pub open_torn : (bytes new payload : List ℕ) → IsStaged bytes payloads payload → IsShort payload → IsTorn place 1 bytes new → IsSegment new payloads ⊎ IsSegment new (payloads ++ payload ∷ [])
  open_torn bytes new payload staged fits torn =
      let back = framed payload ++ 0 ∷ staged.rest in
      let at_gate = subst (λ (l : List ℕ). IsTorn place 1 l new) staged.spelled torn in
      let whole = torn_behind (items payloads) (staged.gate ∷ back) new place 1 is at_gate in
      let long : 1 ≤ length (drop place new) =
      omega (arith, is, at_gate.no_shorter, length-append (items payloads) (staged.gate ∷ back), ap length whole, length-append (items payloads) (drop place new)) in
      let first = first_byte (drop place new) back (torn_back (items payloads) (staged.gate ∷ back) new place 1 is at_gate) long in
      either new payload first.0 staged.rest (whole ∙ ap (λ (l : List ℕ). items payloads ++ l) first.1) staged.short fits
