-- How long frames and items are, and what stands in them.
use Rattle.std.proofs.Common.{◌≡◌, ℕ, ◌+◌, ◌-◌, List, [], ◌∷◌, ◌++◌, length, take, drop, refl, sym, ◌∙◌, ap, arith, append_assoc, length-append, subst, w32}
use Rattle.std.specs.Int.{to_be_bytes}
use Rattle.std.proofs.lemmas.List.{take_at, drop_at}
use Rattle.meta_log.specs.Segment.{IsShort, framed, item, items}
use Rattle.meta_log.specs.GateText.{payload_of, IsGateText}

pub length-to_be_bytes : (n : ℕ) → length (to_be_bytes w32 n) ≡ 4
length-to_be_bytes n = refl

pub length-framed : (payload : List ℕ) → length (framed payload) ≡ length payload + 4
unfolding framed
length-framed payload = omega (arith, length-append (to_be_bytes w32 (length payload)) payload, length-to_be_bytes (length payload))

-- what `ready` gives is a frame and one byte
pub length-ready : (payload : List ℕ) → length (framed payload ++ 0 ∷ []) ≡ length payload + 5
length-ready payload = omega (arith, length-append (framed payload) (0 ∷ []), length-framed payload)

pub payload_of-ready : (payload : List ℕ) → payload_of (framed payload ++ 0 ∷ []) ≡ payload
unfolding framed
payload_of-ready payload =
    let head = to_be_bytes w32 (length payload) in
    let behind : drop 4 (framed payload ++ 0 ∷ []) ≡ payload ++ 0 ∷ [] =
    ap (drop 4) (append_assoc head payload (0 ∷ [])) ∙ drop_at head (payload ++ 0 ∷ []) 4 (length-to_be_bytes (length payload)) in
    ap (λ (l : List ℕ). take (length (framed payload ++ 0 ∷ []) - 5) l) behind
    ∙ take_at payload (0 ∷ []) (length (framed payload ++ 0 ∷ []) - 5) (omega (arith, length-ready payload))

pub items-append : (payloads more : List (List ℕ)) → items (payloads ++ more) ≡ items payloads ++ items more
items-append [] more = refl
items-append (payload ∷ payloads) more =
    ap (λ (l : List ℕ). item payload ++ l) (items-append payloads more) ∙ sym (append_assoc (item payload) (items payloads) (items more))

-- one payload more
pub items-push : (payloads : List (List ℕ)) (payload rest : List ℕ) → items (payloads ++ payload ∷ []) ++ rest ≡ items payloads ++ 1 ∷ (framed payload ++ rest)
items-push [] payload rest = ap (λ (l : List ℕ). 1 ∷ l) (append_assoc (framed payload) [] rest)
items-push (first ∷ payloads) payload rest =
    append_assoc (item first) (items (payloads ++ payload ∷ [])) rest
    ∙ ap (λ (l : List ℕ). item first ++ l) (items-push payloads payload rest)
    ∙ sym (append_assoc (item first) (items payloads) (1 ∷ (framed payload ++ rest)))

pub length-items-push : (payloads : List (List ℕ)) (payload : List ℕ) → length (items (payloads ++ payload ∷ [])) ≡ length (items payloads) + length (framed payload ++ 0 ∷ [])
length-items-push payloads payload =
    let all = ap length (items-push payloads payload (0 ∷ [])) in
    omega (arith, all, length-append (items (payloads ++ payload ∷ [])) (0 ∷ []), length-append (items payloads) (1 ∷ (framed payload ++ 0 ∷ [])))

pub gate_text : (payload bytes : List ℕ) → IsShort payload → bytes ≡ framed payload ++ 0 ∷ [] → IsGateText bytes
gate_text payload bytes short is =
    let P : List ℕ → Type 0 = IsGateText in
    subst P (sym is) (record {
      spelled = ap (λ (l : List ℕ). framed l ++ 0 ∷ []) (sym (payload_of-ready payload));
      short = subst IsShort (sym (payload_of-ready payload)) short;
    })
