-- When bytes were handed over, of pieces that were sent one behind another.
use Rattle.std.proofs.Common.{◌≡◌, ◌⊎◌, inl, inr, ℕ, ◌+◌, ◌-◌, ◌<◌, List, [], ◌∷◌, ◌++◌, length, take, drop, Option, Some, None, refl, sym, ap, ◌∙◌, subst, arith, append_assoc, append-nil}
use Rattle.std.specs.Prelude.{All}
use Rattle.std.specs.Option.{option_map}
use Rattle.std.proofs.lemmas.List.{length-append}
use Rattle.std.proofs.lemmas.List.Concat.{flat_map-cons}
use Rattle.std.proofs.lemmas.Grind.{flat_map-append}
use Rattle.std.proofs.lemmas.List.Elements.{All-head, All-tail, All-push}
use Rattle.weed_base.specs.Sent.{Piece, bytes_of, bytes_sent}
use Rattle.weed_base.specs.Told.{Appends}
use Rattle.weed_command.specs.Written.{AppendsFront}
use Rattle.weed_command.proofs.WrittenLemmas.{appends_more}
use Rattle.weed_command.specs.Handed.{IsHandedAt, IsSentAt, SendsAt}

counted : (piece : Piece) (later : List Piece) → length (bytes_of (piece ∷ later)) ≡ length piece.bytes + length (bytes_of later)
counted piece later = ap length (flat_map-cons (λ (p : Piece). p.bytes) piece later) ∙ length-append piece.bytes (bytes_of later)

-- A byte that was handed over is one of those sent.
handed_within : (pieces : List Piece) (offset moment : ℕ) → IsHandedAt pieces offset moment → offset < length (bytes_of pieces)
handed_within [] offset moment handed = absurd handed
handed_within (piece ∷ later) offset moment (inl here) = omega (arith, counted piece later, here.0)
handed_within (piece ∷ later) offset moment (inr behind) =
    let rest : offset - length piece.bytes < length (bytes_of later) = handed_within later (offset - length piece.bytes) moment behind.1 in
    omega (arith, counted piece later, rest, behind.0)

handed_either : (old new : List Piece) (offset moment : ℕ) → IsHandedAt (old ++ new) offset moment → IsHandedAt old offset moment ⊎ ((place : ℕ) × IsHandedAt new place moment)
handed_either [] new offset moment handed = inr (offset, handed)
handed_either (piece ∷ old) new offset moment (inl here) = inl (inl here)
handed_either (piece ∷ old) new offset moment (inr behind) =
    elim (handed_either old new (offset - length piece.bytes) moment behind.1) as (λ _. IsHandedAt (piece ∷ old) offset moment ⊎ ((place : ℕ) × IsHandedAt new place moment)) [
      | inl before ↦ inl (inr (behind.0, before))
      | inr after ↦ inr after
    ]

handed_at_once : (pieces : List Piece) (tick offset moment : ℕ) → All (λ (piece : Piece). piece.tick ≡ tick) pieces → IsHandedAt pieces offset moment → moment ≡ tick
handed_at_once [] tick offset moment all handed = absurd handed
handed_at_once (piece ∷ later) tick offset moment all (inl here) = here.1 ∙ All-head (λ (p : Piece). p.tick ≡ tick) piece later all
handed_at_once (piece ∷ later) tick offset moment all (inr behind) =
    handed_at_once later tick (offset - length piece.bytes) moment (All-tail (λ (p : Piece). p.tick ≡ tick) piece later all) behind.1

-- A byte was handed over before pieces were sent, or with them.
pub sent_either : (old new : Option (List Piece)) (tick offset moment : ℕ) → SendsAt tick old new → IsSentAt new offset moment → IsSentAt old offset moment ⊎ (moment ≡ tick)
sent_either None new tick offset moment sends handed = absurd (subst (λ (o : Option (List Piece)). IsSentAt o offset moment) sends.1 handed)
sent_either (Some pieces) new tick offset moment sends handed =
    elim (handed_either pieces sends.0 offset moment (subst (λ (o : Option (List Piece)). IsSentAt o offset moment) sends.1 handed)) as (λ _. IsHandedAt pieces offset moment ⊎ (moment ≡ tick)) [
      | inl before ↦ inl before
      | inr after ↦ inr (handed_at_once sends.0 tick after.0 moment sends.2 after.1)
    ]

-- The byte behind all that was sent was not handed over.
pub unsent : (sent : Option (List Piece)) (bytes : List ℕ) (moment : ℕ) → bytes_sent sent ≡ Some bytes → ¬ IsSentAt sent (length bytes) moment
unsent None bytes moment told handed = handed
unsent (Some pieces) bytes moment told handed =
    let same : bytes_of pieces ≡ bytes = cc in
    let within = handed_within pieces (length bytes) moment handed in
    omega (arith, within, ap length same)

-- No piece was sent.
pub sends_nothing : (tick : ℕ) (sent : Option (List Piece)) → SendsAt tick sent sent
sends_nothing tick None = ([], refl, λ k d below. absurd (omega (arith, below)))
sends_nothing tick (Some pieces) = ([], ap Some (sym (append-nil pieces)), λ k d below. absurd (omega (arith, below)))

-- One more was sent.
pub sends_more : (tick later : ℕ) (old mid new : Option (List Piece)) (bytes : List ℕ) → SendsAt tick old mid → later ≡ tick
    → new ≡ option_map (λ (pieces : List Piece). pieces ++ record { tick = tick; bytes = bytes } ∷ []) mid → SendsAt later old new
sends_more tick later old mid new bytes sends same more =
    let piece : Piece = record { tick = tick; bytes = bytes } in (
      sends.0 ++ piece ∷ [],
      pushed old mid new sends.0 piece sends.1 more,
      subst (λ t. All (λ (p : Piece). p.tick ≡ t) (sends.0 ++ piece ∷ [])) (sym same) (All-push (λ (p : Piece). p.tick ≡ tick) sends.0 piece sends.2 refl),
    )
  where
    pushed : (old mid new : Option (List Piece)) (pieces : List Piece) (piece : Piece) → mid ≡ option_map (λ sent. sent ++ pieces) old
        → new ≡ option_map (λ sent. sent ++ piece ∷ []) mid → new ≡ option_map (λ sent. sent ++ (pieces ++ piece ∷ [])) old
    pushed None mid new pieces piece first second = second ∙ ap (option_map (λ sent. sent ++ piece ∷ [])) first
    pushed (Some sent) mid new pieces piece first second = second ∙ ap (option_map (λ sent. sent ++ piece ∷ [])) first ∙ ap Some (append_assoc sent pieces (piece ∷ []))

-- The bytes of a piece more
pub bytes_grow : (old new : Option (List Piece)) (tick : ℕ) (bytes : List ℕ) → new ≡ option_map (λ (pieces : List Piece). pieces ++ record { tick = tick; bytes = bytes } ∷ []) old
    → Appends (bytes_sent old) (bytes_sent new) bytes
bytes_grow None new tick bytes more = ap bytes_sent more
bytes_grow (Some pieces) new tick bytes more =
    let piece : Piece = record { tick = tick; bytes = bytes } in
    ap bytes_sent more ∙ ap Some (flat_map-append (λ (p : Piece). p.bytes) pieces (piece ∷ []) ∙ ap (λ end. bytes_of pieces ++ end) (flat_map-cons (λ (p : Piece). p.bytes) piece [] ∙ append-nil bytes))

-- First bytes of the rest behind first ones
pub front_grows : (count : ℕ) (old mid new : Option (List Piece)) (tick : ℕ) (bytes : List ℕ) (done : ℕ) → Appends (bytes_sent old) (bytes_sent mid) (take done bytes)
    → new ≡ option_map (λ (pieces : List Piece). pieces ++ record { tick = tick; bytes = take count (drop done bytes) } ∷ []) mid → done + count < length bytes → AppendsFront (bytes_sent old) (bytes_sent new) bytes
front_grows count old mid new tick bytes done first more less =
    (done + count, appends_more (bytes_sent old) (bytes_sent mid) (bytes_sent new) bytes done count first (bytes_grow mid new tick (take count (drop done bytes)) more), less)

-- No bytes more
pub bytes_same : (bytes : Option (List ℕ)) → Appends bytes bytes []
bytes_same None = refl
bytes_same (Some bytes) = ap Some (sym (append-nil bytes))

-- Pieces were sent behind calls that sent none.
pub sends_behind : (tick : ℕ) (old mid new : Option (List Piece)) → mid ≡ old → SendsAt tick mid new → SendsAt tick old new
sends_behind tick old mid new same sends = subst (λ o. SendsAt tick o new) same sends
