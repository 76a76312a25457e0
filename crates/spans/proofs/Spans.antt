-- The bytes of a range, one run after another.
use Rattle.std.proofs.Common.{◌≡◌, ℕ, zero, suc, ◌+◌, ◌-◌, ◌≤◌, ◌<◌, Bool, true, false, cond, List, [], ◌∷◌, ◌++◌, length, take, drop, replicate, Option, None, Some, refl, sym, ap, ◌∙◌, subst, inl, inr, ◌⊎◌, arith, get_or, length-append}
use Rattle.std.specs.Prelude.{IfSome, IsSomeAnd, unwrap_or, option_map, option_and_then, slice_index}
use Rattle.std.proofs.lemmas.List.{drop_more, take_all}
use Rattle.std.proofs.lemmas.Bool.{cases_lt}
use Rattle.std.proofs.lemmas.Option.{none-some}
use Rattle.entry.specs.declared.chunk.Chunk.{Chunk}
use Rattle.spans.specs.declared.span_fault.SpanFault.{SpanFault}
use Rattle.spans.specs.declared.span_fault.SpanFault.TheVariants.{BadRange, CompressedChunk, CipheredChunk, Manifest, BlobFault, NotHeld, ShortNeedle, Memory}
use Rattle.entry.specs.Needles.{Needles, NeedleText, if_held, bytes_under, held_under, Counts}
use Rattle.spans.specs.Denotation.{byte_of, byte_at, bytes_by, chunk_seen_at, denoted}
use Rattle.spans.specs.Spans.{Adds, AreServed, IsServed, IsPlain, IsFaultOf, IsFaultSeen, IsMarkOf, HoldsWhole, StopsUnlessMemory}

bytes_by-append : (byte : ℕ → ℕ) (m n position : ℕ) → bytes_by byte position (m + n) ≡ bytes_by byte position m ++ bytes_by byte (position + m) n
bytes_by-append byte zero n position = ap (λ k. bytes_by byte position k) (let e : zero + n ≡ n = omega arith in e) ∙ ap (λ p. bytes_by byte p n) (let e : position ≡ position + zero = omega arith in e)
bytes_by-append byte (suc m) n position =
    ap (λ k. bytes_by byte position k) (let e : suc m + n ≡ suc (m + n) = omega arith in e)
    ∙ ap (λ bytes. byte position ∷ bytes) (bytes_by-append byte m n (position + 1) ∙ ap (λ p. bytes_by byte (position + 1) m ++ bytes_by byte p n) (let e : (position + 1) + m ≡ position + suc m = omega arith in e))

pub bytes_by-same : (one other : ℕ → ℕ) (n position : ℕ) → ((q : ℕ) → position ≤ q → q < position + n → one q ≡ other q) → bytes_by one position n ≡ bytes_by other position n
bytes_by-same one other zero position same = refl
bytes_by-same one other (suc n) position same =
    let first : one position ≡ other position = same position (omega arith) (omega arith) in
    let rest : bytes_by one (position + 1) n ≡ bytes_by other (position + 1) n = bytes_by-same one other n (position + 1) (λ q after before. same q (omega arith) (omega arith)) in
    ap (λ b. b ∷ bytes_by one (position + 1) n) first ∙ ap (λ bytes. other position ∷ bytes) rest

pub length-bytes_by : (byte : ℕ → ℕ) (n position : ℕ) → length (bytes_by byte position n) ≡ n
length-bytes_by byte zero position = refl
length-bytes_by byte (suc n) position = let e : length (bytes_by byte (position + 1) n) ≡ n = length-bytes_by byte n (position + 1) in omega arith

zeros_anywhere : (n p q : ℕ) → bytes_by (λ _. 0) p n ≡ bytes_by (λ _. 0) q n
zeros_anywhere zero p q = refl
zeros_anywhere (suc n) p q = ap (λ bytes. 0 ∷ bytes) (zeros_anywhere n (p + 1) (q + 1))

zeros_are : (n p : ℕ) → replicate n 0 ≡ bytes_by (λ _. 0) p n
zeros_are zero p = refl
zeros_are (suc n) p = ap (λ bytes. 0 ∷ bytes) (zeros_are n (p + 1))

pub zeros_behind : (old new : List ℕ) (had wanted count : ℕ) → length old ≡ had → new ≡ take wanted old ++ replicate (wanted - had) 0 → wanted ≡ had + count → new ≡ old ++ bytes_by (λ _. 0) 0 count
zeros_behind old new had wanted count had_is grown is =
    let many : wanted - had ≡ count = omega (arith, is) in
    grown ∙ ap (λ front. front ++ replicate (wanted - had) 0) (take_all wanted old (omega (arith, had_is, is)))
    ∙ ap (λ n. old ++ replicate n 0) many ∙ ap (λ zeros. old ++ zeros) (zeros_are count 0)

-- Bytes of a needle, as they are copied
copied : (needle : List ℕ) (offset n at : ℕ) → offset ≤ at → (at - offset) + n ≤ length needle
    → take n (drop (at - offset) needle) ≡ bytes_by (λ position. slice_index needle (position - offset)) at n
copied needle offset zero at after long = refl
copied needle offset (suc n) at after long =
    let inside : at - offset < length needle = omega arith in
    let step : (at - offset) + 1 ≡ (at + 1) - offset = omega arith in
    ap (take (suc n)) (drop_more needle (at - offset) 0 inside)
    ∙ ap (λ bytes. get_or needle (at - offset) 0 ∷ bytes) (ap (λ i. take n (drop i needle)) step ∙ copied needle offset n (at + 1) (omega arith) (omega arith))

-- What is held was put.
held_one : (is_held : Bool) (mine bytes : List ℕ) → cond is_held (Some mine) None ≡ Some bytes → Some mine ≡ Some bytes
held_one true mine bytes is = is
held_one false mine bytes is = absurd (none-some bytes is)

held_if : (kept : Option NeedleText) (bytes : List ℕ) → option_and_then if_held kept ≡ Some bytes → option_map (λ needle. needle.bytes) kept ≡ Some bytes
held_if None bytes is = absurd (none-some bytes is)
held_if (Some needle) bytes is = held_one needle.is_held needle.bytes bytes is

held_was_put : (needles : Needles) (chunk : Chunk) (bytes : List ℕ) → held_under needles chunk.fid ≡ Some bytes → bytes_under needles chunk.fid ≡ Some bytes
held_was_put needles chunk bytes is = held_if (needles chunk.fid) bytes is

needle_bytes : (told : Option Needles) (chunk : Chunk) (needle : List ℕ) (at n : ℕ) → chunk.offset ≤ at → (at - chunk.offset) + n ≤ length needle
    → IfSome told (λ needles. held_under needles chunk.fid ≡ Some needle)
    → IfSome told (λ needles. take n (drop (at - chunk.offset) needle) ≡ bytes_by (byte_of needles (Some chunk)) at n)
needle_bytes None chunk needle at n after long held = tt
needle_bytes (Some needles) chunk needle at n after long held =
    copied needle chunk.offset n at after long
    ∙ ap (λ o. bytes_by (λ position. slice_index (unwrap_or o []) (position - chunk.offset)) at n) (sym (held_was_put needles chunk needle held))

pub adds_needle : (told : Option Needles) (chunk : Chunk) (needle old new : List ℕ) (at to : ℕ) → chunk.offset ≤ at → at < to → to ≤ chunk.offset + chunk.size → chunk.size ≤ length needle
    → IfSome told (λ needles. held_under needles chunk.fid ≡ Some needle)
    → new ≡ old ++ take ((to - chunk.offset) - (at - chunk.offset)) (drop (at - chunk.offset) needle) → Adds told (Some chunk) at (to - at) old new
adds_needle told chunk needle old new at to after before within long held grown =
    let count : (to - chunk.offset) - (at - chunk.offset) ≡ to - at = omega arith in
    let fits : (at - chunk.offset) + (to - at) ≤ length needle = omega arith in
    record {
      added = take (to - at) (drop (at - chunk.offset) needle);
      grown = grown ∙ ap (λ n. old ++ take n (drop (at - chunk.offset) needle)) count;
      many = ap length (copied needle chunk.offset (to - at) at after fits) ∙ length-bytes_by _ (to - at) at;
      exact = needle_bytes told chunk needle at (to - at) after fits held;
    }

zero_bytes : (told : Option Needles) (at n : ℕ) → IfSome told (λ needles. bytes_by (λ _. 0) 0 n ≡ bytes_by (byte_of needles None) at n)
zero_bytes None at n = tt
zero_bytes (Some needles) at n = zeros_anywhere n 0 at

pub adds_zeros : (told : Option Needles) (old new : List ℕ) (at n : ℕ) → new ≡ old ++ bytes_by (λ _. 0) 0 n → Adds told None at n old new
adds_zeros told old new at n grown = record { added = bytes_by (λ _. 0) 0 n; grown = grown; many = length-bytes_by (λ _. 0) n 0; exact = zero_bytes told at n }

-- ---- One run more

grown_length : (from at to : ℕ) (old added new : List ℕ) → from + length old ≡ at → at ≤ to → new ≡ old ++ added → length added ≡ to - at → from + length new ≡ to
grown_length from at to old added new so_far ordered grown many =
    let e : length new ≡ length old + length added = ap length grown ∙ length-append old added in omega arith

pub run_length : (told : Option Needles) (seen : Option Chunk) (from at to : ℕ) (old new : List ℕ) → from + length old ≡ at → at < to → Adds told seen at (to - at) old new → from + length new ≡ to
run_length told seen from at to old new so_far ordered adds = grown_length from at to old adds.added new so_far (omega arith) adds.grown adds.many

run_denoted : (needles : Needles) (chunks : List Chunk) (seen : Option Chunk) (from at to : ℕ) (old added new : List ℕ) → from ≤ at → at < to
    → ((position : ℕ) → at ≤ position → position < to → chunk_seen_at chunks position ≡ seen)
    → old ≡ denoted needles chunks from at → new ≡ old ++ added → added ≡ bytes_by (byte_of needles seen) at (to - at) → new ≡ denoted needles chunks from to
run_denoted needles chunks seen from at to old added new start before same so_far grown exact =
    let whole : (at - from) + (to - at) ≡ to - from = omega arith in
    let here : from + (at - from) ≡ at = omega arith in
    let added_is : added ≡ bytes_by (byte_at needles chunks) at (to - at) =
    exact ∙ bytes_by-same (byte_of needles seen) (byte_at needles chunks) (to - at) at (λ q after end. ap (λ o. byte_of needles o q) (sym (same q after (omega arith)))) in
    grown ∙ ap (λ bytes. bytes ++ added) so_far ∙ ap (λ bytes. denoted needles chunks from at ++ bytes) added_is
    ∙ ap (λ p. denoted needles chunks from at ++ bytes_by (byte_at needles chunks) p (to - at)) (sym here)
    ∙ sym (bytes_by-append (byte_at needles chunks) (at - from) (to - at) from)
    ∙ ap (λ n. bytes_by (byte_at needles chunks) from n) whole

pub run_told : (told : Option Needles) (chunks : List Chunk) (seen : Option Chunk) (from at to : ℕ) (old new : List ℕ) → from ≤ at → at < to
    → ((position : ℕ) → at ≤ position → position < to → chunk_seen_at chunks position ≡ seen)
    → IfSome told (λ needles. old ≡ denoted needles chunks from at) → Adds told seen at (to - at) old new → IfSome told (λ needles. new ≡ denoted needles chunks from to)
run_told None chunks seen from at to old new start before same so_far adds = tt
run_told (Some needles) chunks seen from at to old new start before same so_far adds =
    run_denoted needles chunks seen from at to old adds.added new start before same so_far adds.grown adds.exact

pub run_served : (told : Option Needles) (chunks : List Chunk) (seen : Option Chunk) (from at to : ℕ)
    → ((position : ℕ) → at ≤ position → position < to → chunk_seen_at chunks position ≡ seen)
    → AreServed told chunks from at → IsServed told seen → AreServed told chunks from to
run_served told chunks seen from at to same so_far served position after before =
    elim (cases_lt position at) [
      | inl earlier ↦ so_far position after earlier
      | inr here ↦ subst (IsServed told) (sym (same position here before)) served
    ]

seen_stops : (told : Option Needles) (seen : Option Chunk) (fault : SpanFault) → IsFaultSeen told seen fault → (fault ≡ Memory) ⊎ IsSomeAnd seen (λ chunk. IsFaultOf told chunk fault)
seen_stops told None fault is = inl is
seen_stops told (Some chunk) fault is = inr is

pub run_stops : (told : Option Needles) (chunks : List Chunk) (seen : Option Chunk) (from at more to : ℕ) (fault : SpanFault) → from ≤ at → at < more → more ≤ to
    → ((position : ℕ) → at ≤ position → position < more → chunk_seen_at chunks position ≡ seen)
    → AreServed told chunks from at → IsFaultSeen told seen fault → StopsUnlessMemory told chunks from to fault
run_stops told chunks seen from at more to fault start before within same so_far is =
    elim (seen_stops told seen fault is) [
      | inl memory ↦ inl memory
      | inr here ↦ inr (record {
        position = at;
        after = start;
        before = omega arith;
        served = so_far;
        seen = subst (λ o. IsSomeAnd o (λ chunk. IsFaultOf told chunk fault)) (sym (same at (omega arith) before)) here;
      })
    ]

-- ---- A fetch

pub mark_is_fault : (told : Option Needles) (chunk : Chunk) (fault : SpanFault) → IsMarkOf chunk fault → IsFaultOf told chunk fault
mark_is_fault told chunk (CompressedChunk fid) is = is
mark_is_fault told chunk (CipheredChunk fid) is = is
mark_is_fault told chunk (Manifest fid) is = is
mark_is_fault told chunk BadRange is = absurd is
mark_is_fault told chunk Memory is = absurd is
mark_is_fault told chunk BlobFault is = absurd is
mark_is_fault told chunk (NotHeld fid) is = absurd is
mark_is_fault told chunk (ShortNeedle fid want got) is = absurd is

served_told : (told : Option Needles) (chunk : Chunk) (needle : List ℕ) → chunk.size ≤ length needle → IfSome told (λ needles. held_under needles chunk.fid ≡ Some needle) → IfSome told (λ needles. HoldsWhole needles chunk)
served_told None chunk needle long held = tt
served_told (Some needles) chunk needle long held = subst (λ o. IsSomeAnd o (λ bytes. chunk.size ≤ length bytes)) (sym held) long

pub chunk_served : (told : Option Needles) (chunk : Chunk) (needle : List ℕ) → IsPlain chunk → chunk.size ≤ length needle → IfSome told (λ needles. held_under needles chunk.fid ≡ Some needle) → IsServed told (Some chunk)
chunk_served told chunk needle plain long held = (plain, served_told told chunk needle long held)

short_told : (told : Option Needles) (chunk : Chunk) (needle : List ℕ) → IfSome told (λ needles. held_under needles chunk.fid ≡ Some needle) → IfSome told (λ needles. IsSomeAnd (held_under needles chunk.fid) (λ bytes. length bytes ≡ length needle))
short_told None chunk needle held = tt
short_told (Some needles) chunk needle held = subst (λ o. IsSomeAnd o (λ bytes. length bytes ≡ length needle)) (sym held) refl

pub short_is_fault : (told : Option Needles) (chunk : Chunk) (needle : List ℕ) (fault : SpanFault) → IsPlain chunk → IfSome told (λ needles. held_under needles chunk.fid ≡ Some needle)
    → (fault ≡ ShortNeedle chunk.fid chunk.size (length needle)) × (length needle < chunk.size) → IsFaultOf told chunk fault
short_is_fault told chunk needle fault plain held is =
    subst (IsFaultOf told chunk) (sym is.0) (refl, plain, refl, is.1, short_told told chunk needle held)

-- ---- Counts

pub counts_on : (one two three : ℕ) (Fault : Type 0) → Counts one two ⊥ → Counts two three Fault → Counts one three ⊥
counts_on one two three Fault first next = record { later = omega (arith, first.later, next.later); rose = λ no. absurd no }
