-- What is seen in a range is seen of the chunks that have a position there.
use Rattle.std.proofs.Common.{◌≡◌, ℕ, ◌+◌, ◌-◌, ◌<◌, ◌≤◌, Bool, true, false, cond, List, [], ◌∷◌, filter, Option, None, Some, refl, sym, ap, ◌∙◌, subst, inl, inr, arith}
use Rattle.std.specs.Prelude.{option_map, nat_lt, IfSome, IsSomeAnd}
use Rattle.std.proofs.lemmas.Bool.{lt-ltb, false≢true}
use Rattle.entry.specs.declared.chunk.Chunk.{Chunk}
use Rattle.entry.specs.Needles.{Needles}
use Rattle.spans.specs.declared.span_fault.SpanFault.{SpanFault}
use Rattle.spans.specs.Denotation.{covers, is_near, Placed, placed_from, newer, newest, chunk_seen_at, byte_of, byte_at, denoted}
use Rattle.spans.specs.Spans.{AreServed, IsServed, IsFaultOf, StopsUnlessMemory}
use Rattle.spans.proofs.Runs.{covered_by}
use Rattle.spans.proofs.Spans.{bytes_by-same}

-- The chunk of the newest, by the chunks alone
abbrev chunk_of : Option Placed → Option Chunk
chunk_of seen = option_map (λ placed. placed.chunk) seen

abbrev newer_chunk : Chunk → Option Chunk → Chunk
newer_chunk one None = one
newer_chunk one (Some behind) = cond (nat_lt behind.modified one.modified) one behind

newer_is : (one : Placed) (rest : Option Placed) → (newer one rest).chunk ≡ newer_chunk one.chunk (chunk_of rest)
newer_is one None = refl
newer_is one (Some behind) =
    elim (nat_lt behind.chunk.modified one.chunk.modified) as (λ b. (cond b one behind).chunk ≡ cond b one.chunk behind.chunk) [ true ↦ refl | false ↦ refl ]

same_top : (x : Chunk) (i j : ℕ) (here there : List Placed) → chunk_of (newest here) ≡ chunk_of (newest there)
    → chunk_of (newest (record { chunk = x; place = i } ∷ here)) ≡ chunk_of (newest (record { chunk = x; place = j } ∷ there))
same_top x i j here there same =
    ap Some (newer_is (record { chunk = x; place = i }) (newest here) ∙ ap (newer_chunk x) same ∙ sym (newer_is (record { chunk = x; place = j }) (newest there)))

-- One chunk more, whose test is known
same_more : (x : Chunk) (i j : ℕ) (here there : List Placed) (test : Bool) → chunk_of (newest here) ≡ chunk_of (newest there)
    → chunk_of (newest (cond test (record { chunk = x; place = i } ∷ here) here)) ≡ chunk_of (newest (cond test (record { chunk = x; place = j } ∷ there) there))
same_more x i j here there true same = same_top x i j here there same
same_more x i j here there false same = same

-- Those that cover a position
abbrev covering : ℕ → ℕ → List Chunk → List Placed
covering p i xs = filter (λ placed. covers p placed.chunk) (placed_from i xs)

not_true : (b : Bool) → (b ≡ true → ⊥) → b ≡ false
not_true true never = absurd (never refl)
not_true false never = refl

near_more : (p : ℕ) (near : Chunk → Bool) → ((x : Chunk) → covers p x ≡ true → near x ≡ true) → (i j : ℕ) (x : Chunk) (xs : List Chunk) (test : Bool) → near x ≡ test
    → ((k : ℕ) → chunk_of (newest (covering p k (filter near xs))) ≡ chunk_of (newest (covering p (j + 1) xs)))
    → chunk_of (newest (covering p i (cond test (x ∷ filter near xs) (filter near xs)))) ≡ chunk_of (newest (covering p j (x ∷ xs)))
near_more p near holds i j x xs true is rest = same_more x i j (covering p (i + 1) (filter near xs)) (covering p (j + 1) xs) (covers p x) (rest (i + 1))
near_more p near holds i j x xs false is rest =
    let others : List Placed = covering p (j + 1) xs in
    let out : covers p x ≡ false = not_true (covers p x) (λ covered. false≢true (sym is ∙ holds x covered)) in
    rest i ∙ sym (ap (λ test. chunk_of (newest (cond test (record { chunk = x; place = j } ∷ others) others))) out)

near_all : (p : ℕ) (near : Chunk → Bool) → ((x : Chunk) → covers p x ≡ true → near x ≡ true) → (i j : ℕ) (xs : List Chunk)
    → chunk_of (newest (covering p i (filter near xs))) ≡ chunk_of (newest (covering p j xs))
near_all p near holds i j [] = refl
near_all p near holds i j (x ∷ xs) = near_more p near holds i j x xs (near x) refl (λ k. near_all p near holds k (j + 1) xs)

near_holds : (from to p : ℕ) (x : Chunk) → from ≤ p → p < to → covers p x ≡ true → is_near from to x ≡ true
near_holds from to p x after before covered =
    let over = covered_by p x covered in
    rw (lt-ltb x.offset to (omega (arith, over.0)), lt-ltb (from - x.offset) x.size (omega (arith, over.0, over.1))) refl

near_seen : (chunks : List Chunk) (from to p : ℕ) → from ≤ p → p < to → chunk_seen_at (filter (is_near from to) chunks) p ≡ chunk_seen_at chunks p
near_seen chunks from to p after before = near_all p (is_near from to) (λ x covered. near_holds from to p x after before covered) 0 0 chunks

denoted_near : (needles : Needles) (chunks : List Chunk) (from to : ℕ) → from ≤ to → denoted needles (filter (is_near from to) chunks) from to ≡ denoted needles chunks from to
denoted_near needles chunks from to ordered =
    bytes_by-same (byte_at needles (filter (is_near from to) chunks)) (byte_at needles chunks) (to - from) from
    (λ q after end. ap (λ seen. byte_of needles seen q) (near_seen chunks from to q after (omega arith)))

pub bytes_near : (told : Option Needles) (chunks near : List Chunk) (from to : ℕ) (bytes : List ℕ) → from ≤ to → near ≡ filter (is_near from to) chunks
    → IfSome told (λ needles. bytes ≡ denoted needles near from to) → IfSome told (λ needles. bytes ≡ denoted needles chunks from to)
bytes_near None chunks near from to bytes ordered near_is bytes_are = tt
bytes_near (Some needles) chunks near from to bytes ordered near_is bytes_are =
    bytes_are ∙ ap (λ cs. denoted needles cs from to) near_is ∙ denoted_near needles chunks from to ordered

pub seen_alike : (chunks near : List Chunk) (from to p : ℕ) → near ≡ filter (is_near from to) chunks → from ≤ p → p < to → chunk_seen_at near p ≡ chunk_seen_at chunks p
seen_alike chunks near from to p near_is after before = ap (λ cs. chunk_seen_at cs p) near_is ∙ near_seen chunks from to p after before

pub served_near : (told : Option Needles) (chunks near : List Chunk) (from to end : ℕ) → near ≡ filter (is_near from to) chunks → end ≤ to → AreServed told near from end → AreServed told chunks from end
served_near told chunks near from to end near_is within served p after before =
    subst (IsServed told) (seen_alike chunks near from to p near_is after (omega arith)) (served p after before)

pub stops_near : (told : Option Needles) (chunks near : List Chunk) (from to : ℕ) (fault : SpanFault) → near ≡ filter (is_near from to) chunks
    → StopsUnlessMemory told near from to fault → StopsUnlessMemory told chunks from to fault
stops_near told chunks near from to fault near_is (inl memory) = inl memory
stops_near told chunks near from to fault near_is (inr at) = inr (record {
  position = at.position;
  after = at.after;
  before = at.before;
  served = served_near told chunks near from to at.position near_is (omega (arith, at.before)) at.served;
  seen = subst (λ seen. IsSomeAnd seen (λ chunk. IsFaultOf told chunk fault)) (seen_alike chunks near from to at.position near_is at.after at.before) at.seen;
})
