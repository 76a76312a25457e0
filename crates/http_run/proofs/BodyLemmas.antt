-- A body is read one way.
use Rattle.std.proofs.Common.{◌≡◌, ℕ, zero, suc, ◌-◌, List, [], ◌∷◌, ◌++◌, length, drop, codes, refl, sym, ap, subst, ◌∙◌, arith, append-nil, inl, inr, ◌⊎◌}
use Rattle.http_bodies.specs.declared.stage.Stage.{Stage}
use Rattle.http_bodies.specs.declared.stage.Stage.TheVariants.{Length, Over, Line, Chunk, Trailers}
use Rattle.http_bodies.specs.declared.fault.BodyFault.TheVariants.{Cut, BadChunk, TooLong}
use Rattle.http_bodies.specs.Stage.{behind_line}
use Rattle.http_bodies.specs.Mark.{BeginsWithMark}
use Rattle.http_bodies.specs.Body.{BodyEnd, Whole, Refused, Leads, line, chunk_end, last, trailer, IsCut, IsBad, IsOver, StandsFor, nothing_left, byte_by_length, byte_of_chunk, mark, cut, bad, over}
use Rattle.http_run.proofs.MarkLemmas.{line_once, end_once, bare_end}

-- what a body is by a mark, and by what comes in a mark's place
abbrev Marked : Stage → List ℕ → List ℕ → BodyEnd → Type 0
Marked stage bytes payload end =
    ((text : List ℕ) × (rest : List ℕ) × (next : Stage) × Leads stage text next × (bytes ≡ text ++ rest) × StandsFor next rest payload end)
    ⊎ (IsCut stage bytes × (payload ≡ []) × (end ≡ Refused Cut))
    ⊎ (IsBad stage bytes × (payload ≡ []) × (end ≡ Refused BadChunk))
    ⊎ (IsOver stage bytes × (payload ≡ []) × (end ≡ Refused TooLong))

-- what a body is, by where it stands
abbrev Step : Stage → List ℕ → List ℕ → BodyEnd → Type 0
Step (Length zero) bytes payload end = (payload ≡ []) × (end ≡ Whole bytes)
Step (Length (suc count)) [] payload end = (payload ≡ []) × (end ≡ Refused Cut)
Step (Length (suc count)) (b ∷ bytes) payload end = (more : List ℕ) × (payload ≡ b ∷ more) × StandsFor (Length count) bytes more end
Step Over bytes payload end = (payload ≡ []) × (end ≡ Refused TooLong)
Step (Line allowed) bytes payload end = Marked (Line allowed) bytes payload end
Step (Chunk zero allowed) bytes payload end = Marked (Chunk 0 allowed) bytes payload end
Step (Chunk (suc left) allowed) [] payload end = (payload ≡ []) × (end ≡ Refused Cut)
Step (Chunk (suc left) allowed) (b ∷ bytes) payload end = (more : List ℕ) × (payload ≡ b ∷ more) × StandsFor (Chunk left allowed) bytes more end
Step (Trailers room) bytes payload end = Marked (Trailers room) bytes payload end

step_marked : (stage : Stage) (text : List ℕ) (next : Stage) (bytes rest payload : List ℕ) (end : BodyEnd) → Leads stage text next → bytes ≡ text ++ rest → StandsFor next rest payload end → Step stage bytes payload end
step_marked _ text _ bytes rest payload end (line size allowed _ valid within) split stands = inl (text, rest, behind_line size allowed, line size allowed text valid within, split, stands)
step_marked _ text _ bytes rest payload end (chunk_end allowed) split stands = inl (text, rest, Line allowed, chunk_end allowed, split, stands)
step_marked _ text _ bytes rest payload end (last room) split stands = inl (text, rest, Length 0, last room, split, stands)
step_marked _ text _ bytes rest payload end (trailer room count _ valid some within) split stands = inl (text, rest, Trailers (room - length text), trailer room count text valid some within, split, stands)

step_cut : (stage : Stage) (bytes : List ℕ) → IsCut stage bytes → Step stage bytes [] (Refused Cut)
step_cut (Length zero) bytes is = absurd is
step_cut (Length (suc count)) [] is = (refl, refl)
step_cut (Length (suc count)) (b ∷ bytes) is = absurd (omega (arith, ap length is))
step_cut Over bytes is = absurd is
step_cut (Line allowed) bytes is = inr (inl (is, refl, refl))
step_cut (Chunk zero allowed) bytes is = inr (inl (is, refl, refl))
step_cut (Chunk (suc left) allowed) [] is = (refl, refl)
step_cut (Chunk (suc left) allowed) (b ∷ bytes) is = absurd (omega (arith, ap length is))
step_cut (Trailers room) bytes is = inr (inl (is, refl, refl))

step_bad : (stage : Stage) (bytes : List ℕ) → IsBad stage bytes → Step stage bytes [] (Refused BadChunk)
step_bad (Length count) bytes is = absurd is
step_bad Over bytes is = absurd is
step_bad (Line allowed) bytes is = inr (inr (inl (is, refl, refl)))
step_bad (Chunk zero allowed) bytes is = inr (inr (inl (is, refl, refl)))
step_bad (Chunk (suc left) allowed) bytes is = absurd is
step_bad (Trailers room) bytes is = inr (inr (inl (is, refl, refl)))

step_over : (stage : Stage) (bytes : List ℕ) → IsOver stage bytes → Step stage bytes [] (Refused TooLong)
step_over (Length count) bytes is = absurd is
step_over Over bytes is = (refl, refl)
step_over (Line allowed) bytes is = inr (inr (inr (is, refl, refl)))
step_over (Chunk left allowed) bytes is = absurd is
step_over (Trailers room) bytes is = absurd is

-- each body is by its stage
step : (stage : Stage) (bytes payload : List ℕ) (end : BodyEnd) → StandsFor stage bytes payload end → Step stage bytes payload end
step _ _ _ _ (nothing_left bytes) = (refl, refl)
step _ _ _ _ (byte_by_length count byte bytes payload end stands) = (payload, refl, stands)
step _ _ _ _ (byte_of_chunk left allowed byte bytes payload end stands) = (payload, refl, stands)
step _ _ _ _ (mark stage next bytes text rest payload end split leads stands) = step_marked stage text next bytes rest payload end leads split stands
step _ _ _ _ (cut stage bytes is) = step_cut stage bytes is
step _ _ _ _ (bad stage bytes is) = step_bad stage bytes is
step _ _ _ _ (over stage bytes is) = step_over stage bytes is

-- what leads on is a mark in front
begins : (stage : Stage) (text : List ℕ) (next : Stage) (bytes rest : List ℕ) → Leads stage text next → bytes ≡ text ++ rest → BeginsWithMark stage bytes
begins _ text _ bytes rest (line size allowed _ valid within) split = (text, rest, (size, valid), split)
begins _ text _ bytes rest (chunk_end allowed) split = (text, rest, refl, split)
begins _ text _ bytes rest (last room) split = (text, rest, (0, bare_end, inl refl), split)
begins _ text _ bytes rest (trailer room count _ valid some within) split = (text, rest, (count, valid, inr within), split)

-- in the place of a mark nothing else stands
not_cut : (stage : Stage) (text : List ℕ) (next : Stage) (bytes rest : List ℕ) → Leads stage text next → bytes ≡ text ++ rest → ¬ IsCut stage bytes
not_cut _ text _ bytes rest (line size allowed _ valid within) split is = is.0 (begins (Line allowed) text (behind_line size allowed) bytes rest (line size allowed text valid within) split)
not_cut _ text _ bytes rest (chunk_end allowed) split is = is.0 (begins (Chunk 0 allowed) text (Line allowed) bytes rest (chunk_end allowed) split)
not_cut _ text _ bytes rest (last room) split is = is.0 (begins (Trailers room) text (Length 0) bytes rest (last room) split)
not_cut _ text _ bytes rest (trailer room count _ valid some within) split is = is.0 (begins (Trailers room) text (Trailers (room - length text)) bytes rest (trailer room count text valid some within) split)

never_now : (stage : Stage) (bytes : List ℕ) → ((more : List ℕ) → ¬ BeginsWithMark stage (bytes ++ more)) → ¬ BeginsWithMark stage bytes
never_now stage bytes never begun = never [] (subst (BeginsWithMark stage) (sym (append-nil bytes)) begun)

not_bad : (stage : Stage) (text : List ℕ) (next : Stage) (bytes rest : List ℕ) → Leads stage text next → bytes ≡ text ++ rest → ¬ IsBad stage bytes
not_bad _ text _ bytes rest (line size allowed _ valid within) split is = never_now (Line allowed) bytes is (begins (Line allowed) text (behind_line size allowed) bytes rest (line size allowed text valid within) split)
not_bad _ text _ bytes rest (chunk_end allowed) split is = never_now (Chunk 0 allowed) bytes is (begins (Chunk 0 allowed) text (Line allowed) bytes rest (chunk_end allowed) split)
not_bad _ text _ bytes rest (last room) split is = never_now (Trailers room) bytes is (begins (Trailers room) text (Length 0) bytes rest (last room) split)
not_bad _ text _ bytes rest (trailer room count _ valid some within) split is = never_now (Trailers room) bytes is (begins (Trailers room) text (Trailers (room - length text)) bytes rest (trailer room count text valid some within) split)

not_over : (stage : Stage) (text : List ℕ) (next : Stage) (bytes rest : List ℕ) → Leads stage text next → bytes ≡ text ++ rest → ¬ IsOver stage bytes
not_over _ text _ bytes rest (line size allowed _ valid within) split (most, other, behind, stated, past, parted) =
    let same = line_once bytes text other rest behind size most valid split stated parted in
    absurd (omega (arith, within, past, same.0))
not_over _ text _ bytes rest (chunk_end allowed) split is = is
not_over _ text _ bytes rest (last room) split is = is
not_over _ text _ bytes rest (trailer room count _ valid some within) split is = is

-- two marks in front lead the same way
leads_once : (stage : Stage) (one : List ℕ) (next : Stage) (two : List ℕ) (other : Stage) (bytes rest behind : List ℕ) → Leads stage one next → bytes ≡ one ++ rest → Leads stage two other → bytes ≡ two ++ behind → (next ≡ other) × (rest ≡ behind)
leads_once _ one _ two _ bytes rest behind (line size allowed _ valid within) split (line count _ _ stated small) parted =
    let same = line_once bytes one two rest behind size count valid split stated parted in
    (ap (λ n. behind_line n allowed) same.0, same.1)
leads_once _ one _ two _ bytes rest behind (chunk_end allowed) split (chunk_end _) parted = (refl, ap (drop 2) (sym split ∙ parted))
leads_once _ one _ two _ bytes rest behind (last room) split (last _) parted = (refl, ap (drop 2) (sym split ∙ parted))
leads_once _ one _ two _ bytes rest behind (trailer room count _ valid some within) split (trailer _ size _ stated any small) parted =
    let same = end_once bytes one two rest behind count size valid split stated parted in
    (ap (λ n. Trailers (room - n)) (omega (arith, valid.ends, stated.ends, same.0)), same.1)
leads_once _ one _ two _ bytes rest behind (last room) split (trailer _ size _ stated any small) parted =
    let same = end_once bytes (codes "\r\n") two rest behind 0 size bare_end split stated parted in
    absurd (omega (arith, same.0, any))
leads_once _ one _ two _ bytes rest behind (trailer room count _ valid some within) split (last _) parted =
    let same = end_once bytes one (codes "\r\n") rest behind count 0 valid split bare_end parted in
    absurd (omega (arith, same.0, some))

as_marked : (stage : Stage) (text : List ℕ) (next : Stage) (bytes payload : List ℕ) (end : BodyEnd) → Leads stage text next → Step stage bytes payload end → Marked stage bytes payload end
as_marked _ text _ bytes payload end (line size allowed _ valid within) is = is
as_marked _ text _ bytes payload end (chunk_end allowed) is = is
as_marked _ text _ bytes payload end (last room) is = is
as_marked _ text _ bytes payload end (trailer room count _ valid some within) is = is

-- a line that says too much is a mark
over_begins : (allowed : ℕ) (bytes : List ℕ) → IsOver (Line allowed) bytes → BeginsWithMark (Line allowed) bytes
over_begins allowed bytes (size, text, rest, valid, past, split) = (text, rest, (size, valid), split)

-- what comes in a mark's place is one thing
cut_marked : (stage : Stage) (bytes payload : List ℕ) (end : BodyEnd) → IsCut stage bytes → ((begun : BeginsWithMark stage bytes) → ⊥) → (IsBad stage bytes → ⊥) → (IsOver stage bytes → ⊥) → Marked stage bytes payload end → (payload ≡ []) × (end ≡ Refused Cut)
cut_marked stage bytes payload end is none spoilt past (inl (text, rest, next, leads, split, stands)) = absurd (none (begins stage text next bytes rest leads split))
cut_marked stage bytes payload end is none spoilt past (inr (inl (same, nothing, ends))) = (nothing, ends)
cut_marked stage bytes payload end is none spoilt past (inr (inr (inl (other, nothing, ends)))) = absurd (spoilt other)
cut_marked stage bytes payload end is none spoilt past (inr (inr (inr (other, nothing, ends)))) = absurd (past other)

cut_only : (stage : Stage) (bytes payload : List ℕ) (end : BodyEnd) → IsCut stage bytes → Step stage bytes payload end → (payload ≡ []) × (end ≡ Refused Cut)
cut_only (Length zero) bytes payload end is known = absurd is
cut_only (Length (suc count)) [] payload end is known = known
cut_only (Length (suc count)) (b ∷ bytes) payload end is known = absurd (omega (arith, ap length is))
cut_only Over bytes payload end is known = absurd is
cut_only (Line allowed) bytes payload end is known =
    cut_marked (Line allowed) bytes payload end is is.0 (λ never. never is.1.0 is.1.1) (λ past. is.0 (over_begins allowed bytes past)) known
cut_only (Chunk zero allowed) bytes payload end is known = cut_marked (Chunk 0 allowed) bytes payload end is is.0 (λ never. never is.1.0 is.1.1) (λ past. past) known
cut_only (Chunk (suc left) allowed) [] payload end is known = known
cut_only (Chunk (suc left) allowed) (b ∷ bytes) payload end is known = absurd (omega (arith, ap length is))
cut_only (Trailers room) bytes payload end is known = cut_marked (Trailers room) bytes payload end is is.0 (λ never. never is.1.0 is.1.1) (λ past. past) known

bad_marked : (stage : Stage) (bytes payload : List ℕ) (end : BodyEnd) → ((begun : BeginsWithMark stage bytes) → ⊥) → (IsCut stage bytes → ⊥) → (IsOver stage bytes → ⊥) → Marked stage bytes payload end → (payload ≡ []) × (end ≡ Refused BadChunk)
bad_marked stage bytes payload end none torn past (inl (text, rest, next, leads, split, stands)) = absurd (none (begins stage text next bytes rest leads split))
bad_marked stage bytes payload end none torn past (inr (inl (other, nothing, ends))) = absurd (torn other)
bad_marked stage bytes payload end none torn past (inr (inr (inl (same, nothing, ends)))) = (nothing, ends)
bad_marked stage bytes payload end none torn past (inr (inr (inr (other, nothing, ends)))) = absurd (past other)

bad_only : (stage : Stage) (bytes payload : List ℕ) (end : BodyEnd) → IsBad stage bytes → Step stage bytes payload end → (payload ≡ []) × (end ≡ Refused BadChunk)
bad_only (Length count) bytes payload end is known = absurd is
bad_only Over bytes payload end is known = absurd is
bad_only (Line allowed) bytes payload end is known =
    bad_marked (Line allowed) bytes payload end (never_now (Line allowed) bytes is) (λ torn. is torn.1.0 torn.1.1) (λ past. never_now (Line allowed) bytes is (over_begins allowed bytes past)) known
bad_only (Chunk zero allowed) bytes payload end is known = bad_marked (Chunk 0 allowed) bytes payload end (never_now (Chunk 0 allowed) bytes is) (λ torn. is torn.1.0 torn.1.1) (λ past. past) known
bad_only (Chunk (suc left) allowed) bytes payload end is known = absurd is
bad_only (Trailers room) bytes payload end is known = bad_marked (Trailers room) bytes payload end (never_now (Trailers room) bytes is) (λ torn. is torn.1.0 torn.1.1) (λ past. past) known

over_marked : (allowed : ℕ) (bytes payload : List ℕ) (end : BodyEnd) → IsOver (Line allowed) bytes → Marked (Line allowed) bytes payload end → (payload ≡ []) × (end ≡ Refused TooLong)
over_marked allowed bytes payload end is (inl (text, rest, next, leads, split, stands)) = absurd (not_over (Line allowed) text next bytes rest leads split is)
over_marked allowed bytes payload end (size, text, rest, valid, past, split) (inr (inl (torn, nothing, ends))) = absurd (torn.0 (text, rest, (size, valid), split))
over_marked allowed bytes payload end (size, text, rest, valid, past, split) (inr (inr (inl (never, nothing, ends)))) = absurd (never_now (Line allowed) bytes never (text, rest, (size, valid), split))
over_marked allowed bytes payload end is (inr (inr (inr (same, nothing, ends)))) = (nothing, ends)

over_only : (stage : Stage) (bytes payload : List ℕ) (end : BodyEnd) → IsOver stage bytes → Step stage bytes payload end → (payload ≡ []) × (end ≡ Refused TooLong)
over_only (Length count) bytes payload end is known = absurd is
over_only Over bytes payload end is known = known
over_only (Line allowed) bytes payload end is known = over_marked allowed bytes payload end is known
over_only (Chunk left allowed) bytes payload end is known = absurd is
over_only (Trailers room) bytes payload end is known = absurd is

-- a body is read one way
pub one_way : (stage : Stage) (bytes one : List ℕ) (end : BodyEnd) (two : List ℕ) (other : BodyEnd) → StandsFor stage bytes one end → StandsFor stage bytes two other → (one ≡ two) × (end ≡ other)
one_way _ _ _ _ two other (nothing_left bytes) second =
    let is = step (Length 0) bytes two other second in (sym is.0, sym is.1)
one_way _ _ _ _ two other (byte_by_length count byte bytes payload end stands) second =
    let is = step (Length (suc count)) (byte ∷ bytes) two other second in
    let later = one_way (Length count) bytes payload end is.0 other stands is.2 in
    (ap (λ xs. byte ∷ xs) later.0 ∙ sym is.1, later.1)
one_way _ _ _ _ two other (byte_of_chunk left allowed byte bytes payload end stands) second =
    let is = step (Chunk (suc left) allowed) (byte ∷ bytes) two other second in
    let later = one_way (Chunk left allowed) bytes payload end is.0 other stands is.2 in
    (ap (λ xs. byte ∷ xs) later.0 ∙ sym is.1, later.1)
one_way _ _ _ _ two other (mark stage next bytes text rest payload end split leads stands) second =
    behind (λ later. one_way next rest payload end two other stands later) (as_marked stage text next bytes two other leads (step stage bytes two other second))
  where
    behind : (StandsFor next rest two other → (payload ≡ two) × (end ≡ other)) → Marked stage bytes two other → (payload ≡ two) × (end ≡ other)
    behind on (inl (text', rest', next', leads', split', stands')) =
        let same = leads_once stage text next text' next' bytes rest rest' leads split leads' split' in
        on (subst (λ s. StandsFor s rest two other) (sym same.0) (subst (λ xs. StandsFor next' xs two other) (sym same.1) stands'))
    behind on (inr (inl (is, _, _))) = absurd (not_cut stage text next bytes rest leads split is)
    behind on (inr (inr (inl (is, _, _)))) = absurd (not_bad stage text next bytes rest leads split is)
    behind on (inr (inr (inr (is, _, _)))) = absurd (not_over stage text next bytes rest leads split is)
one_way _ _ _ _ two other (cut stage bytes is) second =
    let s = cut_only stage bytes two other is (step stage bytes two other second) in (sym s.0, sym s.1)
one_way _ _ _ _ two other (bad stage bytes is) second =
    let s = bad_only stage bytes two other is (step stage bytes two other second) in (sym s.0, sym s.1)
one_way _ _ _ _ two other (over stage bytes is) second =
    let s = over_only stage bytes two other is (step stage bytes two other second) in (sym s.0, sym s.1)
