-- Stretches, laid over one another.
use Rattle.std.proofs.Common.{◌≡◌, ℕ, ◌+◌, ◌<◌, ◌≤◌, min, Bool, true, false, cond, List, [], ◌∷◌, ◌++◌, length, filter, Option, None, Some, refl, sym, ap, ◌∙◌, inl, inr, ◌⊎◌, arith, get_or}
use Rattle.std.specs.Prelude.{option_map, nat_lt}
use Rattle.std.proofs.lemmas.Bool.{lt-ltb, le-ltb, cases_lt}
use Rattle.std.proofs.lemmas.List.Elements.{filter-append}
use Rattle.entry.specs.declared.chunk.Chunk.{Chunk}
use Rattle.spans.specs.declared.stretch.Seen.{Seen}
use Rattle.spans.specs.declared.stretch.Stretch.{Stretch}
use Rattle.spans.specs.Denotation.{covers, Placed, placed_from, newer, newest}
use Rattle.spans.specs.Stretches.{mark, topmost, seen_in, mark_seen, AreStretches}

-- ---- One list behind another

-- what is seen of one behind another
pub seen_in-append : (xs ys : List Stretch) (past : Option Seen) (p : ℕ) → seen_in (xs ++ ys) past p ≡ seen_in xs (seen_in ys past p) p
seen_in-append [] ys past p = refl
seen_in-append (x ∷ xs) ys past p = ap (cond (nat_lt p x.to) x.seen) (seen_in-append xs ys past p)

pub topmost_none : (one : Option Seen) → topmost one None ≡ one
topmost_none None = refl
topmost_none (Some one) = refl

-- before the first one's end, and behind it
pub seen_first : (xs : List Stretch) (past : Option Seen) (p : ℕ) (d : Stretch) → 0 < length xs → p < (get_or xs 0 d).to → seen_in xs past p ≡ (get_or xs 0 d).seen
seen_first [] past p d some before = absurd (omega (arith, some))
seen_first (x ∷ xs) past p d some before = rw (lt-ltb p x.to before) refl

-- One stretch more of both
pub overlay_more : (made below above below_rest above_rest : List Stretch) (first d : Stretch) (p : ℕ) → 0 < length below → 0 < length above
    → first.to ≡ min (get_or below 0 d).to (get_or above 0 d).to → first.seen ≡ topmost (get_or below 0 d).seen (get_or above 0 d).seen
    → (first.to ≤ p → seen_in below_rest None p ≡ seen_in below None p) → (first.to ≤ p → seen_in above_rest None p ≡ seen_in above None p)
    → seen_in (made ++ first ∷ []) (topmost (seen_in below_rest None p) (seen_in above_rest None p)) p ≡ seen_in made (topmost (seen_in below None p) (seen_in above None p)) p
overlay_more made below above below_rest above_rest first d p below_some above_some to_is seen_is below_same above_same =
    let rest : Option Seen = topmost (seen_in below_rest None p) (seen_in above_rest None p) in
    let whole : Option Seen = topmost (seen_in below None p) (seen_in above None p) in
    let here : cond (nat_lt p first.to) first.seen rest ≡ whole =
    elim (cases_lt p first.to) [
      | inl before ↦ ap (λ test. cond test first.seen rest) (lt-ltb p first.to before) ∙ seen_is
          ∙ ap (λ o. topmost o (get_or above 0 d).seen) (sym (seen_first below None p d below_some (omega arith)))
          ∙ ap (topmost (seen_in below None p)) (sym (seen_first above None p d above_some (omega arith)))
      | inr after ↦ ap (λ test. cond test first.seen rest) (le-ltb p first.to after)
          ∙ ap (λ o. topmost o (seen_in above_rest None p)) (below_same after) ∙ ap (topmost (seen_in below None p)) (above_same after)
    ] in
    seen_in-append made (first ∷ []) rest p ∙ ap (λ o. seen_in made o p) here

-- The rest of the one that has more, where the other has none
pub overlay_rest : (made below above : List Stretch) (p : ℕ) → (length below ≡ 0) ⊎ (length above ≡ 0)
    → seen_in ((made ++ below) ++ above) None p ≡ seen_in made (topmost (seen_in below None p) (seen_in above None p)) p
overlay_rest made [] above p ends = seen_in-append (made ++ []) above None p ∙ seen_in-append made [] (seen_in above None p) p
overlay_rest made (x ∷ below) [] p ends =
    seen_in-append (made ++ (x ∷ below)) [] None p ∙ seen_in-append made (x ∷ below) None p
    ∙ ap (λ o. seen_in made o p) (sym (topmost_none (seen_in (x ∷ below) None p)))
overlay_rest made (x ∷ below) (y ∷ above) p (inl none) = absurd (omega (arith, none))
overlay_rest made (x ∷ below) (y ∷ above) p (inr none) = absurd (omega (arith, none))

-- ---- Chunks, in two parts

placed-append : (place : ℕ) (xs ys : List Chunk) → placed_from place (xs ++ ys) ≡ placed_from place xs ++ placed_from (place + length xs) ys
placed-append place [] ys = ap (λ n. placed_from n ys) (let e : place ≡ place + 0 = omega arith in e)
placed-append place (x ∷ xs) ys =
    ap (λ ps. record { chunk = x; place = place } ∷ ps) (placed-append (place + 1) xs ys
    ∙ ap (λ n. placed_from (place + 1) xs ++ placed_from n ys) (let e : (place + 1) + length xs ≡ place + length (x ∷ xs) = omega arith in e))

-- The newest of two, of which there may be none
abbrev over : Option Placed → Option Placed → Option Placed
over None behind = behind
over (Some one) behind = Some (newer one behind)

in_a_row : (one two last : Placed) → newer one (Some (newer two (Some last))) ≡ newer (newer one (Some two)) (Some last)
in_a_row one two last = grind arith

over-next : (one : Placed) (rest behind : Option Placed) → newer one (over rest behind) ≡ newer (newer one rest) behind
over-next one None behind = refl
over-next one (Some two) None = refl
over-next one (Some two) (Some last) = in_a_row one two last

newest-append : (xs ys : List Placed) → newest (xs ++ ys) ≡ over (newest xs) (newest ys)
newest-append [] ys = refl
newest-append (x ∷ xs) ys = ap (λ o. Some (newer x o)) (newest-append xs ys) ∙ ap Some (over-next x (newest xs) (newest ys))

mark-newer : (one behind : Placed) → Some (mark (newer one (Some behind))) ≡ topmost (Some (mark one)) (Some (mark behind))
mark-newer one behind =
    elim (nat_lt behind.chunk.modified one.chunk.modified) as (λ b. Some (mark (cond b one behind)) ≡ cond b (Some (mark one)) (Some (mark behind))) [ true ↦ refl | false ↦ refl ]

mark-over : (one behind : Option Placed) → option_map mark (over one behind) ≡ topmost (option_map mark one) (option_map mark behind)
mark-over None behind = refl
mark-over (Some one) None = refl
mark-over (Some one) (Some behind) = mark-newer one behind

pub mark_seen-append : (first : ℕ) (xs ys : List Chunk) (p : ℕ) → mark_seen first (xs ++ ys) p ≡ topmost (mark_seen first xs p) (mark_seen (first + length xs) ys p)
mark_seen-append first xs ys p =
    let test : Placed → Bool = λ placed. covers p placed.chunk in
    ap (λ ps. option_map mark (newest (filter test ps))) (placed-append first xs ys)
    ∙ ap (λ ps. option_map mark (newest ps)) (filter-append test (placed_from first xs) (placed_from (first + length xs) ys))
    ∙ ap (option_map mark) (newest-append (filter test (placed_from first xs)) (filter test (placed_from (first + length xs) ys)))
    ∙ mark-over (newest (filter test (placed_from first xs))) (newest (filter test (placed_from (first + length xs) ys)))

-- Of two halves
pub halves : (first second : ℕ) (chunks front behind : List Chunk) (below above made : List Stretch) → chunks ≡ front ++ behind → second ≡ first + length front
    → AreStretches first front below → AreStretches second behind above
    → ((p : ℕ) → seen_in made None p ≡ topmost (seen_in below None p) (seen_in above None p)) → AreStretches first chunks made
halves first second chunks front behind below above made parts place_is below_is above_is made_is p =
    made_is p ∙ ap (λ o. topmost o (seen_in above None p)) (below_is p) ∙ ap (topmost (mark_seen first front p)) (above_is p ∙ ap (λ n. mark_seen n behind p) place_is)
    ∙ sym (mark_seen-append first front behind p) ∙ ap (λ cs. mark_seen first cs p) (sym parts)
