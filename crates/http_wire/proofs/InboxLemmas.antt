-- What an inbox holds after a read.
use Rattle.std.proofs.Common.{◌≡◌, ℕ, ◌+◌, ◌-◌, ◌≤◌, List, [], ◌∷◌, ◌++◌, length, take, drop, Option, Some, None, refl, sym, ap, subst, ◌∙◌, arith, append_assoc}
use Rattle.std.specs.Option.{option_map}
use Rattle.std.proofs.lemmas.List.{drop-drop, drop-take}
use Rattle.weed_base.specs.Told.{IsAtEnd}
use Rattle.http_wire.specs.Inbox.{Adds, left_of}
use Rattle.http_wire.proofs.ListLemmas.{take-add}

-- a part of bytes that are the same up to its end is the same
pub part-same : (start end : ℕ) (a b : List ℕ) → start ≤ end → take end a ≡ take end b → take (end - start) (drop start a) ≡ take (end - start) (drop start b)
part-same start end a b ordered same =
    let whole : start + (end - start) ≡ end = omega arith in
    sym (drop-take start (end - start) a)
    ∙ ap (λ n. drop start (take n a)) whole ∙ ap (drop start) same ∙ ap (λ n. drop start (take n b)) (sym whole)
    ∙ drop-take start (end - start) b

-- a part with so many bytes behind it
pub part-more : (start end count : ℕ) (bytes : List ℕ) → start ≤ end → take (end + count - start) (drop start bytes) ≡ take (end - start) (drop start bytes) ++ take count (drop end bytes)
part-more start end count bytes ordered =
    let longer : end + count - start ≡ (end - start) + count = omega arith in
    let whole : start + (end - start) ≡ end = omega arith in
    ap (λ n. take n (drop start bytes)) longer
    ∙ take-add (end - start) count (drop start bytes)
    ∙ ap (λ xs. take (end - start) (drop start bytes) ++ take count xs) (drop-drop (end - start) start bytes ∙ ap (λ n. drop n bytes) whole)

-- a part without its first bytes
pub part-drop : (start end count : ℕ) (bytes : List ℕ) → start + count ≤ end → take (end - (start + count)) (drop (start + count) bytes) ≡ drop count (take (end - start) (drop start bytes))
part-drop start end count bytes within =
    let rest = end - (start + count) in
    let whole : end - start ≡ count + rest = omega arith in
    sym (ap (λ n. drop count (take n (drop start bytes))) whole ∙ drop-take count rest (drop start bytes) ∙ ap (take rest) (drop-drop count start bytes))

-- a read moves bytes from the source to the inbox, and leaves all that is left as it was
pub left_of_adds : (pending new : List ℕ) (left new_left : Option (List ℕ)) (count : ℕ) → Adds pending new left new_left count → left_of new new_left ≡ left_of pending left
left_of_adds pending new left new_left count (bytes, _, grown, consumed, _) =
    ap (λ xs. left_of xs new_left) grown ∙ moved new_left ∙ ap (left_of pending) (sym consumed)
  where
    moved : (rest : Option (List ℕ)) → left_of (pending ++ bytes) rest ≡ left_of pending (option_map (λ xs. bytes ++ xs) rest)
    moved None = refl
    moved (Some rest) = ap Some (append_assoc pending bytes rest)

-- a read of nothing shows that the source was at its end
pub ended_before : (pending new : List ℕ) (left new_left : Option (List ℕ)) (count : ℕ) → count ≡ 0 → Adds pending new left new_left count → IsAtEnd left
ended_before pending new left new_left count none (bytes, size, _, consumed, ended) =
    subst IsAtEnd (sym consumed) (nothing bytes new_left (size ∙ none) (ended none))
  where
    nothing : (bytes : List ℕ) (rest : Option (List ℕ)) → length bytes ≡ 0 → IsAtEnd rest → IsAtEnd (option_map (λ xs. bytes ++ xs) rest)
    nothing bytes None _ _ = refl
    nothing [] (Some rest) _ ended = ended
    nothing (b ∷ bytes) (Some rest) size _ = absurd (omega arith)
