-- From what is held of a file to what stands in it.
use Rattle.std.proofs.Common.{◌≡◌, inl, inr, ℕ, ◌+◌, ◌≤◌, ◌<◌, min, List, ◌∷◌, ◌++◌, length, take, drop, sym, ◌∙◌, ap, subst, arith, append_assoc, length-append, length-take, take-append-drop, Option, Some, None}
use Rattle.std.specs.Prelude.{IfSome}
use Rattle.std.specs.Int.{w32, to_be_bytes, from_be_bytes}
use Rattle.std.proofs.lemmas.Nat.{from_be_bytes-to_be_bytes_4}
use Rattle.std.proofs.lemmas.Bool.{cases_lt}
use Rattle.std.proofs.lemmas.List.{take_at, take_all, take-append-le, nil_from_length, length-take-le}
use Rattle.weed_base.specs.Files.{Files, content}
use Rattle.meta_log.specs.Segment.{framed}
use Rattle.meta_log.specs.Stretch.{Stretch, IsOf, IsFilled}
use Rattle.meta_log.specs.Head.{IsHead, IsNextHead}
use Rattle.meta_log.specs.declared.head.Head.TheVariants.{Closed, Broken, Item}
use Rattle.meta_log.proofs.Frames.{length-to_be_bytes}

-- What is held stands at the front of the rest.
module _ (rest held : List ℕ) (is : held ≡ take (length held) rest) where
  abbrev tail : List ℕ
  tail = drop (length held) rest

  parted : rest ≡ held ++ tail
  parted = sym (take-append-drop (length held) rest) ∙ ap (λ (l : List ℕ). l ++ drop (length held) rest) (sym is)

  all_held : length rest ≤ length held → rest ≡ held
  all_held short = sym (is ∙ take_all (length held) rest short)

  module _ (filled : min 5 (length rest) ≤ length held) where
    pub next_closed : IsHead held Closed → IsNextHead rest Closed
    next_closed head = (head.0, head.1 ++ tail, parted ∙ ap (λ (l : List ℕ). l ++ tail) head.2, head.3)

    cut_short : (behind : List ℕ) → held ≡ 1 ∷ behind → length behind < 4 → IsNextHead rest Broken
    cut_short behind spelled few = inr (behind, all_held (omega (arith, ap length spelled)) ∙ spelled, inl few)

    too_long : (behind : List ℕ) → held ≡ 1 ∷ behind → 4 ≤ length behind → 67108864 < from_be_bytes w32 (take 4 behind) → IsNextHead rest Broken
    too_long behind spelled enough over =
        inr (
          behind ++ tail,
          parted ∙ ap (λ (l : List ℕ). l ++ tail) spelled,
          inr (inl (subst (λ (l : List ℕ). 67108864 < from_be_bytes w32 l) (sym (take-append-le 4 behind tail enough)) over)),
        )

    pub next_broken : IsHead held Broken → IsNextHead rest Broken
    next_broken (inl none) = inl (nil_from_length rest (omega (arith, ap length none)))
    next_broken (inr (behind, spelled, inl few)) = cut_short behind spelled few
    next_broken (inr (behind, spelled, inr over)) = elim (cases_lt (length behind) 4) [
      | inl few ↦ cut_short behind spelled few
      | inr enough ↦ too_long behind spelled enough over
    ]

  -- behind the length
  module _ (size : ℕ) (behind : List ℕ) (spelled : held ≡ 1 ∷ (to_be_bytes w32 size ++ behind)) (small : size ≤ 67108864) where
    abbrev q : List ℕ
    q = behind ++ tail

    with_length : rest ≡ 1 ∷ (to_be_bytes w32 size ++ q)
    with_length = parted ∙ ap (λ (l : List ℕ). l ++ tail) spelled ∙ ap (λ (l : List ℕ). 1 ∷ l) (append_assoc (to_be_bytes w32 size) behind tail)

    length_rest : length rest ≡ 5 + length q
    length_rest = omega (arith, ap length with_length, length-append (to_be_bytes w32 size) q, length-to_be_bytes size)

    says : from_be_bytes w32 (take 4 (to_be_bytes w32 size ++ q)) ≡ size
    says =
        ap (λ (l : List ℕ). from_be_bytes w32 l) (take_at (to_be_bytes w32 size) q 4 (length-to_be_bytes size)) ∙ from_be_bytes-to_be_bytes_4 size (omega arith)

    pub next_cut : length q < size → IsNextHead rest Broken
    next_cut few =
        inr (
          to_be_bytes w32 size ++ q,
          with_length,
          inr (inr (omega (arith, says, length-append (to_be_bytes w32 size) q, length-to_be_bytes size, few))),
        )

    pub next_item : size ≤ length q → IsNextHead rest (Item size)
    unfolding framed
    next_item enough =
        let payload = take size q in
        let counted : length payload ≡ size = length-take-le size q enough in
        let frame : to_be_bytes w32 size ++ q ≡ framed payload ++ drop size q =
        ap (λ (l : List ℕ). to_be_bytes w32 size ++ l) (sym (take-append-drop size q))
        ∙ sym (append_assoc (to_be_bytes w32 size) payload (drop size q))
        ∙ ap (λ (n : ℕ). to_be_bytes w32 n ++ payload ++ drop size q) (sym counted) in
        (payload, drop size q, with_length ∙ ap (λ (l : List ℕ). 1 ∷ l) frame, counted, omega (arith, counted, small))

item_in : (bytes : List ℕ) (one two : Stretch) (size : ℕ) → IsOf bytes one → IsHead one.held (Item size) → IsOf bytes two → two.at ≡ one.at → 5 + size ≤ length two.held → IsNextHead (drop one.at bytes) (Item size)
item_in bytes one two size of_one head of_two same there =
    let rest = drop one.at bytes in
    let long : length two.held ≤ length rest =
    omega (arith, ap length of_two.read, length-take (length two.held) (drop two.at bytes), ap (λ (n : ℕ). length (drop n bytes)) same) in
    next_item rest one.held of_one.read size head.0 head.1 head.2
    (omega (arith, long, there, length_rest rest one.held of_one.read size head.0 head.1 head.2))

-- where it is read twice: for the length, and for the payload
pub told_item : (told later : Option Files) (name held : List ℕ) (one two : Stretch) (place size : ℕ) → later ≡ told → one.at ≡ place → two.at ≡ one.at → held ≡ one.held → IsHead held (Item size)
    → IfSome told (λ files. IsOf (content files name) one × IsFilled 5 (content files name) one)
    → IfSome later (λ files. IsOf (content files name) two × IsFilled (5 + size) (content files name) two)
    → 5 + size ≤ length two.held → IfSome told (λ files. IsOf (content files name) two × IsNextHead (drop place (content files name)) (Item size))
told_item None later name held one two place size same at_place at_one held_is head filled_one filled_two there = tt
told_item (Some files) later name held one two place size same at_place at_one held_is head filled_one filled_two there =
    let bytes = content files name in
    let second = subst (λ o. IfSome o (λ f. IsOf (content f name) two × IsFilled (5 + size) (content f name) two)) same filled_two in
    let found = item_in bytes one two size filled_one.0 (subst (λ (l : List ℕ). IsHead l (Item size)) held_is head) second.0 at_one there in
    (second.0, subst (λ (n : ℕ). IsNextHead (drop n bytes) (Item size)) at_place found)
