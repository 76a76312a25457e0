-- Reading the payloads that are left.
use Rattle.std.proofs.Common.{◌≡◌, inl, inr, ℕ, ◌+◌, ◌≤◌, ◌<◌, List, [], ◌∷◌, ◌++◌, length, take, drop, refl, sym, ◌∙◌, ap, subst, arith, append_assoc, length-append, Option, Some, None}
use Rattle.std.specs.Prelude.{IfSome}
use Rattle.std.specs.Int.{w32, to_be_bytes, from_be_bytes}
use Rattle.std.proofs.lemmas.Nat.{from_be_bytes-to_be_bytes_4}
use Rattle.std.proofs.lemmas.List.{take_at, drop_at, drop-drop}
use Rattle.std.proofs.lemmas.List.Elements.{All-head, All-tail}
use Rattle.weed_base.specs.Files.{Files, content}
use Rattle.meta_log.specs.Segment.{IsShort, framed, item, items, IsCut}
use Rattle.meta_log.specs.Head.{IsNextHead}
use Rattle.meta_log.specs.Left.{IsLeft, among_items, MeetsNext}
use Rattle.meta_log.specs.Stretch.{Stretch, IsOf}
use Rattle.meta_log.specs.declared.head.Head.{Head}
use Rattle.meta_log.specs.declared.head.Head.TheVariants.{Closed, Broken, Item}
use Rattle.meta_log.proofs.Pieces.{IsOf-skip}
use Rattle.meta_log.proofs.Scans.{payload_held}
use Rattle.meta_log.proofs.Frames.{length-to_be_bytes, length-framed}
use Rattle.meta_log.proofs.Unique.{frame_unique, tails, heads}

-- an item isn't cut
pub not_cut : (payload rest : List ℕ) → IsShort payload → ¬ IsCut (framed payload ++ rest)
unfolding framed
not_cut payload rest short = λ cut.
    let head = to_be_bytes w32 (length payload) in
    let apart = append_assoc head payload rest in
    let counted : length (framed payload ++ rest) ≡ 4 + length payload + length rest =
    omega (arith, ap length apart, length-append head (payload ++ rest), length-append payload rest, length-to_be_bytes (length payload)) in
    let says : from_be_bytes w32 (take 4 (framed payload ++ rest)) ≡ length payload =
    ap (λ (l : List ℕ). from_be_bytes w32 (take 4 l)) apart ∙ ap (from_be_bytes w32) (take_at head (payload ++ rest) 4 (length-to_be_bytes (length payload))) ∙ from_be_bytes-to_be_bytes_4 (length payload) (omega (arith, short)) in
    elim cut [
      | inl few ↦ omega (arith, few, counted)
      | inr (inl over) ↦ omega (arith, over, says, short)
      | inr (inr fewer) ↦ omega (arith, fewer, says, counted)
    ]

module _ (bytes : List ℕ) (gate at : ℕ) where
  pub none_left : (left : List (List ℕ)) → gate ≤ at → IsLeft bytes gate at left → left ≡ []
  none_left [] past is = refl
  none_left (payload ∷ left) past is = absurd (omega (arith, past, is.place, length-append (item payload) (items left), length-framed payload))

  next_spelled : (payload : List ℕ) (left : List (List ℕ)) → (is : IsLeft bytes gate at (payload ∷ left)) → drop at bytes ≡ 1 ∷ (framed payload ++ (items left ++ is.tail))
  next_spelled payload left is = is.spelled ∙ append_assoc (item payload) (items left) is.tail

  pub meets : (left : List (List ℕ)) (head : Head) → at < gate → IsLeft bytes gate at left → IsNextHead (drop at bytes) head → MeetsNext left (among_items head)
  meets [] head inside is next = absurd (omega (arith, inside, is.place))
  meets (payload ∷ left) Closed inside is next = next.3 (sym (heads 1 next.0 _ _ (sym (next_spelled payload left is) ∙ next.2)))
  meets (payload ∷ left) Broken inside is (inl none) = let e = sym (next_spelled payload left is) ∙ none in absurd (cc)
  meets (payload ∷ left) Broken inside is (inr cut) =
      not_cut payload (items left ++ is.tail) (All-head IsShort payload left is.short)
      (subst IsCut (tails 1 1 _ _ (sym cut.1 ∙ next_spelled payload left is)) cut.2)
  meets (payload ∷ left) (Item size) inside is next =
      let same = tails 1 1 _ _ (sym (next_spelled payload left is) ∙ next.2) in
      let found = frame_unique payload next.0 (items left ++ is.tail) next.1 (All-head IsShort payload left is.short) next.4 same in
      (payload, left, refl, ap length found.0 ∙ next.3)

  -- behind the first
  pub left_behind : (payload : List ℕ) (left : List (List ℕ)) → IsLeft bytes gate at (payload ∷ left) → IsLeft bytes gate (at + (5 + length payload)) left
  left_behind payload left is =
      let counted : length (item payload) ≡ 5 + length payload = omega (arith, length-framed payload) in
      record {
        tail = is.tail;
        spelled = sym (drop-drop (5 + length payload) at bytes)
            ∙ ap (λ (l : List ℕ). drop (5 + length payload) l) (is.spelled ∙ append_assoc (item payload) (items left) is.tail)
            ∙ drop_at (item payload) (items left ++ is.tail) (5 + length payload) counted;
        place = omega (arith, is.place, length-append (item payload) (items left), counted);
        short = All-tail IsShort payload left is.short;
      }

pub told_none_left : (told : Option Files) (name : List ℕ) (gate at place : ℕ) → gate ≤ at → at ≡ place → IfSome told (λ files. (left : List (List ℕ)) → IsLeft (content files name) gate place left → left ≡ [])
told_none_left None name gate at place past is = tt
told_none_left (Some files) name gate at place past is = λ left here. none_left (content files name) gate place left (omega (arith, past, is)) here

pub told_meets : (told : Option Files) (name : List ℕ) (gate at place : ℕ) (head result : Head) (now : Stretch) → at < gate → at ≡ place → result ≡ among_items head
    → IfSome told (λ files. IsOf (content files name) now × IsNextHead (drop place (content files name)) head) → IfSome told (λ files. (left : List (List ℕ)) → IsLeft (content files name) gate place left → MeetsNext left result)
told_meets None name gate at place head result now inside is result_is next = tt
told_meets (Some files) name gate at place head result now inside is result_is next = λ left here.
    subst (MeetsNext left) (sym result_is) (meets (content files name) gate place left head (omega (arith, inside, is)) here next.1)

-- among items a head is never a closed gate
pub never_closed : (head : Head) → ¬ (among_items head ≡ Closed)
never_closed Closed = λ same. cc
never_closed Broken = λ same. cc
never_closed (Item size) = λ same. cc

-- What was taken, over a disk that is told or isn't: `old` before the next head was looked at, `now` after, and `later` behind the item.
closed_next : (left : List (List ℕ)) (head : Head) → head ≡ Closed → MeetsNext left head → left ≡ []
closed_next left head is met = subst (MeetsNext left) is met

pub told_closed : (told : Option Files) (name : List ℕ) (gate place : ℕ) (head : Head) → head ≡ Closed → IfSome told (λ files. (left : List (List ℕ)) → IsLeft (content files name) gate place left → MeetsNext left head)
    → IfSome told (λ files. (left : List (List ℕ)) → IsLeft (content files name) gate place left → left ≡ [])
told_closed None name gate place head is met = tt
told_closed (Some files) name gate place head is met = λ left here. closed_next left head is (met left here)

pub told_broken : (told : Option Files) (name : List ℕ) (gate place : ℕ) (head : Head) → head ≡ Broken → IfSome told (λ files. (left : List (List ℕ)) → IsLeft (content files name) gate place left → MeetsNext left head)
    → IfSome told (λ files. (left : List (List ℕ)) → ¬ IsLeft (content files name) gate place left)
told_broken None name gate place head is met = tt
told_broken (Some files) name gate place head is met = λ left here. subst (MeetsNext left) is (met left here)

pub told_skipped : (told : Option Files) (name : List ℕ) (old now : Stretch) (count : ℕ) → now ≡ record { at = old.at + count; held = drop count old.held; size = old.size } → count ≤ length old.held
    → IfSome told (λ files. IsOf (content files name) old) → IfSome told (λ files. IsOf (content files name) now)
told_skipped None name old now count is fits is_of = tt
told_skipped (Some files) name old now count is fits is_of = subst (IsOf (content files name)) (sym is) (IsOf-skip (content files name) old count is_of fits)

module _ (bytes : List ℕ) (gate : ℕ) (old : Stretch) (place : ℕ) (same : old.at ≡ place) (is_of : IsOf bytes old) (size n : ℕ) (n_is : n ≡ size) (there : 5 + size ≤ length old.held) (text held : List ℕ) (held_is : held ≡ old.held) (text_is : text ≡ take n (drop 5 held)) where
  taken_there : (left : List (List ℕ)) → IsLeft bytes gate place left → MeetsNext left (Item size) → (rest : List (List ℕ)) × (left ≡ text ∷ rest) × IsLeft bytes gate (old.at + (5 + size)) rest
  taken_there left here met =
      let first = subst (IsLeft bytes gate place) met.2 here in
      let spelled = ap (λ (m : ℕ). drop m bytes) same ∙ next_spelled bytes gate place met.0 met.1 first in
      let is = text_is ∙ ap (λ (l : List ℕ). take n (drop 5 l)) held_is ∙ payload_held bytes old met.0 (items met.1 ++ first.tail) size n is_of spelled met.3 n_is there in
      let behind = left_behind bytes gate place met.0 met.1 first in
      let there_is : place + (5 + length met.0) ≡ old.at + (5 + size) = omega (arith, same, met.3) in
      (met.1, met.2 ∙ ap (λ (p : List ℕ). p ∷ met.1) (sym is), subst (λ (m : ℕ). IsLeft bytes gate m met.1) there_is behind)

pub told_taken : (told : Option Files) (name : List ℕ) (gate : ℕ) (old now : Stretch) (place size n : ℕ) (head : Head) (text held : List ℕ) → head ≡ Item size → old.at ≡ place → n ≡ size → 5 + size ≤ length old.held → held ≡ old.held → text ≡ take n (drop 5 held)
    → now ≡ record { at = old.at + (5 + size); held = drop (5 + size) old.held; size = old.size } → IfSome told (λ files. IsOf (content files name) old)
    → IfSome told (λ files. (left : List (List ℕ)) → IsLeft (content files name) gate place left → MeetsNext left head)
    → IfSome told (λ files. (left : List (List ℕ)) → IsLeft (content files name) gate place left → (rest : List (List ℕ)) × (left ≡ text ∷ rest) × IsLeft (content files name) gate now.at rest)
told_taken None name gate old now place size n head text held is same n_is there held_is text_is now_is is_of met = tt
told_taken (Some files) name gate old now place size n head text held is same n_is there held_is text_is now_is is_of met = λ left here.
    let found = taken_there (content files name) gate old place same is_of size n n_is there text held held_is text_is left here (subst (MeetsNext left) is (met left here)) in
    (found.0, found.1, subst (λ (s : Stretch). IsLeft (content files name) gate s.at found.0) (sym now_is) found.2)
