-- The steps of a reading over a segment.
use Rattle.std.proofs.Common.{◌≡◌, inl, inr, ℕ, ◌+◌, ◌-◌, ◌≤◌, List, [], ◌∷◌, ◌++◌, length, take, drop, sym, ◌∙◌, ap, subst, arith, append_assoc, length-take, take-append-drop, Option, Some, None}
use Rattle.std.specs.Prelude.{IfSome, MatchBool, Bool, true, false}
use Rattle.std.specs.Int.{w32, to_be_bytes}
use Rattle.std.proofs.Math.Seq.{take-add}
use Rattle.std.proofs.lemmas.List.{take_at, drop_at, drop-take, take-take, append-nil}
use Rattle.std.proofs.lemmas.List.Elements.{All-push}
use Rattle.weed_base.specs.Files.{Files, content}
use Rattle.meta_log.specs.Segment.{IsShort, framed, item, items, EndsBadly, IsBroken}
use Rattle.meta_log.specs.Stretch.{Stretch, IsOf}
use Rattle.meta_log.specs.Head.{IsNextHead}
use Rattle.meta_log.specs.Scan.{IsScanned}
use Rattle.meta_log.specs.declared.head.Head.{Head}
use Rattle.meta_log.specs.declared.head.Head.TheVariants.{Broken as BrokenHead, Item}
use Rattle.meta_log.proofs.Pieces.{IsOf-skip}
use Rattle.meta_log.proofs.Frames.{length-to_be_bytes, length-framed, items-append}

-- the payload among what is held
pub payload_held : (bytes : List ℕ) (reading : Stretch) (payload rest : List ℕ) (size n : ℕ) → IsOf bytes reading → drop reading.at bytes ≡ item payload ++ rest → length payload ≡ size → n ≡ size → 5 + size ≤ length reading.held
    → take n (drop 5 reading.held) ≡ payload
unfolding framed
payload_held bytes reading payload rest size n is_of spelled counted n_is there =
    let head = to_be_bytes w32 (length payload) in
    let behind : drop 5 (item payload ++ rest) ≡ payload ++ rest =
    ap (drop 4) (append_assoc head payload rest) ∙ drop_at head (payload ++ rest) 4 (length-to_be_bytes (length payload)) in
    let left = length reading.held - 5 in
    let all : length reading.held ≡ 5 + left = omega (arith, there) in
    let held : reading.held ≡ take (5 + left) (item payload ++ rest) =
    is_of.read ∙ ap (λ (m : ℕ). take m (drop reading.at bytes)) all ∙ ap (λ (l : List ℕ). take (5 + left) l) spelled in
    ap (λ (l : List ℕ). take n (drop 5 l)) held
    ∙ ap (λ (l : List ℕ). take n l) (drop-take 5 left (item payload ++ rest) ∙ ap (λ (l : List ℕ). take left l) behind)
    ∙ take-take n left (payload ++ rest) (omega (arith, there, n_is))
    ∙ take_at payload rest n (omega (arith, counted, n_is))

module _ (Passed : List (List ℕ) → Type 0) (bytes : List ℕ) (reading : Stretch) (scanned : IsScanned Passed bytes reading) where
  place : reading.at ≡ length (items scanned.good)
  place = omega (arith, ap length scanned.front, length-take reading.at bytes, scanned.of.within)

  parted : bytes ≡ items scanned.good ++ drop reading.at bytes
  parted = sym (take-append-drop reading.at bytes) ∙ ap (λ (l : List ℕ). l ++ drop reading.at bytes) scanned.front

  -- what stands there ends the good items badly
  ends_there : (Allowed : List (List ℕ) → Type 0) → ((before : List (List ℕ)) → Passed before → Allowed before) → EndsBadly Allowed scanned.good (drop reading.at bytes) → IsBroken Allowed bytes reading.at
  ends_there Allowed sound ends = record {
    good = scanned.good;
    tail = drop reading.at bytes;
    spelled = parted;
    place = place;
    short = scanned.short;
    allowed = sound scanned.good scanned.passed;
    ends = ends;
  }

  -- neither a gate that isn't open nor an item
  pub broken_there : (Allowed : List (List ℕ) → Type 0) → ((before : List (List ℕ)) → Passed before → Allowed before) → IsNextHead (drop reading.at bytes) BrokenHead → IsBroken Allowed bytes reading.at
  broken_there Allowed sound head = ends_there Allowed sound (elim head [ inl none ↦ inl none | inr cut ↦ inr (inl cut) ])

  module _ (payload rest : List ℕ) (spelled : drop reading.at bytes ≡ item payload ++ rest) (fits : IsShort payload) where
    -- an item that is refused
    pub refused_there : (Allowed : List (List ℕ) → Type 0) → ((before : List (List ℕ)) → Passed before → Allowed before) → ¬ Allowed (scanned.good ++ payload ∷ []) → IsBroken Allowed bytes reading.at
    refused_there Allowed sound refused = ends_there Allowed sound (inr (inr (payload, rest, spelled, fits, refused)))

    length-item : length (item payload) ≡ 5 + length payload
    length-item = omega (arith, length-framed payload)

    -- an item that is let through
    pub passed_there : (Later : List (List ℕ) → Type 0) (now : Stretch) (size : ℕ) → IsOf bytes now → now.at ≡ reading.at → length payload ≡ size → 5 + size ≤ length now.held → Later (scanned.good ++ payload ∷ [])
        → IsScanned Later bytes (record { at = now.at + (5 + size); held = drop (5 + size) now.held; size = now.size })
    passed_there Later now size is_of same counted there later =
        let k = 5 + size in
        let item_at : take k (drop now.at bytes) ≡ item payload =
        ap (λ (n : ℕ). take k (drop n bytes)) same ∙ ap (λ (l : List ℕ). take k l) spelled ∙ take_at (item payload) rest k (omega (arith, length-item, counted)) in
        record {
          good = scanned.good ++ payload ∷ [];
          of = IsOf-skip bytes now k is_of there;
          front = take-add now.at k bytes
              ∙ ap (λ (n : ℕ). take n bytes ++ take k (drop now.at bytes)) same
              ∙ ap (λ (l : List ℕ). l ++ take k (drop now.at bytes)) scanned.front
              ∙ ap (λ (l : List ℕ). items scanned.good ++ l) item_at
              ∙ ap (λ (l : List ℕ). items scanned.good ++ l) (sym (append-nil (item payload)))
              ∙ sym (items-append scanned.good (payload ∷ []));
          short = All-push IsShort scanned.good payload scanned.short fits;
          passed = later;
        }

broken_at : (told : Option Files) (name : List ℕ) (old now : Stretch) (head : Head) (Passed Allowed : List (List ℕ) → Type 0) → IfSome told (λ files. IsScanned Passed (content files name) old)
    → IfSome told (λ files. IsOf (content files name) now × IsNextHead (drop old.at (content files name)) head) → now.at ≡ old.at → head ≡ BrokenHead → ((before : List (List ℕ)) → Passed before → Allowed before)
    → IfSome told (λ files. IsBroken Allowed (content files name) now.at)
broken_at None name old now head Passed Allowed scanned next same is sound = tt
broken_at (Some files) name old now head Passed Allowed scanned next same is sound =
    let bytes = content files name in
    subst (IsBroken Allowed bytes) (sym same) (broken_there Passed bytes old scanned Allowed sound (subst (IsNextHead (drop old.at bytes)) is next.1))

-- what the check said of the payload itself
said : (Passed Later Allowed : List (List ℕ) → Type 0) (fits : Bool) (slice payload : List ℕ) (before : List (List ℕ)) → slice ≡ payload → Passed before
    → ((b : List (List ℕ)) → Passed b → MatchBool fits (Later (b ++ slice ∷ [])) (¬ Allowed (b ++ slice ∷ []))) → MatchBool fits (Later (before ++ payload ∷ [])) (¬ Allowed (before ++ payload ∷ []))
said Passed Later Allowed fits slice payload before is passed verdict =
    subst (λ (p : List ℕ). MatchBool fits (Later (before ++ p ∷ [])) (¬ Allowed (before ++ p ∷ []))) is (verdict before passed)

module _ (bytes : List ℕ) (old now : Stretch) (Passed Later Allowed : List (List ℕ) → Type 0) (scanned : IsScanned Passed bytes old) (is_of : IsOf bytes now) (same : now.at ≡ old.at)
    (held : List ℕ) (size n : ℕ) (fits : Bool) (next : IsNextHead (drop old.at bytes) (Item size)) (n_is : n ≡ size) (held_is : held ≡ now.held) (there : 5 + size ≤ length now.held)
    (verdict : (before : List (List ℕ)) → Passed before → MatchBool fits (Later (before ++ take n (drop 5 held) ∷ [])) (¬ Allowed (before ++ take n (drop 5 held) ∷ []))) where
  answer : MatchBool fits (Later (scanned.good ++ next.0 ∷ [])) (¬ Allowed (scanned.good ++ next.0 ∷ []))
  answer =
      let here = ap (λ (m : ℕ). drop m bytes) same ∙ next.2 in
      let slice = ap (λ (l : List ℕ). take n (drop 5 l)) held_is ∙ payload_held bytes now next.0 next.1 size n is_of here next.3 n_is there in
      said Passed Later Allowed fits (take n (drop 5 held)) next.0 scanned.good slice scanned.passed verdict

  refused_bytes : fits ≡ false → ((before : List (List ℕ)) → Passed before → Allowed before) → IsBroken Allowed bytes now.at
  refused_bytes denied sound =
      let refused = subst (λ (t : Bool). MatchBool t (Later (scanned.good ++ next.0 ∷ [])) (¬ Allowed (scanned.good ++ next.0 ∷ []))) denied answer in
      subst (IsBroken Allowed bytes) (sym same) (refused_there Passed bytes old scanned next.0 next.1 next.2 next.4 Allowed sound refused)

  passed_bytes : fits ≡ true → IsScanned Later bytes (record { at = now.at + (5 + size); held = drop (5 + size) now.held; size = now.size })
  passed_bytes granted =
      let later = subst (λ (t : Bool). MatchBool t (Later (scanned.good ++ next.0 ∷ [])) (¬ Allowed (scanned.good ++ next.0 ∷ []))) granted answer in
      passed_there Passed bytes old scanned next.0 next.1 next.2 next.4 Later now size is_of same next.3 there later

refused_at : (told : Option Files) (name : List ℕ) (old now : Stretch) (head : Head) (Passed Later Allowed : List (List ℕ) → Type 0) → IfSome told (λ files. IsScanned Passed (content files name) old)
    → IfSome told (λ files. IsOf (content files name) now × IsNextHead (drop old.at (content files name)) head) → now.at ≡ old.at → (held : List ℕ) (size n : ℕ) (fits : Bool) → head ≡ Item size → n ≡ size → held ≡ now.held → 5 + size ≤ length now.held
    → ((before : List (List ℕ)) → Passed before → MatchBool fits (Later (before ++ take n (drop 5 held) ∷ [])) (¬ Allowed (before ++ take n (drop 5 held) ∷ [])))
    → fits ≡ false → ((before : List (List ℕ)) → Passed before → Allowed before) → IfSome told (λ files. IsBroken Allowed (content files name) now.at)
refused_at None name old now head Passed Later Allowed scanned next same held size n fits is n_is held_is there verdict denied sound = tt
refused_at (Some files) name old now head Passed Later Allowed scanned next same held size n fits is n_is held_is there verdict denied sound =
    refused_bytes (content files name) old now Passed Later Allowed scanned next.0 same held size n fits (subst (IsNextHead (drop old.at (content files name))) is next.1) n_is held_is there verdict denied sound

passed_at : (told : Option Files) (name : List ℕ) (old now : Stretch) (head : Head) (Passed Later Allowed : List (List ℕ) → Type 0) → IfSome told (λ files. IsScanned Passed (content files name) old)
    → IfSome told (λ files. IsOf (content files name) now × IsNextHead (drop old.at (content files name)) head) → now.at ≡ old.at → (held : List ℕ) (size n : ℕ) (fits : Bool) → head ≡ Item size → n ≡ size → held ≡ now.held → 5 + size ≤ length now.held
    → ((before : List (List ℕ)) → Passed before → MatchBool fits (Later (before ++ take n (drop 5 held) ∷ [])) (¬ Allowed (before ++ take n (drop 5 held) ∷ [])))
    → fits ≡ true → IfSome told (λ files. IsScanned Later (content files name) (record { at = now.at + (5 + size); held = drop (5 + size) now.held; size = now.size }))
passed_at None name old now head Passed Later Allowed scanned next same held size n fits is n_is held_is there verdict granted = tt
passed_at (Some files) name old now head Passed Later Allowed scanned next same held size n fits is n_is held_is there verdict granted =
    passed_bytes (content files name) old now Passed Later Allowed scanned next.0 same held size n fits (subst (IsNextHead (drop old.at (content files name))) is next.1) n_is held_is there verdict granted

-- The same over a disk that is told or isn't: `old` before the next head was looked at, and `now` after.
module _ (told : Option Files) (name : List ℕ) (old now : Stretch) (head : Head) (Passed Later Allowed : List (List ℕ) → Type 0)
    (scanned : IfSome told (λ files. IsScanned Passed (content files name) old))
    (next : IfSome told (λ files. IsOf (content files name) now × IsNextHead (drop old.at (content files name)) head)) (same : now.at ≡ old.at) where
  pub told_broken : head ≡ BrokenHead → ((before : List (List ℕ)) → Passed before → Allowed before) → IfSome told (λ files. IsBroken Allowed (content files name) now.at)
  told_broken is sound = broken_at told name old now head Passed Allowed scanned next same is sound

  module _ (held : List ℕ) (size n : ℕ) (fits : Bool) (is : head ≡ Item size) (n_is : n ≡ size) (held_is : held ≡ now.held) (there : 5 + size ≤ length now.held)
      (verdict : (before : List (List ℕ)) → Passed before → MatchBool fits (Later (before ++ take n (drop 5 held) ∷ [])) (¬ Allowed (before ++ take n (drop 5 held) ∷ []))) where
    pub told_refused : fits ≡ false → ((before : List (List ℕ)) → Passed before → Allowed before) → IfSome told (λ files. IsBroken Allowed (content files name) now.at)
    told_refused denied sound = refused_at told name old now head Passed Later Allowed scanned next same held size n fits is n_is held_is there verdict denied sound

    pub told_passed : fits ≡ true → IfSome told (λ files. IsScanned Later (content files name) (record { at = now.at + (5 + size); held = drop (5 + size) now.held; size = now.size }))
    told_passed granted = passed_at told name old now head Passed Later Allowed scanned next same held size n fits is n_is held_is there verdict granted
