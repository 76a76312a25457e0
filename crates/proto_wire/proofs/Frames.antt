-- Frames: the front of what is left, read in two steps, and written in two.
use Rattle.std.proofs.Common.{◌≡◌, ℕ, ◌^◌, ◌<◌, ◌≤◌, inl, inr, refl, List, [], ◌++◌, length, take, drop, Option, Some, None, Result, Ok, Err, sym, ap, subst, ◌∙◌, arith, get_or, length-append, append_assoc}
use Rattle.std.specs.Prelude.{IfSome}
use Rattle.std.specs.Int.{w32, from_be_bytes}
use Rattle.std.proofs.lemmas.Bool.{lt-ltb, le-ltb}
use Rattle.std.proofs.lemmas.List.{take_all, take-append-le}
use Rattle.std.proofs.lemmas.Nat.{be_bytes_4, from_be_bytes-to_be_bytes_4}
use Rattle.std.proofs.Math.Seq.{drop-append_seam}
use Rattle.weed_base.specs.Told.{Consumes, IsAtEnd}
use Rattle.weed_base.proofs.WholeLemmas.{consumes_both}
use Rattle.proto_wire.specs.declared.frame_fault.FrameFault.{FrameFault}
use Rattle.proto_wire.specs.declared.frame_fault.FrameFault.TheVariants.{Truncated, TooLong}
use Rattle.proto_wire.specs.Frame.{length_text, frame_text, length_at, payload_at, some_payload, behind_length, frame_at, IsUnlessOutside, LosesSome}

-- ---- What is told of what was left

split_told : (left : List ℕ) (new : Option (List ℕ)) (front : List ℕ) → Consumes (Some left) new front → (rest : List ℕ) × (new ≡ Some rest) × (left ≡ front ++ rest)
split_told left None front taken = absurd (cc)
split_told left (Some rest) front taken = let is : left ≡ front ++ rest = cc in (rest, refl, is)

end_told : (left : List ℕ) → IsAtEnd (Some left) → left ≡ []
end_told left ended = cc

pub ended : (old new : Option (List ℕ)) (room : List ℕ) (count : ℕ) → count ≡ 0 → Consumes old new (take count room) → IsAtEnd new → IsAtEnd old
ended old None room count none taken at_end = rw taken refl
ended old (Some rest) room count none taken at_end =
    let nothing : rest ≡ [] = end_told rest at_end in
    let front : take count room ≡ [] = ap (λ n. take n room) none in
    let is : old ≡ Some [] = taken ∙ ap Some (ap (λ xs. xs ++ rest) front ∙ nothing) in
    rw is refl

-- ---- The length

length_of_none : length_at [] ≡ Ok None
unfolding length_at
length_of_none = refl

length_of_few : (bytes : List ℕ) → 0 < length bytes → length bytes < 4 → length_at bytes ≡ Err Truncated
unfolding length_at
length_of_few bytes some few = rw (lt-ltb 0 (length bytes) some, lt-ltb (length bytes) 4 few) refl

length_of_four : (bytes : List ℕ) → 4 ≤ length bytes → length_at bytes ≡ Ok (Some (from_be_bytes w32 (take 4 bytes)))
unfolding length_at
length_of_four bytes many = rw (lt-ltb 0 (length bytes) (omega arith), le-ltb (length bytes) 4 many) refl

pub length_none : (told : Option (List ℕ)) → IsAtEnd told → IfSome told (λ left. IsUnlessOutside (Ok None) (length_at left))
length_none None at_end = tt
length_none (Some left) at_end = inl (sym (ap length_at (end_told left at_end) ∙ length_of_none))

pub length_some : (told new : Option (List ℕ)) (head : List ℕ) (n : ℕ) → Consumes told new head → length head ≡ 4 → n ≡ from_be_bytes w32 head
    → IfSome told (λ left. IsUnlessOutside (Ok (Some n)) (length_at left))
length_some None new head n taken four is = tt
length_some (Some left) new head n taken four is =
    let told = split_told left new head taken in
    let front : take 4 left ≡ head =
    ap (take 4) told.2 ∙ take-append-le 4 head told.0 (omega (arith, four)) ∙ take_all 4 head (omega (arith, four)) in
    let long : 4 ≤ length left = omega (arith, four, ap length told.2, length-append head told.0) in
    inl (ap (λ m. Ok (Some m)) (is ∙ ap (from_be_bytes w32) (sym front)) ∙ sym (length_of_four left long))

pub length_cut : (told new : Option (List ℕ)) (head : List ℕ) → Consumes told new head → 0 < length head → length head < 4 → IsAtEnd new
    → IfSome told (λ left. IsUnlessOutside (Err Truncated) (length_at left))
length_cut None new head taken some few at_end = tt
length_cut (Some left) new head taken some few at_end =
    let told = split_told left new head taken in
    let nothing : told.0 ≡ [] = end_told told.0 (subst IsAtEnd told.1 at_end) in
    let long : length left ≡ length head = omega (arith, ap length told.2, length-append head told.0, ap length nothing) in
    inl (sym (length_of_few left (omega arith) (omega arith)))

pub length_spelled : (head : List ℕ) (n : ℕ) → length head ≡ 4 → ((i : ℕ) → get_or head i 0 < 256) → n ≡ from_be_bytes w32 head → head ≡ length_text n
unfolding length_text
length_spelled head n four small is = sym (be_bytes_4 head n four small is)

four_long : (n : ℕ) → length (length_text n) ≡ 4
unfolding length_text
four_long n = refl

-- ---- The frame

frame_is : (limit : ℕ) (left : List ℕ) → frame_at limit left ≡ behind_length limit left (length_at left)
unfolding frame_at
frame_is limit left = refl

err_behind : (limit : ℕ) (left : List ℕ) (fault : FrameFault) (seen : Result (Option ℕ) FrameFault) → IsUnlessOutside (Err fault) seen → IsUnlessOutside (Err fault) (behind_length limit left seen)
err_behind limit left fault seen (inl is) = inl (ap (behind_length limit left) is)
err_behind limit left fault seen (inr outside) = inr outside

pub frame_err : (told : Option (List ℕ)) (limit : ℕ) (fault : FrameFault) → IfSome told (λ left. IsUnlessOutside (Err fault) (length_at left)) → IfSome told (λ left. IsUnlessOutside (Err fault) (frame_at limit left))
frame_err None limit fault is = tt
frame_err (Some left) limit fault is = subst (IsUnlessOutside (Err fault)) (sym (frame_is limit left)) (err_behind limit left fault (length_at left) is)

none_behind : (limit : ℕ) (left : List ℕ) (seen : Result (Option ℕ) FrameFault) → IsUnlessOutside (Ok None) seen → IsUnlessOutside (Ok None) (behind_length limit left seen)
none_behind limit left seen (inl is) = inl (ap (behind_length limit left) is)
none_behind limit left seen (inr outside) = absurd outside

pub frame_none : (told : Option (List ℕ)) (limit : ℕ) → IfSome told (λ left. IsUnlessOutside (Ok None) (length_at left)) → IfSome told (λ left. IsUnlessOutside (Ok None) (frame_at limit left))
frame_none None limit is = tt
frame_none (Some left) limit is = subst (IsUnlessOutside (Ok None)) (sym (frame_is limit left)) (none_behind limit left (length_at left) is)

long_behind : (limit n : ℕ) (left : List ℕ) (seen : Result (Option ℕ) FrameFault) → limit < n → IsUnlessOutside (Ok (Some n)) seen → IsUnlessOutside (Err (TooLong n)) (behind_length limit left seen)
long_behind limit n left seen over (inl is) =
    let test : behind_length limit left (Ok (Some n)) ≡ Err (TooLong n) = rw (lt-ltb limit n over) refl in
    inl (sym test ∙ ap (behind_length limit left) is)
long_behind limit n left seen over (inr outside) = absurd outside

pub frame_long : (told : Option (List ℕ)) (limit n : ℕ) → limit < n → IfSome told (λ left. IsUnlessOutside (Ok (Some n)) (length_at left)) → IfSome told (λ left. IsUnlessOutside (Err (TooLong n)) (frame_at limit left))
frame_long None limit n over is = tt
frame_long (Some left) limit n over is = subst (IsUnlessOutside (Err (TooLong n))) (sym (frame_is limit left)) (long_behind limit n left (length_at left) over is)

payload_behind : (limit n : ℕ) (left rest : List ℕ) (seen : Result (Option ℕ) FrameFault) (result : Result (List ℕ) FrameFault) → n ≤ limit → drop 4 left ≡ rest → IsUnlessOutside (Ok (Some n)) seen
    → IsUnlessOutside result (payload_at n rest) → IsUnlessOutside (some_payload result) (behind_length limit left seen)
payload_behind limit n left rest seen result within front (inl is) (inl exact) =
    let test : behind_length limit left (Ok (Some n)) ≡ some_payload (payload_at n (drop 4 left)) = rw (le-ltb limit n within) refl in
    inl (ap some_payload (exact ∙ ap (payload_at n) (sym front)) ∙ sym test ∙ ap (behind_length limit left) is)
payload_behind limit n left rest seen (Ok payload) within front (inl is) (inr outside) = absurd outside
payload_behind limit n left rest seen (Err fault) within front (inl is) (inr outside) = inr outside
payload_behind limit n left rest seen result within front (inr outside) exact = absurd outside

pub frame_payload : (told mid : Option (List ℕ)) (limit n : ℕ) (result : Result (List ℕ) FrameFault) → n ≤ limit → Consumes told mid (length_text n)
    → IfSome told (λ left. IsUnlessOutside (Ok (Some n)) (length_at left)) → IfSome mid (λ left. IsUnlessOutside result (payload_at n left))
    → IfSome told (λ left. IsUnlessOutside (some_payload result) (frame_at limit left))
frame_payload None mid limit n result within taken is exact = tt
frame_payload (Some left) mid limit n result within taken is exact =
    let told = split_told left mid (length_text n) taken in
    let behind : drop 4 left ≡ told.0 =
    ap (drop 4) told.2 ∙ ap (λ k. drop k (length_text n ++ told.0)) (sym (four_long n)) ∙ drop-append_seam (length_text n) told.0 in
    let here = subst (λ o. IfSome o (λ rest. IsUnlessOutside result (payload_at n rest))) told.1 exact in
    subst (IsUnlessOutside (some_payload result)) (sym (frame_is limit left)) (payload_behind limit n left told.0 (length_at left) result within behind is here)

pub loses_more : (old mid new : Option (List ℕ)) (front : List ℕ) → Consumes old mid front → LosesSome mid new → LosesSome old new
loses_more old mid new front first (bytes, second) = (front ++ bytes, consumes_both old mid new front bytes first second)

-- ---- Laws

limited : (limit n : ℕ) (left : List ℕ) → n ≤ limit → behind_length limit left (Ok (Some n)) ≡ some_payload (payload_at n (drop 4 left))
limited limit n left within = rw (le-ltb limit n within) refl

payload_front : (payload rest : List ℕ) → payload_at (length payload) (payload ++ rest) ≡ Ok payload
payload_front payload rest =
    let many : length payload ≤ length (payload ++ rest) = omega (arith, length-append payload rest) in
    let front : take (length payload) (payload ++ rest) ≡ payload = take-append-le (length payload) payload rest (omega arith) ∙ take_all (length payload) payload (omega arith) in
    rw (le-ltb (length (payload ++ rest)) (length payload) many) (ap Ok front)

pub frame_reads : (payload rest : List ℕ) (limit : ℕ) → length payload ≤ limit → length payload < 2 ^ 32 → frame_at limit (frame_text payload ++ rest) ≡ Ok (Some payload)
unfolding length_text
frame_reads payload rest limit within fits =
    let head : List ℕ = length_text (length payload) in
    let bytes : List ℕ = head ++ payload ++ rest in
    let whole : bytes ≡ head ++ (payload ++ rest) = append_assoc head payload rest in
    let front : take 4 bytes ≡ head = ap (take 4) whole in
    let behind : drop 4 bytes ≡ payload ++ rest = ap (drop 4) whole in
    let long : 4 ≤ length bytes = omega (arith, ap length whole, length-append head (payload ++ rest), four_long (length payload)) in
    let read : from_be_bytes w32 (take 4 bytes) ≡ length payload = ap (from_be_bytes w32) front ∙ from_be_bytes-to_be_bytes_4 (length payload) fits in
    let seen : length_at bytes ≡ Ok (Some (length payload)) = length_of_four bytes long ∙ ap (λ n. Ok (Some n)) read in
    frame_is limit bytes ∙ ap (behind_length limit bytes) seen ∙ limited limit (length payload) bytes within
    ∙ ap (λ xs. some_payload (payload_at (length payload) xs)) behind ∙ ap some_payload (payload_front payload rest)

pub no_frame_begins_another : (a b x y : List ℕ) → length a < 2 ^ 32 → length b < 2 ^ 32 → frame_text a ++ x ≡ frame_text b ++ y → a ≡ b
no_frame_begins_another a b x y a_fits b_fits same =
    let limit : ℕ = 2 ^ 32 in
    let one : frame_at limit (frame_text a ++ x) ≡ Ok (Some a) = frame_reads a x limit (omega arith) a_fits in
    let other : frame_at limit (frame_text b ++ y) ≡ Ok (Some b) = frame_reads b y limit (omega arith) b_fits in
    let both = ap (frame_at limit) same in
    cc
