-- One read or write after another.
use Rattle.std.proofs.Common.{◌≡◌, ℕ, ◌+◌, ◌<◌, min, inl, inr, refl, List, ◌++◌, length, take, drop, Option, Some, None, Result, Ok, Err, sym, ap, subst, ◌∙◌, arith, append_assoc, length-append}
use Rattle.std.proofs.lemmas.List.{take_min, take-append-le}
use Rattle.std.proofs.Math.Seq.{take-append-add}
use Rattle.std.specs.Option.{option_map}
use Rattle.std.specs.Prelude.{IsErr}
use Rattle.weed_base.proofs.ReadLemmas.{take-add}
use Rattle.weed_base.specs.Told.{Appends, Consumes, IsWriteFault}
use Rattle.weed_base.specs.Whole.{AppendsFront, WritesAll}

-- the bytes of one write behind those of another
pub appends_both : (old mid new : Option (List ℕ)) (xs ys : List ℕ) → Appends old mid xs → Appends mid new ys → Appends old new (xs ++ ys)
appends_both None mid new xs ys first second = second ∙ ap (option_map (λ written. written ++ ys)) first
appends_both (Some text) mid new xs ys first second =
    second ∙ ap (option_map (λ written. written ++ ys)) first ∙ ap Some (append_assoc text xs ys)

-- the bytes of one write behind first ones
pub appends_more : (old mid new : Option (List ℕ)) (bytes : List ℕ) (m n : ℕ) → Appends old mid (take m bytes) → Appends mid new (take n (drop m bytes)) → Appends old new (take (m + n) bytes)
appends_more old mid new bytes m n first second =
    let both = appends_both old mid new (take m bytes) (take n (drop m bytes)) first second in
    subst (Appends old new) (sym (take-add m n bytes)) both

-- first bytes, whatever was to follow
pub front_first : (old new : Option (List ℕ)) (ys zs : List ℕ) → AppendsFront old new ys → AppendsFront old new (ys ++ zs)
front_first old new ys zs (count, some, less) =
    let n = min count (length ys) in
    let cut : take n (ys ++ zs) ≡ take count ys = take-append-le n ys zs (omega arith) ∙ take_min count ys in
    (n, subst (Appends old new) (sym cut) some, omega (arith, less, length-append ys zs))

-- a whole write behind that of other bytes
pub writes_behind : {T E : Type 0} (old mid new : Option (List ℕ)) (result : Result T E) (xs ys : List ℕ) → Appends old mid xs → WritesAll mid new result ys → WritesAll old new result (xs ++ ys)
writes_behind old mid new (Ok value) xs ys first second = appends_both old mid new xs ys first second
writes_behind old mid new (Err fault) xs ys first (count, second, less) =
    (length xs + count, subst (Appends old new) (sym (take-append-add xs ys count)) (appends_both old mid new xs (take count ys) first second), omega (arith, less, length-append xs ys))

ok_is : {E : Type 0} (result : Result ℕ E) (count other : ℕ) → result ≡ Ok count → result ≡ Ok other → count ≡ other
ok_is result count other first second = cc

-- a write that took some bytes didn't fail
pub took_some : {E : Type 0} (count : ℕ) (piece : List ℕ) → 0 < count → ¬ IsWriteFault {E = E} (Ok count) piece
took_some count piece some (inl failed) = absurd (cc)
took_some {E = E} count piece some (inr none) = omega (arith, some, ok_is {E = E} (Ok count) count 0 refl none.0)

-- the bytes of one read behind those of another
pub consumes_both : (old mid new : Option (List ℕ)) (xs ys : List ℕ) → Consumes old mid xs → Consumes mid new ys → Consumes old new (xs ++ ys)
consumes_both old mid None xs ys first second = first ∙ ap (option_map (λ left. xs ++ left)) second
consumes_both old mid (Some text) xs ys first second =
    first ∙ ap (option_map (λ left. xs ++ left)) second ∙ ap Some (sym (append_assoc xs ys text))

-- the bytes of one read in a room behind the first ones
pub consumes_more : (old mid new : Option (List ℕ)) (before now : List ℕ) (m n : ℕ) → Consumes old mid (take m before) → take m now ≡ take m before
    → Consumes mid new (take n (drop m now)) → Consumes old new (take (m + n) now)
consumes_more old mid new before now m n first kept second =
    let both = consumes_both old mid new (take m now) (take n (drop m now)) (subst (Consumes old mid) (sym kept) first) second in
    subst (Consumes old new) (sym (take-add m n now)) both

-- an Ok is no failure
pub ok_quiet : (E : Type 0) (count : ℕ) → ¬ IsErr {T = ℕ} {E = E} (Ok count)
ok_quiet E count failed = absurd (cc)
