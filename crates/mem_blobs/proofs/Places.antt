-- One needle more behind the others.
use Rattle.std.proofs.Common.{◌≡◌, ◌≢◌, ℕ, zero, suc, ◌+◌, ◌-◌, ◌<◌, ◌^◌, ◌%◌, Bool, true, false, cond, eqb, List, [], ◌∷◌, ◌++◌, length, Option, None, Some, refl, sym, ap, ◌∙◌, arith}
use Rattle.std.specs.Prelude.{slice_get, option_and_then, nat_lt, ◌&&◌}
use Rattle.std.proofs.Math.Path.{fun_ext}
use Rattle.std.proofs.lemmas.Bool.{eqb-true, eqb-false, eq-eqb, lt-ltb, ltb-true, false≢true}
use Rattle.std.proofs.lemmas.Bool.Decides.{nat_tests}
use Rattle.std.proofs.lemmas.Option.{slice_get_past}
use Rattle.file_id.specs.declared.fid.Fid.{Fid}
use Rattle.entry.specs.Needles.{NeedleText, Puts, same_fid, with_needle}
use Rattle.mem_blobs.specs.MemBlobs.{fid_at, index_of, needles_in}

get_more : (items : List NeedleText) (last : NeedleText) (i : ℕ) → i ≢ length items → slice_get (items ++ last ∷ []) i ≡ slice_get items i
get_more [] last zero other = absurd (other refl)
get_more [] last (suc i) other = refl
get_more (x ∷ items) last zero other = refl
get_more (x ∷ items) last (suc i) other = let apart : i ≢ length items = λ same. other (omega (arith, same)) in get_more items last i apart

get_last : (items : List NeedleText) (last : NeedleText) → slice_get (items ++ last ∷ []) (length items) ≡ Some last
get_last [] last = refl
get_last (x ∷ items) last = get_last items last

-- At an id of that volume and cookie
at_own : (items : List NeedleText) (last : NeedleText) (key own : ℕ) (is_key : Bool) → eqb own key ≡ is_key → 0 < own → key ≡ length items + 1
    → slice_get (items ++ last ∷ []) (own - 1) ≡ cond is_key (Some last) (slice_get items (own - 1))
at_own items last key own true same some is =
    ap (slice_get (items ++ last ∷ [])) (let e : own - 1 ≡ length items = omega (arith, eqb-true own key same, is) in e) ∙ get_last items last
at_own items last key own false same some is =
    get_more items last (own - 1) (λ e. eqb-false own key same (omega (arith, e, is, some)))

cookies : (own key : ℕ) → eqb own key ≡ true → own % 2 ^ 32 ≡ key % 2 ^ 32
cookies own key same = ap (λ n. n % 2 ^ 32) (eqb-true own key same)

-- Of the three tests of an id, with its key's own cookie for the other's
tests_more : (volume above cookie is_key key_cookie : Bool) (grown old : Option NeedleText) (last : NeedleText)
    → (is_key ≡ true → above ≡ true) → (is_key ≡ true → cookie ≡ key_cookie) → (above ≡ true → grown ≡ cond is_key (Some last) old)
    → cond (above && (volume && true && cookie)) grown None ≡ cond (volume && is_key && key_cookie) (Some last) (cond (above && (volume && true && cookie)) old None)
tests_more false true cookie is_key key_cookie grown old last some same more = refl
tests_more false false cookie is_key key_cookie grown old last some same more = refl
tests_more true true true true true grown old last some same more = more refl
tests_more true true true true false grown old last some same more = absurd (false≢true (sym (same refl)))
tests_more true true true false key_cookie grown old last some same more = more refl
tests_more true true false true true grown old last some same more = absurd (false≢true (same refl))
tests_more true true false true false grown old last some same more = refl
tests_more true true false false key_cookie grown old last some same more = refl
tests_more true false cookie true key_cookie grown old last some same more = absurd (false≢true (some refl))
tests_more true false cookie false key_cookie grown old last some same more = refl

opened : (test : Bool) (i : ℕ) (items : List NeedleText) → option_and_then (λ k. slice_get items k) (cond test (Some i) None) ≡ cond test (slice_get items i) None
opened true i items = refl
opened false i items = refl

pub more_at : (items : List NeedleText) (last : NeedleText) (key : ℕ) (other : Fid) → key ≡ length items + 1 →
    needles_in (items ++ last ∷ []) other ≡ cond (same_fid other (fid_at key)) (Some last) (needles_in items other)
more_at items last key other is =
    let above : Bool = nat_lt 0 other.key in
    let volume : Bool = eqb other.volume 1 in
    let cookie : Bool = eqb other.cookie (other.key % 2 ^ 32) in
    let is_key : Bool = eqb other.key key in
    let key_cookie : Bool = eqb other.cookie (key % 2 ^ 32) in
    let i : ℕ = other.key - 1 in
    let self_same : eqb other.key other.key ≡ true = eq-eqb other.key other.key refl in
    let own : (above && same_fid other (fid_at other.key)) ≡ (above && (volume && true && cookie)) = ap (λ b. above && (volume && b && cookie)) self_same in
    let all = λ (xs : List NeedleText). opened (above && same_fid other (fid_at other.key)) i xs ∙ ap (λ b. cond b (slice_get xs i) None) own in
    all (items ++ last ∷ [])
    ∙ tests_more volume above cookie is_key key_cookie (slice_get (items ++ last ∷ []) i) (slice_get items i) last
    (λ same. lt-ltb 0 other.key (omega (arith, eqb-true other.key key same, is)))
    (λ same. ap (eqb other.cookie) (cookies other.key key same))
    (λ some. at_own items last key other.key is_key refl (ltb-true 0 other.key some) is)
    ∙ ap (cond (volume && is_key && key_cookie) (Some last)) (sym (all items))

index_at : (key : ℕ) → 0 < key → index_of (fid_at key) ≡ Some (key - 1)
index_at key some = grind (arith, nat_tests)

pub puts_next : (items grown : List NeedleText) (bytes : List ℕ) (fid : Fid) (key : ℕ) → key ≡ length items + 1 → fid ≡ fid_at key → grown ≡ items ++ record { bytes = bytes; is_held = true } ∷ []
    → Puts fid bytes (Some (needles_in items)) (Some (needles_in grown))
puts_next items grown bytes fid key is fid_is grown_is = record {
  fresh = ap (needles_in items) fid_is ∙ ap (option_and_then (λ k. slice_get items k)) (index_at key (omega arith)) ∙ slice_get_past items (key - 1) (omega arith);
  added = ap Some (ap needles_in grown_is ∙ fun_ext (λ other. more_at items (record { bytes = bytes; is_held = true }) key other is ∙ ap (λ f. with_needle f bytes (needles_in items) other) (sym fid_is)));
}
