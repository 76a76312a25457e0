-- What the parts, the spelling and the text of a path have to do with each other.
use Rattle.std.proofs.Common.{◌≡◌, ◌≢◌, ℕ, zero, suc, ◌+◌, ◌≤◌, ◌<◌, Bool, true, false, cond, eqb, List, [], ◌∷◌, ◌++◌, length, take, drop, get_or, All, IsUtf8, Option, Some, sym, ◌∙◌, ap, subst, refl, lit≤, arith, append_assoc, codes, bytes_eq}
use Rattle.std.specs.List.{slice_split, onto_first, count_by, last_or}
use Rattle.std.proofs.lemmas.List.{append-nil, length-drop, length-append, take_at, take_all, drop_at, drop-drop, get_or_at, take-append-drop, drop_more}
use Rattle.std.proofs.lemmas.List.Elements.{All-nil, All-cons, All-head, All-tail, All-take, All-drop, All-same, All-weaker}
use Rattle.std.proofs.lemmas.List.Splits.{slice_split_none, length-slice_split}
use Rattle.std.proofs.lemmas.Str.{IsUtf8-take, IsUtf8-drop, IsCharBoundary-before_ascii, IsCharBoundary-after_ascii, IsUtf8-nil}
use Rattle.std.proofs.lemmas.Bool.Decides.{nat_tests}
use Rattle.std.proofs.lemmas.Slice.Eq.{bytes_eq-Decides}
use Rattle.weed_base.specs.Path.{IsPart, spelled, text_of, IsPath, parts_of, parts_in, parent_of, IsBelow}

-- the pieces of a text between its slashes
abbrev pub pieces : List ℕ → List (List ℕ)
pieces text = slice_split (λ b. eqb b 47) text

pub depth_is_count : (text : List ℕ) → length (parts_of text) ≡ count_by (λ b. eqb b 47) text
depth_is_count text = omega (arith, length-drop 1 (pieces text), length-slice_split (λ b. eqb b 47) text)

pub spelled-append : (xs ys : List (List ℕ)) → spelled (xs ++ ys) ≡ spelled xs ++ spelled ys
spelled-append [] ys = refl
spelled-append (x ∷ xs) ys = ap (λ rest. (47 ∷ x) ++ rest) (spelled-append xs ys) ∙ sym (append_assoc (47 ∷ x) (spelled xs) (spelled ys))

-- there is always a first piece
pub pieces_filled : (text : List ℕ) → (first : List ℕ) × (rest : List (List ℕ)) × (pieces text ≡ first ∷ rest)
pieces_filled [] = ([], [], refl)
pieces_filled (b ∷ text) =
    let more = pieces_filled text in
    elim (eqb b 47) as (λ t. (f : List ℕ) × (r : List (List ℕ)) × (cond t ([] ∷ pieces text) (onto_first b (pieces text)) ≡ f ∷ r)) [
      | true ↦ ([], pieces text, refl)
      | false ↦ (b ∷ more.0, more.1, ap (onto_first b) more.2)
    ]

onto_first-append : (b : ℕ) (xs ys : List (List ℕ)) (first : List ℕ) (rest : List (List ℕ)) → xs ≡ first ∷ rest → onto_first b (xs ++ ys) ≡ onto_first b xs ++ ys
onto_first-append b [] ys first rest is = absurd cc
onto_first-append b (x ∷ xs) ys first rest is = refl

-- a text is cut at each slash
pub pieces-append : (xs ys : List ℕ) → pieces (xs ++ 47 ∷ ys) ≡ pieces xs ++ pieces ys
pieces-append [] ys = refl
pieces-append (b ∷ xs) ys =
    let filled = pieces_filled xs in
    elim (eqb b 47) as (λ t. cond t ([] ∷ pieces (xs ++ 47 ∷ ys)) (onto_first b (pieces (xs ++ 47 ∷ ys))) ≡ cond t ([] ∷ pieces xs) (onto_first b (pieces xs)) ++ pieces ys) [
      | true ↦ ap (λ more. [] ∷ more) (pieces-append xs ys)
      | false ↦ ap (onto_first b) (pieces-append xs ys) ∙ onto_first-append b (pieces xs) (pieces ys) filled.0 filled.1 filled.2
    ]

drop_one-append : (xs ys : List (List ℕ)) (first : List ℕ) (rest : List (List ℕ)) → xs ≡ first ∷ rest → drop 1 (xs ++ ys) ≡ drop 1 xs ++ ys
drop_one-append [] ys first rest is = absurd cc
drop_one-append (x ∷ xs) ys first rest is = refl

pub parts_of-append : (xs ys : List ℕ) → parts_of (xs ++ 47 ∷ ys) ≡ parts_of xs ++ pieces ys
parts_of-append xs ys =
    let filled = pieces_filled xs in
    ap (drop 1) (pieces-append xs ys) ∙ drop_one-append (pieces xs) (pieces ys) filled.0 filled.1 filled.2

-- a text at one of its slashes
pub cut_at_slash : (text : List ℕ) (at : ℕ) → at < length text → get_or text at 0 ≡ 47 → text ≡ take at text ++ 47 ∷ drop (at + 1) text
cut_at_slash text at within slash =
    sym (take-append-drop at text) ∙ ap (λ rest. take at text ++ rest) (drop_more text at 0 within ∙ ap (λ b. b ∷ drop (at + 1) text) slash)

pub parts_of_at_slash : (text : List ℕ) (at : ℕ) → at < length text → get_or text at 0 ≡ 47 → parts_of text ≡ parts_of (take at text) ++ pieces (drop (at + 1) text)
parts_of_at_slash text at within slash =
    ap parts_of (cut_at_slash text at within slash) ∙ parts_of-append (take at text) (drop (at + 1) text)

pub pieces_plain : (text : List ℕ) → All (λ b. b ≢ 47) text → pieces text ≡ text ∷ []
pieces_plain text plain = slice_split_none (λ b. eqb b 47) text (λ k d within. grind (arith, nat_tests, plain k d within))

-- the last slash stands before the last part
pub parts_of_at_last : (text : List ℕ) (at : ℕ) → at < length text → get_or text at 0 ≡ 47 → All (λ b. b ≢ 47) (drop (at + 1) text) → parts_of text ≡ parts_of (take at text) ++ drop (at + 1) text ∷ []
parts_of_at_last text at within slash plain =
    parts_of_at_slash text at within slash ∙ ap (λ more. parts_of (take at text) ++ more) (pieces_plain (drop (at + 1) text) plain)

-- a slash before which there are n parts
pub take_parts : (text : List ℕ) (at n : ℕ) → at < length text → get_or text at 0 ≡ 47 → count_by (λ b. eqb b 47) (take at text) ≡ n → parts_of (take at text) ≡ take n (parts_of text)
take_parts text at n within slash count =
    sym (ap (take n) (parts_of_at_slash text at within slash) ∙ take_at (parts_of (take at text)) (pieces (drop (at + 1) text)) n (depth_is_count (take at text) ∙ count))

pub take_all_parts : (text : List ℕ) (at n : ℕ) → at ≡ length text → count_by (λ b. eqb b 47) text ≤ n → parts_of (take at text) ≡ take n (parts_of text)
take_all_parts text at n end count =
    ap parts_of (take_all at text (omega arith)) ∙ sym (take_all n (parts_of text) (omega (arith, depth_is_count text)))

-- what a path keeps: the spelling of its parts
abbrev pub IsKept : List ℕ → Type 0
IsKept bytes = (spelled (parts_of bytes) ≡ bytes) × IsPath (parts_of bytes)

spelled_onto_first : (b : ℕ) (pieces : List (List ℕ)) (text : List ℕ) → spelled pieces ≡ 47 ∷ text → spelled (onto_first b pieces) ≡ 47 ∷ b ∷ text
spelled_onto_first b [] text is = absurd cc
spelled_onto_first b (first ∷ rest) text is =
    let same : first ++ spelled rest ≡ text = cc in
    ap (λ more. 47 ∷ b ∷ more) same

pub spelled_pieces : (text : List ℕ) → spelled (pieces text) ≡ 47 ∷ text
spelled_pieces [] = refl
spelled_pieces (b ∷ text) =
    let more = spelled_pieces text in
    let tested : (t : Bool) → eqb b 47 ≡ t → spelled (cond t ([] ∷ pieces text) (onto_first b (pieces text))) ≡ 47 ∷ b ∷ text = elim [
      | true ↦ λ is. ap (λ rest. 47 ∷ rest) more ∙ ap (λ first. 47 ∷ first ∷ text) (sym (grind (arith, nat_tests, is)))
      | false ↦ λ is. spelled_onto_first b (pieces text) text more
    ] in
    tested (eqb b 47) refl

pub spelled-parts_of : (text : List ℕ) → spelled (parts_of (47 ∷ text)) ≡ 47 ∷ text
spelled-parts_of text = spelled_pieces text

-- a text that is spelled begins with a slash or is empty
spelled_take : (bytes : List ℕ) (n : ℕ) → spelled (parts_of bytes) ≡ bytes → spelled (parts_of (take n bytes)) ≡ take n bytes
spelled_take [] zero is = refl
spelled_take [] (suc n) is = refl
spelled_take (b ∷ bytes) zero is = refl
spelled_take (b ∷ bytes) (suc n) is =
    let begins : (parts : List (List ℕ)) → spelled parts ≡ b ∷ bytes → b ≡ 47 = elim [ [] ↦ λ e. absurd cc | part ∷ parts ↦ λ e. cc ] in
    subst (λ first. spelled (parts_of (first ∷ take n bytes)) ≡ first ∷ take n bytes) (sym (begins (parts_of (b ∷ bytes)) is)) (spelled-parts_of (take n bytes))

pub IsUtf8-before_slash : (xs ys : List ℕ) → IsUtf8 (xs ++ 47 ∷ ys) → IsUtf8 xs
IsUtf8-before_slash xs ys utf8 =
    let text = xs ++ 47 ∷ ys in
    let within : length xs < length text = omega (arith, length-append xs (47 ∷ ys)) in
    let slash : get_or text (length xs) 0 ≡ 47 = get_or_at xs 47 ys 0 (length xs) refl in
    subst IsUtf8 (take_at xs (47 ∷ ys) (length xs) refl) (IsUtf8-take text (length xs) utf8 (IsCharBoundary-before_ascii text (length xs) within (omega (arith, slash))))

pub IsUtf8-after_slash : (xs ys : List ℕ) → IsUtf8 (xs ++ 47 ∷ ys) → IsUtf8 ys
IsUtf8-after_slash xs ys utf8 =
    let text = xs ++ 47 ∷ ys in
    let within : length xs < length text = omega (arith, length-append xs (47 ∷ ys)) in
    let slash : get_or text (length xs) 0 ≡ 47 = get_or_at xs 47 ys 0 (length xs) refl in
    let rest : drop (length xs + 1) text ≡ ys = sym (drop-drop 1 (length xs) text) ∙ ap (drop 1) (drop_at xs (47 ∷ ys) (length xs) refl) in
    subst IsUtf8 rest (IsUtf8-drop text (length xs + 1) utf8 (IsCharBoundary-after_ascii text (length xs) utf8 within (omega (arith, slash))))

All-front : {X : Type 0} (P : X → Type 0) (xs ys : List X) → All P (xs ++ ys) → All P xs
All-front P xs ys all = All-same P xs (take (length xs) (xs ++ ys)) (sym (take_at xs ys (length xs) refl)) (All-take P (length xs) (xs ++ ys) all)

pub root_is_path : IsPath []
unfolding lib.Utf8.encode
root_is_path = record {
  each = All-nil IsPart;
  few = lit≤ tt;
  short = lit≤ tt;
  no_zero = All-cons (λ b. b ≢ 0) 47 [] (λ e. absurd (omega (arith, e))) (All-nil (λ b. b ≢ 0));
  utf8 = (47 ∷ [], (refl, refl));
}

utf8_front : (xs ys : List (List ℕ)) → IsUtf8 (spelled xs ++ spelled ys) → IsUtf8 (spelled xs)
utf8_front xs [] utf8 = subst IsUtf8 (append-nil (spelled xs)) utf8
utf8_front xs (y ∷ ys) utf8 = IsUtf8-before_slash (spelled xs) (y ++ spelled ys) utf8

-- first parts of a path are a path
pub IsPath-front : (xs ys : List (List ℕ)) → IsPath (xs ++ ys) → IsPath xs
IsPath-front [] ys path = root_is_path
IsPath-front (x ∷ xs) ys path =
    let text : text_of ((x ∷ xs) ++ ys) ≡ spelled (x ∷ xs) ++ spelled ys = spelled-append (x ∷ xs) ys in
    record {
      each = All-front IsPart (x ∷ xs) ys path.each;
      few = omega (arith, path.few, length-append (x ∷ xs) ys);
      short = omega (arith, path.short, ap length text, length-append (spelled (x ∷ xs)) (spelled ys));
      no_zero = All-front (λ b. b ≢ 0) (spelled (x ∷ xs)) (spelled ys) (subst (All (λ b. b ≢ 0)) text path.no_zero);
      utf8 = utf8_front (x ∷ xs) ys (subst IsUtf8 text path.utf8);
    }

-- so are bytes of a path up to the end of a part
pub IsKept-front : (bytes : List ℕ) (end : ℕ) (rest : List (List ℕ)) → IsKept bytes → parts_of bytes ≡ parts_of (take end bytes) ++ rest → IsKept (take end bytes)
IsKept-front bytes end rest kept is =
    (spelled_take bytes end kept.0, IsPath-front (parts_of (take end bytes)) rest (subst IsPath is kept.1))

pub IsKept-take : (bytes : List ℕ) (end n : ℕ) → IsKept bytes → parts_of (take end bytes) ≡ take n (parts_of bytes) → IsKept (take end bytes)
IsKept-take bytes end n kept is =
    let whole : parts_of bytes ≡ parts_of (take end bytes) ++ drop n (parts_of bytes) =
    sym (ap (λ front. front ++ drop n (parts_of bytes)) is ∙ take-append-drop n (parts_of bytes)) in
    IsKept-front bytes end (drop n (parts_of bytes)) kept whole

-- the last of some parts, and those before it
pub last_or-append : (xs : List (List ℕ)) (last : List ℕ) (other : Option (List ℕ)) → last_or other (xs ++ last ∷ []) ≡ Some last
last_or-append [] last other = refl
last_or-append (x ∷ xs) last other = last_or-append xs last (Some x)

pub parent_of-append : (xs : List (List ℕ)) (last : List ℕ) → parent_of (xs ++ last ∷ []) ≡ Some xs
parent_of-append [] last = refl
parent_of-append (x ∷ xs) last = ap Some (take_at (x ∷ xs) (last ∷ []) (length (xs ++ last ∷ [])) (omega (arith, length-append xs (last ∷ []))))

-- no piece between slashes has a slash
onto_first_plain : (b : ℕ) (xs : List (List ℕ)) → b ≢ 47 → All (All (λ c. c ≢ 47)) xs → All (All (λ c. c ≢ 47)) (onto_first b xs)
onto_first_plain b [] other plain = All-cons (All (λ c. c ≢ 47)) (b ∷ []) [] (All-cons (λ c. c ≢ 47) b [] other (All-nil (λ c. c ≢ 47))) plain
onto_first_plain b (first ∷ rest) other plain =
    All-cons (All (λ c. c ≢ 47)) (b ∷ first) rest
    (All-cons (λ c. c ≢ 47) b first other (All-head (All (λ c. c ≢ 47)) first rest plain))
    (All-tail (All (λ c. c ≢ 47)) first rest plain)

pieces_are_plain : (text : List ℕ) → All (All (λ c. c ≢ 47)) (pieces text)
pieces_are_plain [] = All-cons (All (λ c. c ≢ 47)) [] [] (All-nil (λ c. c ≢ 47)) (All-nil (All (λ c. c ≢ 47)))
pieces_are_plain (b ∷ text) =
    let more = pieces_are_plain text in
    let tested : (t : Bool) → eqb b 47 ≡ t → All (All (λ c. c ≢ 47)) (cond t ([] ∷ pieces text) (onto_first b (pieces text))) = elim [
      | true ↦ λ is. All-cons (All (λ c. c ≢ 47)) [] (pieces text) (All-nil (λ c. c ≢ 47)) more
      | false ↦ λ is. onto_first_plain b (pieces text) (grind (arith, nat_tests, is)) more
    ] in
    tested (eqb b 47) refl

pub parts_are_plain : (text : List ℕ) → All (All (λ c. c ≢ 47)) (parts_of text)
parts_are_plain text = All-drop (All (λ c. c ≢ 47)) 1 (pieces text) (pieces_are_plain text)

-- parts without slashes are those of their spelling
pub parts_of-spelled : (parts : List (List ℕ)) → All (All (λ c. c ≢ 47)) parts → parts_of (spelled parts) ≡ parts
parts_of-spelled [] plain = refl
parts_of-spelled (part ∷ []) plain = ap pieces (append-nil part) ∙ pieces_plain part (All-head (All (λ c. c ≢ 47)) part [] plain)
parts_of-spelled (part ∷ next ∷ more) plain =
    pieces-append part (next ++ spelled more)
    ∙ ap (λ first. first ++ parts_of (spelled (next ∷ more))) (pieces_plain part (All-head (All (λ c. c ≢ 47)) part (next ∷ more) plain))
    ∙ ap (λ rest. part ∷ rest) (parts_of-spelled (next ∷ more) (All-tail (All (λ c. c ≢ 47)) part (next ∷ more) plain))

pub IsPath-plain : (parts : List (List ℕ)) → IsPath parts → All (All (λ c. c ≢ 47)) parts
IsPath-plain parts path = All-weaker IsPart (All (λ c. c ≢ 47)) (λ part is. is.plain) parts path.each

-- the parts of a path are those of its text
pub parts_in-text_of : (parts : List (List ℕ)) → IsPath parts → parts_in (text_of parts) ≡ parts
parts_in-text_of [] path = refl
parts_in-text_of (part ∷ parts) path =
    let text = spelled (part ∷ parts) in
    let filled = All-head IsPart part parts path.each in
    let long : text ≢ codes "/" = λ e. absurd (omega (arith, filled.filled, ap length e, length-append part (spelled parts))) in
    let tested : (t : Bool) → bytes_eq text (codes "/") ≡ t → cond t [] (parts_of text) ≡ part ∷ parts = elim [
      | true ↦ λ is. absurd (long ((bytes_eq-Decides text (codes "/")).0 is))
      | false ↦ λ is. parts_of-spelled (part ∷ parts) (IsPath-plain (part ∷ parts) path)
    ] in
    tested (bytes_eq text (codes "/")) refl

-- a path has one text, and a text one path
pub one_path_each : (a b : List (List ℕ)) → IsPath a → IsPath b → text_of a ≡ text_of b → a ≡ b
one_path_each a b path other same = sym (parts_in-text_of a path) ∙ ap parts_in same ∙ parts_in-text_of b other

text_of_filled : (parts : List (List ℕ)) (first : List ℕ) (rest : List (List ℕ)) → parts ≡ first ∷ rest → text_of parts ≡ spelled parts
text_of_filled [] first rest is = absurd cc
text_of_filled (part ∷ parts) first rest is = refl

-- a text that begins with a slash is that of its parts
pub text_of-parts_in : (text : List ℕ) → text_of (parts_in (47 ∷ text)) ≡ 47 ∷ text
text_of-parts_in [] = refl
text_of-parts_in (b ∷ text) =
    let filled = pieces_filled (b ∷ text) in
    text_of_filled (pieces (b ∷ text)) filled.0 filled.1 filled.2 ∙ spelled_pieces (b ∷ text)

pub parts_in_are_plain : (text : List ℕ) → All (All (λ c. c ≢ 47)) (parts_in text)
parts_in_are_plain text =
    let chosen : (t : Bool) → All (All (λ c. c ≢ 47)) (cond t [] (parts_of text)) = elim [ true ↦ All-nil (All (λ c. c ≢ 47)) | false ↦ parts_are_plain text ] in
    chosen (bytes_eq text (codes "/"))

-- the bytes of a path are short, valid and without a zero byte
pub kept_bytes : (parts : List (List ℕ)) (bytes : List ℕ) → spelled parts ≡ bytes → IsPath parts → (length bytes ≤ 4096) × All (λ b. b ≢ 0) bytes × IsUtf8 bytes
kept_bytes [] bytes is path =
    (subst (λ t. length t ≤ 4096) is (lit≤ tt), subst (All (λ b. b ≢ 0)) is (All-nil (λ b. b ≢ 0)), subst IsUtf8 is IsUtf8-nil)
kept_bytes (part ∷ parts) bytes is path =
    (subst (λ t. length t ≤ 4096) is path.short, subst (All (λ b. b ≢ 0)) is path.no_zero, subst IsUtf8 is path.utf8)

-- one part more
pub spelled-push : (bytes name : List ℕ) → spelled (parts_of bytes) ≡ bytes → spelled (parts_of bytes ++ name ∷ []) ≡ bytes ++ 47 ∷ name
spelled-push bytes name is =
    spelled-append (parts_of bytes) (name ∷ []) ∙ ap (λ front. front ++ ((47 ∷ name) ++ [])) is ∙ ap (λ last. bytes ++ 47 ∷ last) (append-nil name)

pub text_of-push : (parts : List (List ℕ)) (name : List ℕ) → text_of (parts ++ name ∷ []) ≡ spelled (parts ++ name ∷ [])
text_of-push [] name = refl
text_of-push (part ∷ parts) name = refl

pub parts_of-push : (bytes name : List ℕ) → All (λ b. b ≢ 47) name → parts_of (bytes ++ 47 ∷ name) ≡ parts_of bytes ++ name ∷ []
parts_of-push bytes name plain = parts_of-append bytes name ∙ ap (λ last. parts_of bytes ++ last) (pieces_plain name plain)

-- below a path are those whose bytes go on by a slash
pub below_from_bytes : (bytes top rest : List ℕ) → bytes ≡ top ++ 47 ∷ rest → IsBelow (parts_of bytes) (parts_of top)
below_from_bytes bytes top rest is =
    let filled = pieces_filled rest in
    (filled.0, filled.1, ap parts_of is ∙ parts_of-append top rest ∙ ap (λ more. parts_of top ++ more) filled.2)

pub bytes_from_below : (bytes top : List ℕ) → IsKept bytes → IsKept top → IsBelow (parts_of bytes) (parts_of top) → (rest : List ℕ) × (bytes ≡ top ++ 47 ∷ rest)
bytes_from_below bytes top kept kept_top below = (
  below.0 ++ spelled below.1,
  sym kept.0 ∙ ap spelled below.2 ∙ spelled-append (parts_of top) (below.0 ∷ below.1) ∙ ap (λ front. front ++ spelled (below.0 ∷ below.1)) kept_top.0,
)
