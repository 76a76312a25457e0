-- A request ends with the first empty line of whatever begins with it.
use Rattle.std.proofs.Common.{◌≡◌, ℕ, ◌+◌, ◌<◌, ◌≤◌, Bool, true, false, cond, not, List, [], ◌∷◌, ◌++◌, length, take, drop, zero, suc, codes, Option, Some, None, IfSome, IsTrue, refl, sym, ap, subst, ◌∙◌, arith, append_assoc, ⊎_elim, ◌==◌, nat_eq}
use Rattle.std.specs.Option.{option_map}
use Rattle.std.specs.Cmp.Lexicographic.{pointwise}
use Rattle.std.specs.List.{list_all}
use Rattle.std.proofs.lemmas.Bool.{cases_order, cases_lt, and_parts, and_from, cond-true, cond-false, cases_Bool, not-true, both_ways, and_left, ne_eqb, not_from_false, false≢true}
use Rattle.std.proofs.lemmas.List.{append-nil, take_at, length-append, length-take, length-drop, take-append-le, drop-append-le}
use Rattle.std.proofs.lemmas.List.Folds.{list_all-append}
use Rattle.std.proofs.lemmas.Option.{none-some, same_Some}
use Rattle.std.proofs.lemmas.Slice.Eq.{bytes_eq-Decides}
use Rattle.weed_command.specs.Request.{IsRequest, is_target_byte, is_host_byte, is_framed, is_target, is_host, host_line, request_text}
use Rattle.weed_command.specs.Reading.{target_of}
use Rattle.weed_command.proofs.ReadingLemmas.{target_of-request}
use Rattle.weed_command.specs.HeadEnd.{IsEndAt, HasNoEndBelow, IsHeadLength}

-- the place of the first end, by a walk over the bytes
abbrev scan : List ℕ → Option ℕ
scan [] = None
scan (b ∷ bs) = cond (pointwise nat_eq (take 3 (b ∷ bs)) (codes "\n\r\n")) (Some 0) (option_map (λ k. suc k) (scan bs))

abbrev is_plain : ℕ → Bool
is_plain b = not (b == 10)

scan-skip : (xs ys : List ℕ) (k : ℕ) → list_all is_plain xs ≡ true → scan ys ≡ Some k → scan (xs ++ ys) ≡ Some (length xs + k)
scan-skip [] ys k plain found = found ∙ ap Some (omega arith)
scan-skip (x ∷ xs) ys k plain found =
    let parts = and_parts (is_plain x) (list_all is_plain xs) plain in
    let other : (x == 10) ≡ false = not-true (x == 10) parts.0 in
    let rest = scan-skip xs ys k parts.1 found in
    cond-false _ _ _ (and_left _ _ other) ∙ ap (option_map suc) rest ∙ ap Some (omega arith)

-- no end stands below a place where none stands first and none later
below_next : (b : ℕ) (bs : List ℕ) (j : ℕ) → pointwise nat_eq (take 3 (b ∷ bs)) (codes "\n\r\n") ≡ false → HasNoEndBelow bs j → HasNoEndBelow (b ∷ bs) (suc j)
below_next b bs j later none zero _ stands = both_ways _ later ((bytes_eq-Decides (take 3 (b ∷ bs)) (codes "\n\r\n")).1 stands)
below_next b bs j later none (suc place) below stands = none place (omega arith) stands

-- the walk finds the first end
scan_is : (bytes : List ℕ) (k : ℕ) → scan bytes ≡ Some k → IsEndAt bytes k × HasNoEndBelow bytes k
scan_is [] k found = absurd (none-some k found)
scan_is (b ∷ bs) k found =
    ⊎_elim
    (λ here.
    let zero_is : 0 ≡ k = same_Some 0 k (sym (cond-true _ _ _ here) ∙ found) in
    let P = λ (n : ℕ). IsEndAt (b ∷ bs) n × HasNoEndBelow (b ∷ bs) n in
    subst P zero_is ((bytes_eq-Decides (take 3 (b ∷ bs)) (codes "\n\r\n")).0 here, λ place below. absurd (omega arith)))
    (λ later. later_is (scan_is bs) (scan bs) refl later (sym (cond-false _ _ _ later) ∙ found))
    (cases_Bool (pointwise nat_eq (take 3 (b ∷ bs)) (codes "\n\r\n")))
  where
    later_is : ((j : ℕ) → scan bs ≡ Some j → IsEndAt bs j × HasNoEndBelow bs j) → (o : Option ℕ) → scan bs ≡ o → pointwise nat_eq (take 3 (b ∷ bs)) (codes "\n\r\n") ≡ false → option_map suc o ≡ Some k → IsEndAt (b ∷ bs) k × HasNoEndBelow (b ∷ bs) k
    later_is _ None _ _ e = absurd (none-some k e)
    later_is by_rest (Some j) rest later e =
        let found = by_rest j rest in
        let next : suc j ≡ k = same_Some (suc j) k e in
        let P = λ (n : ℕ). IsEndAt (b ∷ bs) n × HasNoEndBelow (b ∷ bs) n in
        subst P next (found.0, below_next b bs j later found.1)

-- bytes that may stand in a target or a host end no line
list_all-weaker : (p q : ℕ → Bool) → ((b : ℕ) → p b ≡ true → q b ≡ true) → (xs : List ℕ) → list_all p xs ≡ true → list_all q xs ≡ true
list_all-weaker p q weaker [] all = refl
list_all-weaker p q weaker (x ∷ xs) all =
    let parts = and_parts (p x) (list_all p xs) all in
    and_from _ _ (weaker x parts.0) (list_all-weaker p q weaker xs parts.1)

target_plain : (b : ℕ) → is_target_byte b ≡ true → is_plain b ≡ true
target_plain b test = not_from_false (b == 10) (ne_eqb b 10 (λ same. false≢true (subst (λ n. is_target_byte n ≡ true) same test)))

host_plain : (b : ℕ) → is_host_byte b ≡ true → is_plain b ≡ true
host_plain b test = not_from_false (b == 10) (ne_eqb b 10 (λ same. false≢true (subst (λ n. is_host_byte n ≡ true) same test)))

-- a text of plain bytes between plain literals
plain_between : (front mid back : List ℕ) → list_all is_plain front ≡ true → list_all is_plain mid ≡ true → list_all is_plain back ≡ true → list_all is_plain (front ++ (mid ++ back)) ≡ true
plain_between front mid back f m b =
    list_all-append is_plain front (mid ++ back) ∙ and_from _ _ f (list_all-append is_plain mid back ∙ and_from _ _ m b)

-- the first line without its end
abbrev first_line : List ℕ → List ℕ
first_line target = codes "POST " ++ (target ++ codes " HTTP/1.1\r")

-- the host's line without its end
abbrev second_line : List ℕ → List ℕ
second_line host = codes "Host: " ++ (host ++ codes "\r")

-- bytes regrouped at the end of a line
regroup : (front mid back after : List ℕ) → (front ++ (mid ++ back)) ++ after ≡ front ++ (mid ++ (back ++ after))
regroup front mid back after = append_assoc front (mid ++ back) after ∙ ap (λ xs. front ++ xs) (append_assoc mid back after)

-- the place of the first end in what begins with a request
record EndsAt (bytes : List ℕ) (count : ℕ) : Type 0 where
  place : ℕ
  found : scan bytes ≡ Some place
  ends : count ≡ place + 3

bare_is : (target rest : List ℕ) → request_text target None ++ rest ≡ first_line target ++ (codes "\n\r\n" ++ rest)
bare_is target rest =
    regroup (codes "POST ") target (codes " HTTP/1.1\r\n\r\n") rest
    ∙ sym (regroup (codes "POST ") target (codes " HTTP/1.1\r") (codes "\n\r\n" ++ rest))

named_is : (target host rest : List ℕ) → request_text target (Some host) ++ rest ≡ first_line target ++ (10 ∷ (second_line host ++ (codes "\n\r\n" ++ rest)))
named_is target host rest =
    let lines = host_line (Some host) ++ codes "\r\n" in
    let line_end = codes "\r\n" in
    let host_end : ((host ++ line_end) ++ line_end) ++ rest ≡ (host ++ codes "\r") ++ (codes "\n\r\n" ++ rest) =
    append_assoc (host ++ line_end) line_end rest
    ∙ append_assoc host line_end (line_end ++ rest)
    ∙ sym (append_assoc host (codes "\r") (codes "\n\r\n" ++ rest)) in
    regroup (codes "POST ") target (codes " HTTP/1.1\r\n" ++ lines) rest
    ∙ ap (λ xs. codes "POST " ++ (target ++ (codes " HTTP/1.1\r\nHost: " ++ xs))) host_end
    ∙ sym (regroup (codes "POST ") target (codes " HTTP/1.1\r") (10 ∷ (second_line host ++ (codes "\n\r\n" ++ rest))))

first_plain : (target : List ℕ) → is_target target ≡ true → list_all is_plain (first_line target) ≡ true
first_plain target form =
    let bytes = (and_parts (is_framed target) (list_all is_target_byte target) form).1 in
    plain_between (codes "POST ") target (codes " HTTP/1.1\r") refl (list_all-weaker is_target_byte is_plain target_plain target bytes) refl

second_plain : (host : List ℕ) → is_host host ≡ true → list_all is_plain (second_line host) ≡ true
second_plain host form =
    let bytes = (and_parts _ (list_all is_host_byte host) form).1 in
    plain_between (codes "Host: ") host (codes "\r") refl (list_all-weaker is_host_byte is_plain host_plain host bytes) refl

ends_bare : (target rest : List ℕ) → is_target target ≡ true → EndsAt (request_text target None ++ rest) (length (request_text target None))
ends_bare target rest form =
    let line = first_line target in
    record {
      place = length line + 0;
      found = ap scan (bare_is target rest) ∙ scan-skip line (codes "\n\r\n" ++ rest) 0 (first_plain target form) refl;
      ends = ap length (sym (append-nil (request_text target None)) ∙ bare_is target []) ∙ length-append line (codes "\n\r\n") ∙ (omega arith);
    }

ends_named : (target host rest : List ℕ) → is_target target ≡ true → is_host host ≡ true → EndsAt (request_text target (Some host) ++ rest) (length (request_text target (Some host)))
ends_named target host rest form host_form =
    let line = first_line target in
    let next = second_line host in
    let empty = codes "\n\r\n" in
    let after_first : scan (10 ∷ (next ++ (empty ++ rest))) ≡ Some (suc (length next + 0)) =
    ap (option_map suc) (scan-skip next (empty ++ rest) 0 (second_plain host host_form) refl) in
    let count : length (request_text target (Some host)) ≡ length line + length (10 ∷ (next ++ empty)) =
    ap length (sym (append-nil (request_text target (Some host))) ∙ named_is target host []) ∙ length-append line (10 ∷ (next ++ empty)) in
    record {
      place = length line + suc (length next + 0);
      found = ap scan (named_is target host rest) ∙ scan-skip line (10 ∷ (next ++ (empty ++ rest))) (suc (length next + 0)) (first_plain target form) after_first;
      ends = count ∙ omega (arith, length-append next empty);
    }

ends_request : (target rest : List ℕ) (host : Option (List ℕ)) → is_target target ≡ true → IfSome host (λ name. IsTrue (is_host name)) → EndsAt (request_text target host ++ rest) (length (request_text target host))
ends_request target rest None form _ = ends_bare target rest form
ends_request target rest (Some host) form host_form = ends_named target host rest form host_form

-- whatever begins with a request has its first end where the request ends
pub head_of_request : (text target rest : List ℕ) → IsRequest text target → IsHeadLength (text ++ rest) (length text)
head_of_request text target rest request =
    let P = λ (xs : List ℕ). IsHeadLength (xs ++ rest) (length xs) in
    let ends = ends_request target rest request.host request.target_form request.host_form in
    let found = scan_is (request_text target request.host ++ rest) ends.place ends.found in
    subst P (sym request.spelled) (record { place = ends.place; ends = ends.ends; stands = found.0; first = found.1 })

pub end_fits : (bytes : List ℕ) (place : ℕ) → IsEndAt bytes place → place + 3 ≤ length bytes
end_fits bytes place stands =
    let count : length (take 3 (drop place bytes)) ≡ 3 = ap length stands in
    omega (arith, length-take 3 (drop place bytes), length-drop place bytes)

-- an end within a window is one whatever follows
pub end-append : (window more : List ℕ) (place : ℕ) → place + 3 ≤ length window → take 3 (drop place (window ++ more)) ≡ take 3 (drop place window)
end-append window more place fits =
    ap (take 3) (drop-append-le place window more (omega arith))
    ∙ take-append-le 3 (drop place window) more (omega (arith, length-drop place window))

-- a head has one length
pub head_unique : (bytes : List ℕ) (m n : ℕ) → IsHeadLength bytes m → IsHeadLength bytes n → m ≡ n
head_unique bytes m n a b =
    ⊎_elim
    (λ same. omega (arith, a.ends, b.ends))
    (λ apart. ⊎_elim (λ below. absurd (b.first a.place below a.stands)) (λ above. absurd (a.first b.place above b.stands)) apart)
    (cases_order a.place b.place)

-- a head that ends within a window ends there whatever follows
pub head-append : (window more : List ℕ) (n : ℕ) → IsHeadLength window n → IsHeadLength (window ++ more) n
head-append window more n head =
    let fits = end_fits window head.place head.stands in
    record {
      place = head.place;
      ends = head.ends;
      stands = end-append window more head.place fits ∙ head.stands;
      first = λ place below stands. head.first place below (sym (end-append window more place (omega arith)) ∙ stands);
    }

-- a window in which no head ends is shorter than the head
pub head_beyond : (window more : List ℕ) (n : ℕ) → HasNoEndBelow window (length window) → IsHeadLength (window ++ more) n → length window < n
head_beyond window more n none head =
    ⊎_elim
    (λ beyond. beyond)
    (λ within.
    let fits : head.place + 3 ≤ length window = omega (arith, head.ends) in
    absurd (none head.place (omega arith) (sym (end-append window more head.place fits) ∙ head.stands)))
    (cases_lt (length window) n)

-- no request begins another
pub one_request : (a b x y s t : List ℕ) → IsRequest a s → IsRequest b t → a ++ x ≡ b ++ y → (a ≡ b) × (s ≡ t)
one_request a b x y s t first second same =
    let count : length a ≡ length b =
    head_unique (a ++ x) (length a) (length b) (head_of_request a s x first) (subst (λ xs. IsHeadLength xs (length b)) (sym same) (head_of_request b t y second)) in
    let text : a ≡ b = sym (take_at a x (length a) refl) ∙ ap (take (length a)) same ∙ take_at b y (length a) (sym count) in
    let target : Some s ≡ Some t = sym (target_of-request a s first) ∙ ap target_of text ∙ target_of-request b t second in
    (text, same_Some s t target)
