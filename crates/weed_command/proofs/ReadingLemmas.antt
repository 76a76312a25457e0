-- Reading finds the target of a text exactly where the text is a request.
use Rattle.std.proofs.Common.{◌≡◌, ℕ, ◌+◌, ◌-◌, Bool, true, false, cond, List, [], ◌∷◌, ◌++◌, length, take, drop, suc, codes, Option, Some, None, IfSome, IsTrue, Bor, refl, sym, ap, subst, ◌∙◌, arith, append_assoc, ⊎_elim, ◌&&◌, nat_le}
use Rattle.std.specs.Option.{option_and_then, option_map, option_map_or, IfNone}
use Rattle.std.specs.List.{list_all, prefix_len}
use Rattle.std.proofs.lemmas.Bool.{cases_Bool, cond-true, cond-false, and_parts, and_from, or_cases, or_right, le-leb, leb-true, false≢true}
use Rattle.std.proofs.lemmas.List.{take-append-drop, take_at, drop_at, length-append}
use Rattle.std.proofs.lemmas.Option.{none-some, cond_some, option_and_then_some}
use Rattle.std.proofs.lemmas.Slice.Eq.{bytes_eq-Decides}
use Rattle.weed_command.specs.Request.{IsRequest, is_target_byte, is_framed, is_target, is_host, host_line}
use Rattle.weed_command.specs.Reading.{behind, ahead, host_of, is_head_end, target_at, target_of}

-- a test on numbers that holds of each byte holds of the longest front that passes
pub list_all-take-prefix_len : (p : ℕ → Bool) (xs : List ℕ) → list_all p (take (prefix_len p xs) xs) ≡ true
list_all-take-prefix_len p [] = refl
list_all-take-prefix_len p (x ∷ xs) =
    elim (p x) as (λ b. p x ≡ b → list_all p (take (cond b (1 + prefix_len p xs) 0) (x ∷ xs)) ≡ true) [
      | true ↦ λ passes. let step : 1 + prefix_len p xs ≡ suc (prefix_len p xs) = omega arith in rw step (and_from (p x) _ passes (list_all-take-prefix_len p xs))
      | false ↦ λ _. refl
    ] refl

-- the longest front that passes ends where the first byte that doesn't stands
pub prefix_len-stop : (p : ℕ → Bool) (xs : List ℕ) (y : ℕ) (ys : List ℕ) → list_all p xs ≡ true → p y ≡ false → prefix_len p (xs ++ y ∷ ys) ≡ length xs
prefix_len-stop p [] y ys all stop = rw stop refl
prefix_len-stop p (x ∷ xs) y ys all stop =
    let parts = and_parts (p x) (list_all p xs) all in
    let rest = prefix_len-stop p xs y ys parts.1 stop in
    rw (parts.0, rest) (omega arith)

pub behind_is : (prefix text rest : List ℕ) → behind prefix text ≡ Some rest → text ≡ prefix ++ rest
behind_is prefix text rest found =
    let parts = cond_some _ _ _ found in
    let front = (bytes_eq-Decides (take (length prefix) text) prefix).0 parts.0 in
    sym (take-append-drop (length prefix) text) ∙ ap (λ xs. xs ++ drop (length prefix) text) front ∙ ap (λ xs. prefix ++ xs) parts.1

pub behind-append : (prefix rest : List ℕ) → behind prefix (prefix ++ rest) ≡ Some rest
behind-append prefix rest =
    let same = (bytes_eq-Decides (take (length prefix) (prefix ++ rest)) prefix).1 (take_at prefix rest (length prefix) refl) in
    rw same (ap Some (drop_at prefix rest (length prefix) refl))

pub ahead_is : (suffix text front : List ℕ) → ahead suffix text ≡ Some front → text ≡ front ++ suffix
ahead_is suffix text front found =
    let n = length text - length suffix in
    let parts = cond_some _ _ _ found in
    let back = (bytes_eq-Decides (drop n text) suffix).0 parts.0 in
    sym (take-append-drop n text) ∙ ap (λ xs. take n text ++ xs) back ∙ ap (λ xs. xs ++ suffix) parts.1

pub ahead-append : (suffix front : List ℕ) → ahead suffix (front ++ suffix) ≡ Some front
ahead-append suffix front =
    let n : length (front ++ suffix) - length suffix ≡ length front = omega (arith, length-append front suffix) in
    let same = (bytes_eq-Decides (drop (length front) (front ++ suffix)) suffix).1 (drop_at front suffix (length front) refl) in
    rw (n, same) (ap Some (take_at front suffix (length front) refl))

-- the lines behind the first, and the host that they name
abbrev pub EndsHead : List ℕ → Type 0
EndsHead lines = (host : Option (List ℕ)) × IfSome host (λ name. IsTrue (is_host name)) × (lines ≡ host_line host ++ codes "\r\n")

host_of_is : (lines host : List ℕ) → host_of lines ≡ Some host → lines ≡ codes "Host: " ++ (host ++ codes "\r\n\r\n")
host_of_is lines host found =
    option_and_then_some (ahead (codes "\r\n\r\n")) (behind (codes "Host: ") lines) host found (λ rest first second.
    behind_is (codes "Host: ") lines rest first ∙ ap (λ xs. codes "Host: " ++ xs) (ahead_is (codes "\r\n\r\n") rest host second))

-- a line with its end ahead of an empty line
two_ends : (host : List ℕ) → host ++ codes "\r\n\r\n" ≡ (host ++ codes "\r\n") ++ codes "\r\n"
two_ends host = sym (append_assoc host (codes "\r\n") (codes "\r\n"))

pub EndsHead-from_test : (lines : List ℕ) → is_head_end lines ≡ true → EndsHead lines
EndsHead-from_test lines test =
    ⊎_elim
    (λ bare. (None, tt, (bytes_eq-Decides lines (codes "\r\n")).0 bare))
    (named (host_of lines) refl)
    (or_cases _ _ test)
  where
    named : (found : Option (List ℕ)) → host_of lines ≡ found → option_map_or is_host found false ≡ true → EndsHead lines
    named None _ absent = absurd (false≢true absent)
    named (Some host) e form = (Some host, form, host_of_is lines host e ∙ ap (λ xs. codes "Host: " ++ xs) (two_ends host))

pub test-from_EndsHead : (lines : List ℕ) → EndsHead lines → is_head_end lines ≡ true
test-from_EndsHead lines (None, _, e) = rw e refl
test-from_EndsHead lines (Some host, form, e) =
    let text : lines ≡ codes "Host: " ++ (host ++ codes "\r\n\r\n") = e ∙ ap (λ xs. codes "Host: " ++ xs) (sym (two_ends host)) in
    let rest : behind (codes "Host: ") lines ≡ Some (host ++ codes "\r\n\r\n") =
    ap (behind (codes "Host: ")) text ∙ behind-append (codes "Host: ") (host ++ codes "\r\n\r\n") in
    let found : host_of lines ≡ Some host =
    ap (option_and_then (ahead (codes "\r\n\r\n"))) rest ∙ ahead-append (codes "\r\n\r\n") host in
    or_right _ _ (ap (λ o. option_map_or is_host o false) found ∙ form)

-- what stands behind the method of a request
abbrev pub tail_text : List ℕ → Option (List ℕ) → List ℕ
tail_text target host = target ++ (codes " HTTP/1.1\r\n" ++ (host_line host ++ codes "\r\n"))

abbrev pub IsTail : List ℕ → List ℕ → Type 0
IsTail text target = IsTrue (is_target target) × (host : Option (List ℕ)) × IfSome host (λ name. IsTrue (is_host name)) × (text ≡ tail_text target host)

target_at_is : (text target : List ℕ) → target_at text ≡ Some target → IsTail text target
target_at_is text target found =
    let n = prefix_len is_target_byte text in
    option_and_then_some
    (λ lines. cond (is_framed (take n text) && is_head_end lines) (Some (take n text)) None)
    (behind (codes " HTTP/1.1\r\n") (drop n text)) target found (λ lines first second.
    let chosen = cond_some _ _ _ second in
    let tests = and_parts _ _ chosen.0 in
    let ends = EndsHead-from_test lines tests.1 in
    let form : is_target (take n text) ≡ true = and_from _ _ tests.0 (list_all-take-prefix_len is_target_byte text) in
    let spelled : text ≡ tail_text (take n text) ends.0 =
    sym (take-append-drop n text)
    ∙ ap (λ xs. take n text ++ xs) (behind_is (codes " HTTP/1.1\r\n") (drop n text) lines first ∙ ap (λ xs. codes " HTTP/1.1\r\n" ++ xs) ends.2) in
    subst (IsTail text) chosen.1 (form, ends.0, ends.1, spelled))

target_at-tail : (text target : List ℕ) → IsTail text target → target_at text ≡ Some target
target_at-tail text target (form, host, host_form, spelled) =
    let method_end = codes " HTTP/1.1\r\n" in
    let lines = host_line host ++ codes "\r\n" in
    let n = prefix_len is_target_byte text in
    let tests = and_parts (is_framed target) (list_all is_target_byte target) form in
    let whole : n ≡ length target =
    ap (prefix_len is_target_byte) spelled ∙ prefix_len-stop is_target_byte target 32 (codes "HTTP/1.1\r\n" ++ lines) tests.1 refl in
    let front : take n text ≡ target = ap (take n) spelled ∙ take_at target (method_end ++ lines) n (sym whole) in
    let back : drop n text ≡ method_end ++ lines = ap (drop n) spelled ∙ drop_at target (method_end ++ lines) n (sym whole) in
    let found : behind method_end (drop n text) ≡ Some lines = ap (behind method_end) back ∙ behind-append method_end lines in
    let choice = λ (chosen found : List ℕ). cond (is_framed chosen && is_head_end found) (Some chosen) None in
    ap (option_and_then (choice (take n text))) found
    ∙ ap (λ chosen. choice chosen lines) front
    ∙ cond-true _ (Some target) None (and_from _ _ tests.0 (test-from_EndsHead lines (host, host_form, refl)))

-- the text of a request is short, and has a tail behind its method
target_of_is : (text target : List ℕ) → target_of text ≡ Some target → IsRequest text target
target_of_is text target found =
    ⊎_elim
    (λ short.
    let rest_found : option_and_then target_at (behind (codes "POST ") text) ≡ Some target = sym (cond-true _ _ None short) ∙ found in
    option_and_then_some target_at (behind (codes "POST ") text) target rest_found (λ rest first second.
    let tail = target_at_is rest target second in
    record {
      target_form = tail.0;
      host = tail.1;
      host_form = tail.2;
      spelled = behind_is (codes "POST ") text rest first ∙ ap (λ xs. codes "POST " ++ xs) tail.3;
      short = leb-true _ _ short;
    }))
    (λ long. absurd (none-some target (sym (cond-false _ _ None long) ∙ found)))
    (cases_Bool (nat_le (length text) 16384))

pub target_of-request : (text target : List ℕ) → IsRequest text target → target_of text ≡ Some target
target_of-request text target request =
    let tail = tail_text target request.host in
    let rest : behind (codes "POST ") text ≡ Some tail = ap (behind (codes "POST ")) request.spelled ∙ behind-append (codes "POST ") tail in
    cond-true _ _ None (le-leb _ _ request.short)
    ∙ ap (option_and_then target_at) rest
    ∙ target_at-tail tail target (request.target_form, request.host, request.host_form, refl)

pub request_found : (text : List ℕ) (result : Option (Bor (List ℕ))) → option_map (λ target. target.now) result ≡ target_of text → IfSome result (λ target. IsRequest text target.now)
request_found text None _ = tt
request_found text (Some target) e = target_of_is text target.now (sym e)

pub request_none : (text : List ℕ) (result : Option (Bor (List ℕ))) → option_map (λ target. target.now) result ≡ target_of text → IfNone result ((target : List ℕ) → ¬ IsRequest text target)
request_none text None e = λ target request. none-some target (e ∙ target_of-request text target request)
request_none text (Some _) _ = tt
