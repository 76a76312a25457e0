-- Requests that are written are heads of the grammar.
use Rattle.std.proofs.Common.{◌≡◌, ℕ, zero, suc, ◌-◌, get_or, reverse, ◌<◌, ◌^◌, Bool, true, false, cond, List, [], ◌∷◌, ◌++◌, length, min, None, Some, Ok, refl, sym, ap, ◌∙◌, arith, append_assoc, append-nil, codes, decimal}
use Rattle.std.specs.Prelude.{All, IsTrue, IsAscii, not, ◌||◌, ◌&&◌, ◌==◌}
use Rattle.std.specs.List.{list_all}
use Rattle.std.specs.Char.{is_ascii_digit, digit_value}
use Rattle.std.specs.Str.Parse.{AllDigits, digits_value}
use Rattle.std.proofs.lemmas.Fmt.{decimal_is_IsNumeral}
use Rattle.std.proofs.lemmas.Str.Parse.{digit_from_value}
use Rattle.httparse.proofs.TrimLemmas.{trim_ows_space, AllPass-reverse}
use Rattle.http_head.specs.Words.{read_number}
use Rattle.std.proofs.lemmas.List.Elements.{All-head, All-tail, All-cons, All-nil}
use Rattle.std.proofs.lemmas.Bool.Decides.{nat_tests}
use Rattle.std.proofs.lemmas.Str.{IsUtf8-from_ascii}
use Rattle.httparse.specs.Grammar.{RequestHead, IsRequestHead, Field, IsField, AllPass, IsToken, is_token_byte, is_uri_byte, is_value_byte, crlf, print_field, print_section, print_request, trim_ows, skip_ows, is_ows}
use Rattle.httparse.proofs.GrammarLemmas.{print_request-append}
use Rattle.http_head.specs.declared.head.Method.{Method}
use Rattle.http_head.specs.declared.head.Method.TheVariants.{Get, Head, Put, Post, Delete}
use Rattle.http_head.specs.Target.{is_well_escaped}
use Rattle.http_head.specs.Body.{body_of, stated, is_that, has_other_length}
use Rattle.http_head.specs.Request.{parts_of, judged}
use Rattle.http_head.specs.declared.body.BodyKind.TheVariants.{Length}
use Rattle.http_wire.specs.Next.{IsHead}
use Rattle.http_client.specs.Sent.{CanBeSent, sent_head}
use Rattle.http_client.specs.Request.{IsVisible, method_name, states_length, request_line, host_line, length_line, request_head}

-- the line that names the host
abbrev pub host_field : List ℕ → Field
host_field host = record { name = codes "Host"; raw = 32 ∷ host; end = crlf }

-- the line that states a length
abbrev pub length_field : ℕ → Field
length_field count = record { name = codes "Content-Length"; raw = 32 ∷ decimal count; end = crlf }

-- the line that closes
abbrev pub close_field : Field
close_field = record { name = codes "Connection"; raw = codes " close"; end = crlf }

-- the lines of a request
abbrev pub sent_fields : Method → List ℕ → ℕ → List Field
sent_fields method host count = host_field host ∷ (cond (states_length method) (length_field count ∷ []) [] ++ close_field ∷ [])

-- the head of a request
abbrev pub sent_request : Method → List ℕ → List ℕ → ℕ → RequestHead
sent_request method target host count = record {
  blank = [];
  method = method_name method;
  target = target;
  minor = 1;
  line_end = crlf;
  fields = sent_fields method host count;
  last = crlf;
}

section_is : (method : Method) (host : List ℕ) (count : ℕ) → print_section (sent_fields method host count) crlf ≡ host_line host ++ (length_line method count ++ codes "Connection: close\r\n\r\n")
section_is method host count =
    elim (states_length method) as (λ b. print_section (host_field host ∷ (cond b (length_field count ∷ []) [] ++ close_field ∷ [])) crlf ≡ host_line host ++ (cond b (print_field (length_field count)) [] ++ codes "Connection: close\r\n\r\n")) [
      | true ↦ append_assoc (host_line host) (print_field (length_field count) ++ codes "Connection: close\r\n") (codes "\r\n") ∙ ap (λ xs. host_line host ++ xs) (append_assoc (print_field (length_field count)) (codes "Connection: close\r\n") (codes "\r\n"))
      | false ↦ append_assoc (host_line host) (codes "Connection: close\r\n") (codes "\r\n")
    ]

pub printed_is : (method : Method) (target host : List ℕ) (count : ℕ) → print_request (sent_request method target host count) ≡ request_head method target host count
printed_is method target host count =
    let name = method_name method in
    let version = codes " HTTP/1.1\r\n" in
    let rest = length_line method count ++ codes "Connection: close\r\n\r\n" in
    let section = print_section (sent_fields method host count) crlf in
    let line : name ++ (32 ∷ (target ++ (version ++ (host_line host ++ rest)))) ≡ request_head method target host count =
    sym (append_assoc (request_line method target) (host_line host) rest ∙ append_assoc name (32 ∷ (target ++ version)) (host_line host ++ rest) ∙ ap (λ xs. name ++ 32 ∷ xs) (append_assoc target version (host_line host ++ rest))) in
    sym (append-nil (print_request (sent_request method target host count)))
    ∙ print_request-append (sent_request method target host count) []
    ∙ ap (λ xs. name ++ (32 ∷ (target ++ (version ++ xs)))) (append-nil section ∙ section_is method host count)
    ∙ line

-- bytes that are visible pass where they may stand
visible_passes : (test : ℕ → Bool) (text : List ℕ) → ((byte : ℕ) → IsVisible byte → IsTrue (test byte)) → All IsVisible text → AllPass test text
visible_passes test text each seen k d within = each (get_or text k d) (seen k d within)

uri_byte : (byte : ℕ) → IsVisible byte → IsTrue (is_uri_byte byte)
uri_byte byte seen = grind (arith, nat_tests, seen)

value_byte : (byte : ℕ) → IsVisible byte → IsTrue (is_value_byte byte)
value_byte byte seen = grind (arith, nat_tests, seen)

digit_value_byte : (byte : ℕ) → IsTrue (is_ascii_digit byte) → IsTrue (is_value_byte byte)
digit_value_byte byte digit = grind (arith, nat_tests, digit)

digit_is_digit : (byte : ℕ) → digit_value byte < 10 → IsTrue (is_ascii_digit byte)
digit_is_digit byte small = let range = digit_from_value byte small in grind (arith, nat_tests, range)

visible_ascii : (text : List ℕ) → All IsVisible text → IsAscii text
visible_ascii [] seen i = omega arith
visible_ascii (byte ∷ text) seen zero = omega (arith, All-head IsVisible byte text seen)
visible_ascii (byte ∷ text) seen (suc i) = visible_ascii text (All-tail IsVisible byte text seen) i

-- digits pass as digits
pub digits_pass : (ds : List ℕ) → AllDigits 10 ds → AllPass is_ascii_digit ds
digits_pass [] digits = All-nil (λ b. IsTrue (is_ascii_digit b))
digits_pass (d ∷ ds) digits = All-cons (λ b. IsTrue (is_ascii_digit b)) d ds (digit_is_digit d digits.0) (digits_pass ds digits.1)

digits_all : (ds : List ℕ) → AllDigits 10 ds → list_all is_ascii_digit ds ≡ true
digits_all [] digits = refl
digits_all (d ∷ ds) digits = rw (digit_is_digit d digits.0, digits_all ds digits.1)

no_blank : (byte : ℕ) → IsTrue (is_ascii_digit byte) → is_ows byte ≡ false
no_blank byte digit = grind (arith, nat_tests, digit)

skip_kept : (ds : List ℕ) → AllPass is_ascii_digit ds → skip_ows ds ≡ ds
skip_kept [] pass = refl
skip_kept (d ∷ ds) pass = rw (no_blank d (All-head (λ b. IsTrue (is_ascii_digit b)) d ds pass))

-- a number behind a blank is trimmed to itself
pub trimmed_number : (n : ℕ) → n < 2 ^ 64 → trim_ows (32 ∷ decimal n) ≡ decimal n
trimmed_number n small =
    let pass = digits_pass (decimal n) (decimal_is_IsNumeral n small).0.1 in
    trim_ows_space (decimal n) (skip_kept (decimal n) pass) (skip_kept (reverse (decimal n)) (AllPass-reverse is_ascii_digit (decimal n) pass))

-- a number is read as itself
pub number_is : (n : ℕ) → n < 2 ^ 64 → read_number (decimal n) ≡ Some n
number_is n small =
    let numeral = decimal_is_IsNumeral n small in
    let some : (length (decimal n) == 0) ≡ false = grind (arith, nat_tests, numeral.0.0) in
    let digits : list_all is_ascii_digit (decimal n) ≡ true = digits_all (decimal n) numeral.0.1 in
    let value : min (digits_value 10 (decimal n)) (2 ^ 64 - 1) ≡ n = omega (arith, small, numeral.1) in
    rw (some, digits, value)

both : (x y : Bool) → (x && y) ≡ true → (x ≡ true) × (y ≡ true)
both true y all = (refl, all)
both false y all = absurd (cc)

-- bytes pass that a test of all lets pass
pub passes : (test : ℕ → Bool) (text : List ℕ) → list_all test text ≡ true → AllPass test text
passes test [] all = All-nil (λ b. IsTrue (test b))
passes test (byte ∷ text) all =
    let parts = both (test byte) (list_all test text) all in
    All-cons (λ b. IsTrue (test b)) byte text parts.0 (passes test text parts.1)

token_name : (method : Method) → IsToken (method_name method)
unfolding is_token_byte
token_name Get = (omega arith, passes is_token_byte (codes "GET") refl)
token_name Head = (omega arith, passes is_token_byte (codes "HEAD") refl)
token_name Put = (omega arith, passes is_token_byte (codes "PUT") refl)
token_name Post = (omega arith, passes is_token_byte (codes "POST") refl)
token_name Delete = (omega arith, passes is_token_byte (codes "DELETE") refl)

host_valid : (host : List ℕ) → All IsVisible host → IsField (host_field host)
unfolding is_token_byte
host_valid host seen = record {
  name = (omega arith, passes is_token_byte (codes "Host") refl);
  raw = All-cons (λ b. IsTrue (is_value_byte b)) 32 host refl (visible_passes is_value_byte host value_byte seen);
}

pub length_valid : (n : ℕ) → n < 2 ^ 64 → IsField (length_field n)
unfolding is_token_byte
length_valid n small = record {
  name = (omega arith, passes is_token_byte (codes "Content-Length") refl);
  raw = All-cons (λ b. IsTrue (is_value_byte b)) 32 (decimal n) refl (λ k d within. digit_value_byte (get_or (decimal n) k d) (digits_pass (decimal n) (decimal_is_IsNumeral n small).0.1 k d within));
}

pub close_valid : IsField close_field
unfolding is_token_byte
close_valid = record {
  name = (omega arith, passes is_token_byte (codes "Connection") refl);
  raw = passes is_value_byte (codes " close") refl;
}

fields_valid : (method : Method) (host : List ℕ) (n : ℕ) → All IsVisible host → n < 2 ^ 64 → All IsField (sent_fields method host n)
fields_valid method host n seen small =
    All-cons IsField (host_field host) (cond (states_length method) (length_field n ∷ []) [] ++ close_field ∷ []) (host_valid host seen) (
    elim (states_length method) as (λ b. All IsField (cond b (length_field n ∷ []) [] ++ close_field ∷ [])) [
      | true ↦ All-cons IsField (length_field n) (close_field ∷ []) (length_valid n small) (All-cons IsField close_field [] close_valid (All-nil IsField))
      | false ↦ All-cons IsField close_field [] close_valid (All-nil IsField)
    ]
    )

request_valid : (method : Method) (target host : List ℕ) (n : ℕ) → 0 < length target → All IsVisible target → All IsVisible host → n < 2 ^ 64 → IsRequestHead (sent_request method target host n)
request_valid method target host n named target_seen host_seen small = record {
  method = token_name method;
  target = (named, visible_passes is_uri_byte target uri_byte target_seen);
  target_text = IsUtf8-from_ascii target (visible_ascii target target_seen);
  minor = omega arith;
  fields = fields_valid method host n host_seen small;
}

-- the body that a request with a length states
stated_body : (x v y : List ℕ) (n : ℕ) → read_number v ≡ Some n → body_of ((codes "Host", x) ∷ (codes "Content-Length", v) ∷ (codes "Connection", y) ∷ []) ≡ Some (Length n)
stated_body x v y n is =
    let lines = (codes "Host", x) ∷ (codes "Content-Length", v) ∷ (codes "Connection", y) ∷ [] in
    let same : (n == n) ≡ true = grind (arith, nat_tests) in
    let agreed : has_other_length n lines ≡ false = ap (λ o. not (is_that n o) || false) is ∙ ap (λ b. not b || false) same in
    ap (λ o. stated o lines) is ∙ ap (λ b. cond b None (Some (Length n))) agreed

closing_value : trim_ows (codes " close") ≡ codes "close"
unfolding trim_ows
closing_value = refl

judged_is : (method : Method) (target host : List ℕ) (n : ℕ) → is_well_escaped target ≡ true → n < 2 ^ 64 → judged (parts_of (sent_request method target host n)) ≡ Ok (sent_head method target n)
judged_is Get target host n escaped small = rw (escaped, closing_value)
judged_is Head target host n escaped small = rw (escaped, closing_value)
judged_is Delete target host n escaped small = rw (escaped, closing_value)
judged_is Put target host n escaped small =
    rw (escaped, closing_value, stated_body (trim_ows (32 ∷ host)) (trim_ows (32 ∷ decimal n)) (codes "close") n (ap read_number (trimmed_number n small) ∙ number_is n small))
judged_is Post target host n escaped small =
    rw (escaped, closing_value, stated_body (trim_ows (32 ∷ host)) (trim_ows (32 ∷ decimal n)) (codes "close") n (ap read_number (trimmed_number n small) ∙ number_is n small))

pub sent_is_head : (method : Method) (target host body : List ℕ) → CanBeSent method target host body → IsHead (request_head method target host (length body)) (Ok (sent_head method target (length body)))
sent_is_head method target host body can = record {
  head = sent_request method target host (length body);
  reads = (request_valid method target host (length body) can.some can.target_seen can.host_seen can.held, sym (printed_is method target host (length body)) ∙ sym (append-nil (print_request (sent_request method target host (length body)))));
  judged_so = judged_is method target host (length body) can.escaped can.held;
  short = can.short;
}
