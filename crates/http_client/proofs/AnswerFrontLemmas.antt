-- What the parser holds once a head of an answer is whole, and how many lines a head of so many bytes has.
use Rattle.std.proofs.Common.{ℕ, ◌*◌, ◌≤◌, ◌∙◌, ap, List, [], ◌∷◌, ◌++◌, length, Option, None, Some, Result, Ok, Err, inl, inr, ⊎_elim, arith, length-append, flat_map}
use Rattle.httparse.specs.declared.borrowed.Response.{Response}
use Rattle.httparse.specs.Grammar.{ResponseHead, lf, print_end, print_blank, print_version, print_reason, print_field, print_response, IsResponseHead}
use Rattle.httparse.specs.Borrowed.{HoldsResponse}
use Rattle.httparse.specs.Spans.{ResponseExceeds}
use Rattle.httparse.proofs.GrammarLemmas.{print_response-append}
use Rattle.http_head.proofs.FrontLemmas.{fields_length}
use Rattle.http_head.specs.declared.fault.HeadFault.{HeadFault}
use Rattle.http_client.specs.AnswerHead.{parts_of}
use Rattle.http_client.specs.AnswerFront.{HoldsParts, TakesParts, ReadsInRoom}
use Rattle.http_client.specs.declared.front.AnswerFront.{AnswerFront}
use Rattle.http_client.specs.declared.front.AnswerFront.TheVariants.{Whole, Open, Never}

pub holds_parts : (bytes : List ℕ) (count : ℕ) (response : Response) (head : ResponseHead) → HoldsResponse bytes count response head → HoldsParts response (parts_of head)
holds_parts bytes count response head held = record { status = held.code; version = held.version; lines = held.fields }

pub reads_whole : (bytes : List ℕ) (room count : ℕ) (response : Response) (head : ResponseHead) (result : Result (Option AnswerFront) HeadFault) → HoldsResponse bytes count response head
    → TakesParts count (parts_of head) result → ReadsInRoom bytes room result
reads_whole bytes room count response head (Ok (Some (Whole taken length))) held takes = record {
  head = head;
  reads = rw (takes.0) held.reads;
  counted = takes.0 ∙ held.len_is;
  judged_so = takes.1;
}
reads_whole bytes room count response head (Ok (Some Open)) held takes = absurd takes
reads_whole bytes room count response head (Ok (Some Never)) held takes = absurd takes
reads_whole bytes room count response head (Ok None) held takes = absurd takes
reads_whole bytes room count response head (Err fault) held takes =
    ⊎_elim
    (λ judged. inl (count, record { head = head; reads = held.reads; counted = held.len_is; judged_so = judged }))
    (λ memory. inr memory)
    takes

-- one text of several fits in all of them
part_fits : (a b c d e f g : List ℕ) → length f ≤ length (a ++ (b ++ 32 ∷ (c ++ (d ++ (e ++ ((f ++ g) ++ []))))))
part_fits a b c d e f g = grind (arith, length-append)

response_length : (head : ResponseHead) → IsResponseHead head → 3 * length head.fields ≤ length (print_response head)
response_length head valid =
    let whole = ap length (print_response-append head []) in
    let part = part_fits (print_blank head.blank) (print_version head.minor) head.digits (print_reason head.reason) (print_end head.line_end) (flat_map print_field head.fields) (print_end head.last) in
    omega (arith, fields_length head.fields valid.fields, whole, part, length-append (print_response head) [])

-- a head of so many bytes has fewer lines
pub never_crowded : (bytes : List ℕ) → length bytes ≤ 16384 → ¬ ResponseExceeds 5462 bytes
never_crowded bytes short (front, rest, is, head, reads, many) =
    omega (arith, short, many, response_length head reads.0, ap length is, ap length reads.1, length-append front rest, length-append front (print_end lf), length-append (print_response head) [])
