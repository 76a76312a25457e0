-- What the parser holds once a head is whole, and how many lines a head of so many bytes has.
use Rattle.std.proofs.Common.{ℕ, ◌*◌, ◌<◌, ◌≤◌, ◌∙◌, ap, List, [], ◌∷◌, ◌++◌, length, Option, None, Some, Result, Ok, Err, inl, inr, ⊎_elim, arith, length-append, flat_map}
use Rattle.std.proofs.lemmas.List.Elements.{All-head, All-tail}
use Rattle.std.specs.Prelude.{All}
use Rattle.httparse.specs.declared.borrowed.Request.{Request}
use Rattle.httparse.specs.Grammar.{RequestHead, LineEnd, crlf, lf, print_end, print_blank, print_version, Field, print_field, IsField, print_request, IsRequestHead}
use Rattle.httparse.specs.Borrowed.{HoldsRequest}
use Rattle.httparse.specs.Spans.{RequestExceeds}
use Rattle.httparse.proofs.GrammarLemmas.{print_request-append}
use Rattle.http_head.specs.Request.{parts_of}
use Rattle.http_head.specs.Front.{HoldsParts, TakesParts, ReadsInRoom}
use Rattle.http_head.specs.declared.fault.HeadFault.{HeadFault}
use Rattle.http_head.specs.declared.front.Front.{Front}
use Rattle.http_head.specs.declared.front.Front.TheVariants.{Whole, Open, Never}

pub holds_parts : (bytes : List ℕ) (count : ℕ) (request : Request) (head : RequestHead) → HoldsRequest bytes count request head → HoldsParts request (parts_of head)
holds_parts bytes count request head held = record { method = held.method; target = held.path; version = held.version; lines = held.fields }

pub reads_whole : (bytes : List ℕ) (room count : ℕ) (request : Request) (head : RequestHead) (result : Result (Option Front) HeadFault) → HoldsRequest bytes count request head
    → TakesParts count (parts_of head) result → ReadsInRoom bytes room result
reads_whole bytes room count request head (Ok (Some (Whole taken length))) held takes = record {
  head = head;
  reads = rw (takes.0) held.reads;
  counted = takes.0 ∙ held.len_is;
  judged_so = takes.1;
}
reads_whole bytes room count request head (Ok (Some Open)) held takes = absurd takes
reads_whole bytes room count request head (Ok (Some Never)) held takes = absurd takes
reads_whole bytes room count request head (Ok None) held takes = absurd takes
reads_whole bytes room count request head (Err fault) held takes =
    ⊎_elim
    (λ judged. inl (count, record { head = head; reads = held.reads; counted = held.len_is; judged_so = judged }))
    (λ memory. inr memory)
    takes

end_length : (end : LineEnd) → 1 ≤ length (print_end end)
end_length crlf = omega arith
end_length lf = omega arith

field_length : (field : Field) → 0 < length field.name → 3 ≤ length (print_field field)
field_length field named =
    let end = end_length field.end in
    grind (arith, length-append, end, named)

-- each line of a head has three bytes or more
pub fields_length : (fields : List Field) → All IsField fields → 3 * length fields ≤ length (flat_map print_field fields)
fields_length [] valid = omega arith
fields_length (field ∷ fields) valid =
    let one = field_length field (All-head IsField field fields valid).name.0 in
    let more = fields_length fields (All-tail IsField field fields valid) in
    omega (arith, one, more, length-append (print_field field) (flat_map print_field fields))

-- one text of several fits in all of them
part_fits : (a b c d e f g : List ℕ) → length f ≤ length (a ++ (b ++ 32 ∷ (c ++ 32 ∷ (d ++ (e ++ ((f ++ g) ++ []))))))
part_fits a b c d e f g = grind (arith, length-append)

request_length : (head : RequestHead) → IsRequestHead head → 3 * length head.fields ≤ length (print_request head)
request_length head valid =
    let whole = ap length (print_request-append head []) in
    let part = part_fits (print_blank head.blank) head.method head.target (print_version head.minor) (print_end head.line_end) (flat_map print_field head.fields) (print_end head.last) in
    omega (arith, fields_length head.fields valid.fields, whole, part, length-append (print_request head) [])

-- a head of so many bytes has fewer lines
pub never_crowded : (bytes : List ℕ) → length bytes ≤ 16384 → ¬ RequestExceeds 5462 bytes
never_crowded bytes short (front, rest, is, head, reads, many) =
    omega (arith, short, many, request_length head reads.0, ap length is, ap length reads.1, length-append front rest, length-append front (print_end lf), length-append (print_request head) [])
