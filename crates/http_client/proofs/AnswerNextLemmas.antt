-- What the bytes of an inbox tell of all that are left.
use Rattle.std.proofs.Common.{◌≡◌, ◌≢◌, ℕ, ◌+◌, ◌-◌, ◌<◌, ◌≤◌, true, false, cond, List, [], ◌++◌, length, take, drop, Option, None, Some, IfSome, Result, Ok, Err, refl, sym, ap, subst, ◌∙◌, inl, inr, ◌⊎◌, ⊎_elim, arith, append_assoc, append-nil, length-append}
use Rattle.std.specs.Prelude.{MatchResult, nat_lt, ⊤}
use Rattle.std.proofs.lemmas.List.{take-append-drop, take-append-le, take_at, take_all, length-take}
use Rattle.std.proofs.lemmas.Option.{same_Some}
use Rattle.std.proofs.Math.Seq.{take-append-add}
use Rattle.weed_base.specs.Told.{IsAtEnd}
use Rattle.httparse.specs.Grammar.{print_response, HasNoResponse, NeverHasResponse, MayBecomeResponse}
use Rattle.http_client.specs.AnswerFront.{HasHead}
use Rattle.http_head.specs.Body.{has_other_coding, body_of}
use Rattle.http_client.specs.AnswerHead.{Parts, parts_of, judged, taken, checked_body}
use Rattle.http_head.specs.declared.body.BodyKind.{BodyKind}
use Rattle.http_client.specs.declared.judge.AnswerHead.{AnswerHead}
use Rattle.http_head.specs.declared.fault.HeadFault.{HeadFault}
use Rattle.http_head.specs.declared.fault.HeadFault.TheVariants.{ReadFault, Bad, HeadTooLong, BadMethod, BadCoding, TooLong, Memory}
use Rattle.http_wire.specs.Inbox.{left_of}
use Rattle.http_client.specs.AnswerNext.{IsHead, BeginsWithHead, IsRefused, TakesFront, FindsHead}

-- the refusals that the checks of a head give
abbrev IsCheck : HeadFault → Type 0
IsCheck ReadFault = ⊥
IsCheck Bad = ⊤
IsCheck HeadTooLong = ⊤
IsCheck BadMethod = ⊥
IsCheck BadCoding = ⊤
IsCheck TooLong = ⊥
IsCheck Memory = ⊥

abbrev Checks : Result AnswerHead HeadFault → Type 0
Checks verdict = MatchResult verdict (λ _. ⊤) IsCheck

body_checks : (status : ℕ) (body : Option BodyKind) (parts : Parts) → Checks (taken (checked_body status body) parts)
body_checks status None parts = tt
body_checks status (Some body) parts = tt

coding_checks : (parts : Parts) → Checks (taken (cond (has_other_coding parts.lines) (Err BadCoding) (checked_body parts.status (body_of parts.lines))) parts)
coding_checks parts =
    elim (has_other_coding parts.lines) as (λ b. Checks (taken (cond b (Err BadCoding) (checked_body parts.status (body_of parts.lines))) parts)) [
      | true ↦ tt
      | false ↦ body_checks parts.status (body_of parts.lines) parts
    ]

judged_checks : (parts : Parts) → Checks (judged parts)
judged_checks parts =
    elim (nat_lt 64 (length parts.lines)) as (λ b. Checks (taken (cond b (Err HeadTooLong) (cond (has_other_coding parts.lines) (Err BadCoding) (checked_body parts.status (body_of parts.lines)))) parts)) [
      | true ↦ tt
      | false ↦ coding_checks parts
    ]

-- a head that is refused is refused by its checks
head_checks : (text : List ℕ) (fault : HeadFault) → IsHead text (Err fault) → IsCheck fault
head_checks text fault held = subst Checks held.judged_so (judged_checks (parts_of held.head))

refused_head : (fault : HeadFault) (bytes : List ℕ) → BeginsWithHead bytes (Err fault) → IsRefused fault bytes
refused_head ReadFault bytes begins = tt
refused_head Bad bytes begins = inl begins
refused_head HeadTooLong bytes begins = inl begins
refused_head BadMethod bytes begins = absurd (head_checks begins.0 BadMethod begins.2)
refused_head BadCoding bytes begins = begins
refused_head TooLong bytes begins = absurd (head_checks begins.0 TooLong begins.2)
refused_head Memory bytes begins = tt

-- no check is a failed read
check_reads : (fault : HeadFault) → IsCheck fault → fault ≢ ReadFault
check_reads ReadFault check same = absurd check
check_reads Bad check same = cc
check_reads HeadTooLong check same = cc
check_reads BadMethod check same = absurd check
check_reads BadCoding check same = cc
check_reads TooLong check same = absurd check
check_reads Memory check same = absurd check

memory_reads : (fault : HeadFault) → fault ≡ Memory → fault ≢ ReadFault
memory_reads fault memory same = cc

-- a head in the first bytes is one of all
pub head_in_front : (n : ℕ) (bytes : List ℕ) (count : ℕ) (verdict : Result AnswerHead HeadFault) → n ≤ 16384 → HasHead (take n bytes) count verdict → IsHead (take count bytes) verdict × (count ≤ length bytes)
head_in_front n bytes count verdict small held =
    let text = print_response held.head in
    let rest = drop count (take n bytes) in
    let whole : bytes ≡ text ++ (rest ++ drop n bytes) =
    sym (take-append-drop n bytes) ∙ ap (λ xs. xs ++ drop n bytes) held.reads.1 ∙ append_assoc text rest (drop n bytes) in
    let front : take count bytes ≡ text = ap (take count) whole ∙ take_at text (rest ++ drop n bytes) count (sym held.counted) in
    let fits : count ≤ n = omega (arith, held.counted, ap length held.reads.1, length-append text rest, length-take n bytes) in (
      record {
        head = held.head;
        reads = (held.reads.0, front ∙ sym (append-nil text));
        judged_so = held.judged_so;
        short = omega (arith, fits, small, length-take count bytes);
      },
      omega (arith, held.counted, ap length whole, length-append text (rest ++ drop n bytes)),
    )

pub takes_whole : (pending : List ℕ) (count : ℕ) (head : AnswerHead) → HasHead (take 16384 pending) count (Ok head) → TakesFront (Ok (Some head)) pending (drop count pending)
takes_whole pending count head held =
    let found = head_in_front 16384 pending count (Ok head) (omega arith) held in
    (take count pending, found.0, sym (take-append-drop count pending))

-- what the first bytes were refused with refuses all
pub refuses_front : (pending : List ℕ) (fault : HeadFault) → ((count : ℕ) × HasHead (take 16384 pending) count (Err fault)) ⊎ (fault ≡ Memory) → TakesFront (Err fault) pending pending
refuses_front pending fault reason =
    ⊎_elim
    (λ (found : (count : ℕ) × HasHead (take 16384 pending) count (Err fault)).
    let head = head_in_front 16384 pending found.0 (Err fault) (omega arith) found.1 in (
      check_reads fault (head_checks (take found.0 pending) fault head.0),
      λ left. refused_head fault (pending ++ left) (take found.0 pending, drop found.0 pending ++ left, head.0, ap (λ xs. xs ++ left) (sym (take-append-drop found.0 pending)) ∙ append_assoc (take found.0 pending) (drop found.0 pending) left),
      refl,
    ))
    (λ memory. (memory_reads fault memory, λ left. subst (λ f. IsRefused f (pending ++ left)) (sym memory) tt, refl))
    reason

-- the first bytes of more begin with those of less
window_grows : (n : ℕ) (pending left : List ℕ) → (more : List ℕ) × (take n (pending ++ left) ≡ take n pending ++ more)
window_grows n pending left =
    let front = take n pending in
    let rest = drop n pending ++ left in
    let whole : pending ++ left ≡ front ++ rest = ap (λ xs. xs ++ left) (sym (take-append-drop n pending)) ∙ append_assoc front (drop n pending) left in
    let size : n ≡ length front + (n - length front) = omega (arith, length-take n pending) in
    (take (n - length front) rest, ap (take n) whole ∙ ap (λ k. take k (front ++ rest)) size ∙ take-append-add front rest (n - length front))

pub never_front : (pending : List ℕ) → NeverHasResponse (take 16384 pending) → TakesFront (Err Bad) pending pending
never_front pending never = (
  λ same. cc,
  λ left.
      let grown = window_grows 16384 pending left in
      inr (inl (λ more head rest reads. never (grown.0 ++ more) head rest (reads.0, append_regroup (take 16384 pending) grown.0 more ∙ ap (λ xs. xs ++ more) (sym grown.1) ∙ reads.1))),
  refl,
)
  where
    append_regroup : (a b c : List ℕ) → a ++ (b ++ c) ≡ (a ++ b) ++ c
    append_regroup a b c = sym (append_assoc a b c)

pub long_front : (pending : List ℕ) → 16384 < length pending → HasNoResponse (take 16384 pending) → MayBecomeResponse (take 16384 pending) → TakesFront (Err HeadTooLong) pending pending
long_front pending long none may = (
  λ same. cc,
  λ left.
      let same : take 16384 pending ≡ take 16384 (pending ++ left) = sym (take-append-le 16384 pending left (omega (arith, long))) in
      inr (omega (arith, long, length-append pending left), subst HasNoResponse same none, subst MayBecomeResponse same may),
  refl,
)

pub open_front : (pending : List ℕ) → length pending ≤ 16384 → HasNoResponse (take 16384 pending) → TakesFront (Ok None) pending pending
open_front pending short none = (short, subst HasNoResponse (take_all 16384 pending short) none, refl)

-- the same of all bytes left
pub finds_taken : (old new : List ℕ) (left : Option (List ℕ)) (head : AnswerHead) → TakesFront (Ok (Some head)) old new → FindsHead (Ok head) (left_of old left) (left_of new left)
finds_taken old new None head takes = (takes.0, takes.1, refl)
finds_taken old new (Some bytes) head takes = (takes.0, takes.1, ap Some (ap (λ xs. xs ++ bytes) takes.2 ∙ append_assoc takes.0 new bytes))

pub finds_refused : (old new : List ℕ) (left : Option (List ℕ)) (fault : HeadFault) → TakesFront (Err fault) old new → FindsHead (Err fault) (left_of old left) (left_of new left)
finds_refused old new None fault takes = (tt, refl)
finds_refused old new (Some bytes) fault takes = (takes.1 bytes, ap (λ xs. Some (xs ++ bytes)) takes.2)

-- bytes that end before their head does
pub finds_end : (pending : List ℕ) (left : Option (List ℕ)) → length pending ≤ 16384 → HasNoResponse pending → IsAtEnd left → IfSome (left_of pending left) (IsRefused Bad)
finds_end pending None short none ended = tt
finds_end pending (Some bytes) short none ended =
    let whole : pending ≡ pending ++ bytes = sym (ap (λ xs. pending ++ xs) (same_Some bytes [] ended) ∙ append-nil pending) in
    inr (inr (omega (arith, short, ap length whole), subst HasNoResponse whole none))
