-- What an inbox holds after a read, and what it finds.
use Rattle.std.proofs.Common.{◌≡◌, ℕ, ◌+◌, ◌-◌, ◌<◌, ◌≤◌, List, [], ◌∷◌, ◌++◌, length, take, drop, codes, Option, Some, None, IfSome, refl, sym, ap, subst, ◌∙◌, arith, append_assoc, inl, inr, ◌⊎◌, ⊎_elim}
use Rattle.std.specs.Option.{option_map}
use Rattle.std.proofs.lemmas.Bool.{cases_lt}
use Rattle.std.proofs.lemmas.List.{length-append, length-drop, take-append-drop, take-append-le, take_at, drop-drop, drop-take}
use Rattle.std.proofs.lemmas.List.Prefix.{at_from_reads, at_reads}
use Rattle.std.proofs.lemmas.Option.{same_Some}
use Rattle.memchr.specs.Find.{OccursAt, Nowhere, NoneBefore}
use Rattle.weed_base.specs.Told.{Consumes, IsAtEnd}
use Rattle.weed_command.specs.Request.{IsRequest, host_line}
use Rattle.weed_command.specs.HeadEnd.{IsEndAt, HasNoEndBelow, IsHeadLength}
use Rattle.weed_command.specs.Inbox.{InboxState, FindsHead, TakesHead, Adds, IsNoRequest, left_of}
use Rattle.weed_command.specs.declared.inbox.Head.{Head}
use Rattle.weed_command.specs.declared.inbox.Head.TheVariants.{End, Request, NotYet}
use Rattle.weed_command.proofs.ListLemmas.{take-add}
use Rattle.weed_command.proofs.HeadLemmas.{head_of_request, head_unique, head-append, head_beyond, end_fits, end-append}

-- a part of bytes that are the same up to its end is the same
pub part-same : (start end : ℕ) (a b : List ℕ) → start ≤ end → take end a ≡ take end b → take (end - start) (drop start a) ≡ take (end - start) (drop start b)
part-same start end a b ordered same =
    let whole : start + (end - start) ≡ end = omega arith in
    sym (drop-take start (end - start) a)
    ∙ ap (λ n. drop start (take n a)) whole ∙ ap (drop start) same ∙ ap (λ n. drop start (take n b)) (sym whole)
    ∙ drop-take start (end - start) b

-- a part with so many bytes behind it
pub part-more : (start end count : ℕ) (bytes : List ℕ) → start ≤ end → take (end + count - start) (drop start bytes) ≡ take (end - start) (drop start bytes) ++ take count (drop end bytes)
part-more start end count bytes ordered =
    let longer : end + count - start ≡ (end - start) + count = omega arith in
    let whole : start + (end - start) ≡ end = omega arith in
    ap (λ n. take n (drop start bytes)) longer
    ∙ take-add (end - start) count (drop start bytes)
    ∙ ap (λ xs. take (end - start) (drop start bytes) ++ take count xs) (drop-drop (end - start) start bytes ∙ ap (λ n. drop n bytes) whole)

-- a part without its first bytes
pub part-drop : (start end count : ℕ) (bytes : List ℕ) → start + count ≤ end → take (end - (start + count)) (drop (start + count) bytes) ≡ drop count (take (end - start) (drop start bytes))
part-drop start end count bytes within =
    let rest = end - (start + count) in
    let whole : end - start ≡ count + rest = omega arith in
    sym (ap (λ n. drop count (take n (drop start bytes))) whole ∙ drop-take count rest (drop start bytes) ∙ ap (take rest) (drop-drop count start bytes))

-- the target stands behind the method of a request
pub target_is : (bytes text target more : List ℕ) → IsRequest text target → bytes ≡ text ++ more → take (length target) (drop 5 bytes) ≡ target
target_is bytes text target more request begins =
    let lines = codes " HTTP/1.1\r\n" ++ (host_line request.host ++ codes "\r\n") in
    let spelled : bytes ≡ codes "POST " ++ (target ++ lines) ++ more = begins ∙ ap (λ xs. xs ++ more) request.spelled in
    let behind : drop 5 bytes ≡ target ++ (lines ++ more) = ap (drop 5) spelled ∙ append_assoc target lines more in
    ap (take (length target)) behind ∙ take_at target (lines ++ more) (length target) refl

-- an occurrence of the needle is an end, behind the bytes that were searched
end-from_occurs : (bytes : List ℕ) (searched place : ℕ) → OccursAt (drop searched bytes) (codes "\n\r\n") place → IsEndAt bytes (searched + place)
end-from_occurs bytes searched place occurs =
    let reads : drop place (drop searched bytes) ≡ codes "\n\r\n" ++ drop (place + 3) (drop searched bytes) =
    at_from_reads 0 (drop searched bytes) (codes "\n\r\n") place occurs.fits occurs.reads in
    ap (take 3) (sym (drop-drop place searched bytes) ∙ reads)

occurs-from_end : (bytes : List ℕ) (searched place : ℕ) → IsEndAt bytes (searched + place) → OccursAt (drop searched bytes) (codes "\n\r\n") place
occurs-from_end bytes searched place stands =
    let rest = drop place (drop searched bytes) in
    let front : take 3 rest ≡ codes "\n\r\n" = ap (take 3) (drop-drop place searched bytes) ∙ stands in
    let reads : rest ≡ codes "\n\r\n" ++ drop 3 rest = sym (take-append-drop 3 rest) ∙ ap (λ xs. xs ++ drop 3 rest) front in
    record {
      fits = omega (arith, end_fits bytes (searched + place) stands, length-drop searched bytes);
      reads = at_reads 0 (drop searched bytes) (codes "\n\r\n") place (drop 3 rest) reads;
    }

-- no end stands below a place where a search found none up to it
below_from_search : (bytes : List ℕ) (searched limit : ℕ) → HasNoEndBelow bytes searched → ((place : ℕ) → place < limit → ¬ OccursAt (drop searched bytes) (codes "\n\r\n") place) → HasNoEndBelow bytes (searched + limit)
below_from_search bytes searched limit before after place below stands =
    ⊎_elim
    (λ early. before place early stands)
    (λ late.
    let same : searched + (place - searched) ≡ place = omega arith in
    after (place - searched) (omega arith) (occurs-from_end bytes searched (place - searched) (subst (IsEndAt bytes) (sym same) stands)))
    (cases_lt place searched)

pub head_none : (bytes : List ℕ) (searched : ℕ) → searched ≤ length bytes → HasNoEndBelow bytes searched → Nowhere (OccursAt (drop searched bytes) (codes "\n\r\n")) 0 (length (drop searched bytes) + 1) → HasNoEndBelow bytes (length bytes)
head_none bytes searched within before nowhere =
    let whole : searched + length (drop searched bytes) ≡ length bytes = omega (arith, length-drop searched bytes) in
    subst (HasNoEndBelow bytes) whole (below_from_search bytes searched (length (drop searched bytes)) before (λ place below. nowhere place (omega arith) (omega arith)))

pub head_found : (bytes : List ℕ) (searched place limit : ℕ) → HasNoEndBelow bytes searched → NoneBefore (OccursAt (drop searched bytes) (codes "\n\r\n")) 0 limit place → OccursAt (drop searched bytes) (codes "\n\r\n") place → IsHeadLength bytes (searched + place + 3)
head_found bytes searched place limit before first occurs = record {
  place = searched + place;
  ends = refl;
  stands = end-from_occurs bytes searched place occurs;
  first = below_from_search bytes searched place before (λ q below. first.before q (omega arith) below);
}

-- the target of a request that stands at the front of a part
pub taken_target : (bytes pending target : List ℕ) (start end count : ℕ) → take (end - start) (drop start bytes) ≡ pending → IsRequest (take count pending) target → take (start + 5 + length target - (start + 5)) (drop (start + 5) bytes) ≡ target
taken_target bytes pending target start end count part request =
    let behind = drop start bytes in
    let after = drop (end - start) behind in
    let begins : behind ≡ take count pending ++ (drop count pending ++ after) =
    sym (take-append-drop (end - start) behind)
    ∙ ap (λ xs. xs ++ after) (part ∙ sym (take-append-drop count pending))
    ∙ append_assoc (take count pending) (drop count pending) after in
    let size : start + 5 + length target - (start + 5) ≡ length target = omega arith in
    ap (λ n. take n (drop (start + 5) bytes)) size
    ∙ ap (take (length target)) (sym (drop-drop 5 start bytes))
    ∙ target_is behind (take count pending) target (drop count pending ++ after) request begins

-- a head that is no request is no front of one either
no_request_at_head : (pending left : List ℕ) (count : ℕ) → IsHeadLength pending count → ((target : List ℕ) → ¬ IsRequest (take count pending) target) → IsNoRequest (pending ++ left)
no_request_at_head pending left count head none = (
  λ empty. omega (arith, head.ends, end_fits pending head.place head.stands, ap length empty, length-append pending left),
  λ (text, target, rest, request, begins).
      let whole : count ≡ length text =
      head_unique (pending ++ left) count (length text) (head-append pending left count head) (subst (λ xs. IsHeadLength xs (length text)) (sym begins) (head_of_request text target rest request)) in
      let within : count ≤ length pending = omega (arith, head.ends, end_fits pending head.place head.stands) in
      let front : take count pending ≡ text =
      sym (take-append-le count pending left within) ∙ ap (take count) begins ∙ take_at text rest count (sym whole) in
      none target (subst (λ xs. IsRequest xs target) (sym front) request),
)

-- no request begins with a window in which no head ends, where it is long or all there is
no_request_without_end : (pending left : List ℕ) → HasNoEndBelow pending (length pending) → 0 < length pending → (16384 ≤ length pending) ⊎ (left ≡ []) → IsNoRequest (pending ++ left)
no_request_without_end pending left none filled reason = (
  λ empty. omega (arith, ap length empty, length-append pending left),
  λ (text, target, rest, request, begins).
      let head = subst (λ xs. IsHeadLength xs (length text)) (sym begins) (head_of_request text target rest request) in
      let beyond = head_beyond pending left (length text) none head in
      let sum = length-append text rest in
      let all = ap length begins ∙ sum in
      ⊎_elim
      (λ long. absurd (omega (arith, request.short, beyond)))
      (λ empty. absurd (omega (arith, beyond, all, length-append pending left, ap length empty)))
      reason,
)

pub finds_head : (head : Head) (old new : InboxState) (count : ℕ) (left : Option (List ℕ)) → IsHeadLength old.pending count → TakesHead head old new count → FindsHead head (left_of old.pending left) (left_of new.pending left) new.target
finds_head End old new count left head takes = absurd takes
finds_head Request old new count left head takes = (take count old.pending, takes.0, consumes left)
  where
    consumes : (left : Option (List ℕ)) → Consumes (left_of old.pending left) (left_of new.pending left) (take count old.pending)
    consumes None = refl
    consumes (Some bytes) =
        ap Some (ap (λ xs. xs ++ bytes) (sym (take-append-drop count old.pending)) ∙ append_assoc (take count old.pending) (drop count old.pending) bytes ∙ ap (λ xs. take count old.pending ++ (xs ++ bytes)) (sym takes.1))
finds_head NotYet old new count left head takes = (none left, ap (λ inbox. left_of inbox.pending left) takes.1)
  where
    none : (left : Option (List ℕ)) → IfSome (left_of old.pending left) IsNoRequest
    none None = tt
    none (Some bytes) = no_request_at_head old.pending bytes count head takes.0

pub none_long : (pending : List ℕ) (left : Option (List ℕ)) → HasNoEndBelow pending (length pending) → 16384 ≤ length pending → IfSome (left_of pending left) IsNoRequest
none_long pending None none long = tt
none_long pending (Some bytes) none long = no_request_without_end pending bytes none (omega arith) (inl long)

pub none_at_end : (pending : List ℕ) (left : Option (List ℕ)) → HasNoEndBelow pending (length pending) → 0 < length pending → IsAtEnd left → IfSome (left_of pending left) IsNoRequest
none_at_end pending None none filled ended = tt
none_at_end pending (Some bytes) none filled ended = no_request_without_end pending bytes none filled (inr (same_Some bytes [] ended))

-- a read moves bytes from the source to the inbox, and leaves all that is left as it was
pub left_of_adds : (pending new : List ℕ) (left new_left : Option (List ℕ)) (count : ℕ) → Adds pending new left new_left count → left_of new new_left ≡ left_of pending left
left_of_adds pending new left new_left count (bytes, _, grown, consumed, _) =
    ap (λ xs. left_of xs new_left) grown ∙ moved new_left ∙ ap (left_of pending) (sym consumed)
  where
    moved : (rest : Option (List ℕ)) → left_of (pending ++ bytes) rest ≡ left_of pending (option_map (λ xs. bytes ++ xs) rest)
    moved None = refl
    moved (Some rest) = ap Some (append_assoc pending bytes rest)

-- a read of nothing shows that the source was at its end
pub ended_before : (pending new : List ℕ) (left new_left : Option (List ℕ)) (count : ℕ) → count ≡ 0 → Adds pending new left new_left count → IsAtEnd left
ended_before pending new left new_left count none (bytes, size, _, consumed, ended) =
    subst IsAtEnd (sym consumed) (nothing bytes new_left (size ∙ none) (ended none))
  where
    nothing : (bytes : List ℕ) (rest : Option (List ℕ)) → length bytes ≡ 0 → IsAtEnd rest → IsAtEnd (option_map (λ xs. bytes ++ xs) rest)
    nothing bytes None _ _ = refl
    nothing [] (Some rest) _ ended = ended
    nothing (b ∷ bytes) (Some rest) size _ = absurd (omega arith)

-- what was searched without finding an end needs no second search, but for the last two bytes
pub none_more : (pending new left : List ℕ) → HasNoEndBelow pending (length pending) → new ≡ pending ++ left → HasNoEndBelow new (length pending - 2)
none_more pending new left none grown place below stands =
    none place (omega arith) (sym (end-append pending left place (omega arith)) ∙ ap (λ xs. take 3 (drop place xs)) (sym grown) ∙ stands)
