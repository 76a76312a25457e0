-- Some bytes have one outcome, and so one list of requests.
use Rattle.std.proofs.Common.{◌≡◌, ℕ, ◌+◌, ◌-◌, ◌≤◌, Bool, true, false, List, [], ◌∷◌, ◌++◌, length, take, Ok, Err, Result, refl, sym, ap, subst, ◌∙◌, arith, append-nil, inl, inr, ◌⊎◌}
use Rattle.std.proofs.Math.Seq.{take-append-add}
use Rattle.std.proofs.lemmas.Bool.{false≢true}
use Rattle.httparse.specs.Grammar.{ReadsRequest, print_request}
use Rattle.httparse.proofs.GrammarLemmas.{request_unique}
use Rattle.http_head.specs.Request.{parts_of, judged}
use Rattle.http_head.specs.declared.head.Head.{Head}
use Rattle.http_head.specs.declared.fault.HeadFault.{HeadFault}
use Rattle.http_wire.specs.Next.{IsHead, IsNoHead, IsTooLong}
use Rattle.http_bodies.specs.Stage.{begun}
use Rattle.http_bodies.specs.Body.{BodyEnd, StandsFor, Whole, Refused}
use Rattle.http_run.specs.Requests.{Outcome, Served, NoHead, HeadRefused, Unread, BodyRefused, HasHead, IsOutcome, Requests, none_left, last_one, one_more}
use Rattle.http_run.proofs.BodyLemmas.{one_way}

-- a head in front of some bytes, by the grammar
reads : (bytes text behind : List ℕ) (verdict : Result Head HeadFault) (is : IsHead text verdict) → bytes ≡ text ++ behind → ReadsRequest bytes is.head behind
reads bytes text behind verdict is split =
    (is.reads.0, split ∙ ap (λ xs. xs ++ behind) (is.reads.1 ∙ append-nil (print_request is.head)))

-- it is the only one, and is judged one way
heads_once : (bytes one behind two after : List ℕ) (verdict other : Result Head HeadFault) → IsHead one verdict → bytes ≡ one ++ behind → IsHead two other → bytes ≡ two ++ after → (verdict ≡ other) × (behind ≡ after)
heads_once bytes one behind two after verdict other first split second parted =
    let same = request_unique bytes first.head second.head behind after (reads bytes one behind verdict first split) (reads bytes two after other second parted) in
    (sym first.judged_so ∙ ap (λ h. judged (parts_of h)) same.0 ∙ second.judged_so, same.1)

good_once : (bytes behind after : List ℕ) (head other : Head) → HasHead bytes head behind → HasHead bytes other after → (head ≡ other) × (behind ≡ after)
good_once bytes behind after head other (one, first, split) (two, second, parted) =
    let same = heads_once bytes one behind two after (Ok head) (Ok other) first split second parted in
    (cc (same.0), same.1)

-- the first 16,384 bytes begin with it
in_window : (bytes text behind : List ℕ) → bytes ≡ text ++ behind → length text ≤ 16384 → take 16384 bytes ≡ text ++ take (16384 - length text) behind
in_window bytes text behind split short =
    let whole : 16384 ≡ length text + (16384 - length text) = omega (arith, short) in
    ap (take 16384) split ∙ ap (λ n. take n (text ++ behind)) whole ∙ take-append-add text behind (16384 - length text)

-- where no head stands in front, none does
none_there : (bytes text behind : List ℕ) (verdict : Result Head HeadFault) → IsHead text verdict → bytes ≡ text ++ behind → IsNoHead bytes ⊎ IsTooLong bytes → ⊥
none_there bytes text behind verdict is split (inl (inl never)) =
    let window = in_window bytes text behind split is.short in
    never [] is.head (take (16384 - length text) behind) (reads (take 16384 bytes ++ []) text (take (16384 - length text) behind) verdict is (append-nil (take 16384 bytes) ∙ window))
none_there bytes text behind verdict is split (inl (inr (some, short, none))) = none is.head behind (reads bytes text behind verdict is split)
none_there bytes text behind verdict is split (inr (long, none, may)) =
    none is.head (take (16384 - length text) behind) (reads (take 16384 bytes) text (take (16384 - length text) behind) verdict is (in_window bytes text behind split is.short))

-- a body behind a head
bodies_once : (limit : ℕ) (bytes behind after one two : List ℕ) (head other : Head) (end last : BodyEnd) → HasHead bytes head behind → HasHead bytes other after → StandsFor (begun head.body limit) behind one end → StandsFor (begun other.body limit) after two last
    → (head ≡ other) × (one ≡ two) × (end ≡ last)
bodies_once limit bytes behind after one two head other end last first second stands stood =
    let same = good_once bytes behind after head other first second in
    let there = subst (λ h. StandsFor (begun h.body limit) behind two last) (sym same.0) (subst (λ xs. StandsFor (begun other.body limit) xs two last) (sym same.1) stood) in
    let way = one_way (begun head.body limit) behind one end two last stands there in
    (same.0, way.0, way.1)

-- what is answered early isn't read
not_both : (early : Head → Bool) (bytes behind after : List ℕ) (head other : Head) → HasHead bytes head behind → HasHead bytes other after → early head ≡ false → early other ≡ true → ⊥
not_both early bytes behind after head other first second reads skips =
    false≢true (sym reads ∙ ap early (good_once bytes behind after head other first second).0 ∙ skips)

-- one verdict
not_good : (bytes behind after text : List ℕ) (head : Head) (fault : HeadFault) → HasHead bytes head behind → IsHead text (Err fault) → bytes ≡ text ++ after → ⊥
not_good bytes behind after text head fault (one, first, split) second parted =
    let same = heads_once bytes one behind text after (Ok head) (Err fault) first split second parted in
    cc (same.0)

-- one outcome
outcome_once : (limit : ℕ) (early : Head → Bool) (bytes : List ℕ) (one two : Outcome) (rest other : List ℕ) → IsOutcome limit early bytes one rest → IsOutcome limit early bytes two other → (one ≡ two) × (rest ≡ other)
outcome_once limit early bytes (Served head payload) (Served other more) rest last (behind, has, goes, stands) (after, holds, runs, stood) =
    let same = bodies_once limit bytes behind after payload more head other (Whole rest) (Whole last) has holds stands stood in
    (subst (λ h. Served head payload ≡ Served h more) same.0 (ap (Served head) same.1), cc (same.2))
outcome_once limit early bytes (Served head payload) NoHead rest last (behind, has, goes, stands) (none, nothing) = absurd (none_there bytes has.0 behind (Ok head) has.1 has.2 none)
outcome_once limit early bytes (Served head payload) (HeadRefused fault) rest last (behind, has, goes, stands) (text, after, is, split, nothing) = absurd (not_good bytes behind after text head fault has is split)
outcome_once limit early bytes (Served head payload) (Unread other) rest last (behind, has, goes, stands) (after, holds, skips, nothing) = absurd (not_both early bytes behind after head other has holds goes skips)
outcome_once limit early bytes (Served head payload) (BodyRefused other more fault) rest last (behind, has, goes, stands) (after, holds, runs, stood, nothing) =
    let same = bodies_once limit bytes behind after payload more head other (Whole rest) (Refused fault) has holds stands stood in
    absurd (cc (same.2))
outcome_once limit early bytes NoHead (Served other more) rest last (none, nothing) (after, holds, runs, stood) = absurd (none_there bytes holds.0 after (Ok other) holds.1 holds.2 none)
outcome_once limit early bytes NoHead NoHead rest last (none, nothing) (also, naught) = (refl, nothing ∙ sym naught)
outcome_once limit early bytes NoHead (HeadRefused fault) rest last (none, nothing) (text, after, is, split, naught) = absurd (none_there bytes text after (Err fault) is split none)
outcome_once limit early bytes NoHead (Unread other) rest last (none, nothing) (after, holds, skips, naught) = absurd (none_there bytes holds.0 after (Ok other) holds.1 holds.2 none)
outcome_once limit early bytes NoHead (BodyRefused other more fault) rest last (none, nothing) (after, holds, runs, stood, naught) = absurd (none_there bytes holds.0 after (Ok other) holds.1 holds.2 none)
outcome_once limit early bytes (HeadRefused fault) (Served other more) rest last (text, behind, is, split, nothing) (after, holds, runs, stood) = absurd (not_good bytes after behind text other fault holds is split)
outcome_once limit early bytes (HeadRefused fault) NoHead rest last (text, behind, is, split, nothing) (none, naught) = absurd (none_there bytes text behind (Err fault) is split none)
outcome_once limit early bytes (HeadRefused fault) (HeadRefused reason) rest last (text, behind, is, split, nothing) (word, after, has, parted, naught) =
    let same = heads_once bytes text behind word after (Err fault) (Err reason) is split has parted in
    (ap HeadRefused (cc (same.0)), nothing ∙ sym naught)
outcome_once limit early bytes (HeadRefused fault) (Unread other) rest last (text, behind, is, split, nothing) (after, holds, skips, naught) = absurd (not_good bytes after behind text other fault holds is split)
outcome_once limit early bytes (HeadRefused fault) (BodyRefused other more reason) rest last (text, behind, is, split, nothing) (after, holds, runs, stood, naught) = absurd (not_good bytes after behind text other fault holds is split)
outcome_once limit early bytes (Unread head) (Served other more) rest last (behind, has, skips, nothing) (after, holds, runs, stood) = absurd (not_both early bytes after behind other head holds has runs skips)
outcome_once limit early bytes (Unread head) NoHead rest last (behind, has, skips, nothing) (none, naught) = absurd (none_there bytes has.0 behind (Ok head) has.1 has.2 none)
outcome_once limit early bytes (Unread head) (HeadRefused fault) rest last (behind, has, skips, nothing) (text, after, is, split, naught) = absurd (not_good bytes behind after text head fault has is split)
outcome_once limit early bytes (Unread head) (Unread other) rest last (behind, has, skips, nothing) (after, holds, jumps, naught) =
    (ap Unread (good_once bytes behind after head other has holds).0, nothing ∙ sym naught)
outcome_once limit early bytes (Unread head) (BodyRefused other more fault) rest last (behind, has, skips, nothing) (after, holds, runs, stood, naught) = absurd (not_both early bytes after behind other head holds has runs skips)
outcome_once limit early bytes (BodyRefused head payload fault) (Served other more) rest last (behind, has, goes, stands, nothing) (after, holds, runs, stood) =
    let same = bodies_once limit bytes behind after payload more head other (Refused fault) (Whole last) has holds stands stood in
    absurd (cc (same.2))
outcome_once limit early bytes (BodyRefused head payload fault) NoHead rest last (behind, has, goes, stands, nothing) (none, naught) = absurd (none_there bytes has.0 behind (Ok head) has.1 has.2 none)
outcome_once limit early bytes (BodyRefused head payload fault) (HeadRefused reason) rest last (behind, has, goes, stands, nothing) (text, after, is, split, naught) = absurd (not_good bytes behind after text head reason has is split)
outcome_once limit early bytes (BodyRefused head payload fault) (Unread other) rest last (behind, has, goes, stands, nothing) (after, holds, skips, naught) = absurd (not_both early bytes behind after head other has holds goes skips)
outcome_once limit early bytes (BodyRefused head payload fault) (BodyRefused other more reason) rest last (behind, has, goes, stands, nothing) (after, holds, runs, stood, naught) =
    let same = bodies_once limit bytes behind after payload more head other (Refused fault) (Refused reason) has holds stands stood in
    let why : fault ≡ reason = cc (same.2) in (
      subst (λ h. BodyRefused head payload fault ≡ BodyRefused h more reason) same.0
          (subst (λ xs. BodyRefused head payload fault ≡ BodyRefused head xs reason) same.1 (ap (BodyRefused head payload) why)),
      nothing ∙ sym naught,
    )

-- one list of requests
pub requests_once : (limit : ℕ) (early : Head → Bool) (closes : Outcome → Bool) (bytes : List ℕ) (one : List Outcome) (rest : List ℕ) (two : List Outcome) (other : List ℕ)
    → Requests limit early closes bytes one rest → Requests limit early closes bytes two other → (one ≡ two) × (rest ≡ other)
requests_once limit early closes _ _ _ _ _ none_left none_left = (refl, refl)
requests_once limit early closes _ _ _ _ _ none_left (last_one _ outcome rest some is ends) = absurd (omega (arith, some))
requests_once limit early closes _ _ _ _ _ none_left (one_more _ outcome rest later end some is goes on) = absurd (omega (arith, some))
requests_once limit early closes _ _ _ _ _ (last_one _ outcome rest some is ends) none_left = absurd (omega (arith, some))
requests_once limit early closes _ _ _ _ _ (last_one bytes outcome rest some is ends) (last_one _ another other any has stops) =
    let same = outcome_once limit early bytes outcome another rest other is has in
    (ap (λ o. o ∷ []) same.0, same.1)
requests_once limit early closes _ _ _ _ _ (last_one bytes outcome rest some is ends) (one_more _ another other later end any has goes on) =
    let same = outcome_once limit early bytes outcome another rest other is has in
    absurd (false≢true (sym goes ∙ ap closes (sym same.0) ∙ ends))
requests_once limit early closes _ _ _ _ _ (one_more _ outcome rest later end some is goes on) none_left = absurd (omega (arith, some))
requests_once limit early closes _ _ _ _ _ (one_more bytes outcome rest later end some is goes on) (last_one _ another other any has stops) =
    let same = outcome_once limit early bytes outcome another rest other is has in
    absurd (false≢true (sym goes ∙ ap closes same.0 ∙ stops))
requests_once limit early closes _ _ _ _ _ (one_more bytes outcome rest later end some is goes on) (one_more _ another other further last any has runs off) =
    let same = outcome_once limit early bytes outcome another rest other is has in
    let next = requests_once limit early closes rest later end further last on (subst (λ xs. Requests limit early closes xs further last) (sym same.1) off) in
    (subst (λ o. outcome ∷ later ≡ o ∷ further) same.0 (ap (λ os. outcome ∷ os) next.0), next.1)
