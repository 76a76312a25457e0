-- Keys and numbers only rise.
use Rattle.std.proofs.Common.{◌≡◌, ℕ, ◌+◌, ◌≤◌, max, List, [], ◌∷◌, Ok, Err, Some, None, refl, ap, ◌∙◌, arith}
use Rattle.std.specs.List.{AllByRecursion}
use Rattle.std.specs.Option.{option_map_or}
use Rattle.std.specs.FinMap.{get}
use Rattle.topology.specs.Changes.{with_report}
use Rattle.std.proofs.Math.Nat.{le-max_left, le-max_right}
use Rattle.topology.specs.declared.report.VolumeReport.{VolumeReport}
use Rattle.master.specs.declared.master.Master.{Master}
use Rattle.master.specs.Turns.{IsHeard, with_made, greatest_volume}
use Rattle.master.specs.Runs.{Turn, Beat, Assign, Lookup, Grow, Made, Volumes, IsTurn, IsRun, past_keys, GivesFrom, KeysRise, top_number, GrowsPast, NumbersRise}

-- what a call makes of the next key
record Moves (bound next after : ℕ) (turn : Turn) : Type 0 where
  kept : next ≤ after
  past : past_keys turn ≤ after
  from : bound ≤ next → GivesFrom bound turn

same_next : (before heard after : Master) (now : ℕ) → IsHeard now before heard → after ≡ heard → after.next ≡ before.next
same_next before heard after now is e = ap (λ (m : Master). m.next) e ∙ is.next

-- with a volume that was made
made_next : (id : List ℕ) (report : VolumeReport) (before : Master) → (with_made id report before).next ≡ before.next
made_next id report before =
    elim (get before.topology id) as (λ found. (option_map_or (λ _. record {
      topology = with_report id report before.topology;
      next = before.next;
      greatest = max before.greatest report.volume;
      limit = before.limit;
    }) found before).next ≡ before.next) [ None ↦ refl | Some member ↦ refl ]

made_greatest : (id : List ℕ) (report : VolumeReport) (before : Master) → before.greatest ≤ (with_made id report before).greatest
made_greatest id report before =
    elim (get before.topology id) as (λ found. before.greatest ≤ (option_map_or (λ _. record {
      topology = with_report id report before.topology;
      next = before.next;
      greatest = max before.greatest report.volume;
      limit = before.limit;
    }) found before).greatest) [ None ↦ omega arith | Some member ↦ le-max_left before.greatest report.volume ]

moves : (bound : ℕ) (before : Master) (turn : Turn) (after : Master) → IsTurn before turn after → Moves bound before.next after.next turn
moves bound before (Beat beat now (Ok done)) after (heard, is, p) =
    let e : after.next ≡ max heard.next (beat.greatest + 1) = ap (λ (m : Master). m.next) p.1 in
    let n = is.next in
    record {
      kept = omega (arith, e, n, le-max_left heard.next (beat.greatest + 1));
      past = omega (arith, e, le-max_right heard.next (beat.greatest + 1));
      from = λ _. tt;
    }
moves bound before (Beat beat now (Err fault)) after (heard, is, p) = let e = same_next before heard after now is p.1 in record { kept = omega (arith, e); past = omega arith; from = λ _. tt }
moves bound before (Assign placement ttl count cookie now (Ok assigned)) after (heard, is, p) =
    let e : after.next ≡ heard.next + count = ap (λ (m : Master). m.next) p.moved in
    let n = is.next in
    let k = p.key in
    let c = p.count_is in
    record { kept = omega (arith, e, n); past = omega (arith, e, k, c); from = λ le. omega (arith, le, n, k) }
moves bound before (Assign placement ttl count cookie now (Err fault)) after (heard, is, p) = let e = same_next before heard after now is p.1 in record { kept = omega (arith, e); past = omega arith; from = λ _. tt }
moves bound before (Lookup volume now result) after (heard, is, p) = let e = same_next before heard after now is p.1 in record { kept = omega (arith, e); past = omega arith; from = λ _. tt }
moves bound before (Grow placement now (Ok grown)) after (heard, is, p) =
    let e : after.next ≡ heard.next = ap (λ (m : Master). m.next) p.moved in
    let n = is.next in
    record { kept = omega (arith, e, n); past = omega arith; from = λ _. tt }
moves bound before (Grow placement now (Err fault)) after (heard, is, p) = let e = same_next before heard after now is p.1 in record { kept = omega (arith, e); past = omega arith; from = λ _. tt }
moves bound before (Made id report (Ok done)) after p = let e : after.next ≡ before.next = ap (λ (m : Master). m.next) p ∙ made_next id report before in record { kept = omega (arith, e); past = omega arith; from = λ _. tt }
moves bound before (Made id report (Err fault)) after p = let e : after.next ≡ before.next = ap (λ (m : Master). m.next) p.1 in record { kept = omega (arith, e); past = omega arith; from = λ _. tt }
moves bound before (Volumes now result) after (heard, is, p) = let e = same_next before heard after now is p.1 in record { kept = omega (arith, e); past = omega arith; from = λ _. tt }

gives_from : (bound : ℕ) (start : Master) (turns : List Turn) (end : Master) → bound ≤ start.next → IsRun start turns end → AllByRecursion (GivesFrom bound) turns
gives_from bound start [] end le run = tt
gives_from bound start (turn ∷ turns) end le (after, is, rest) =
    let m = moves bound start turn after is in
    let kept = m.kept in
    (m.from le, gives_from bound after turns end (omega (arith, le, kept)) rest)

pub keys_rise : (start end : Master) (turns : List Turn) → IsRun start turns end → KeysRise turns
keys_rise start end [] run = tt
keys_rise start end (turn ∷ turns) (after, is, rest) =
    let m = moves 0 start turn after is in
    (gives_from (past_keys turn) after turns end m.past rest, keys_rise after end turns rest)

-- what a call makes of the greatest number
record Grows (bound greatest after : ℕ) (turn : Turn) : Type 0 where
  kept : greatest ≤ after
  top : top_number turn ≤ after
  past : bound ≤ greatest → GrowsPast bound turn

same_greatest : (before heard after : Master) (now : ℕ) → IsHeard now before heard → after ≡ heard → after.greatest ≡ before.greatest
same_greatest before heard after now is e = ap (λ (m : Master). m.greatest) e ∙ is.greatest

grows : (bound : ℕ) (before : Master) (turn : Turn) (after : Master) → IsTurn before turn after → Grows bound before.greatest after.greatest turn
grows bound before (Beat beat now (Ok done)) after (heard, is, p) =
    let e : after.greatest ≡ max heard.greatest (greatest_volume beat.volumes) = ap (λ (m : Master). m.greatest) p.1 in
    let n = is.greatest in
    record {
      kept = omega (arith, e, n, le-max_left heard.greatest (greatest_volume beat.volumes));
      top = omega (arith, e, le-max_right heard.greatest (greatest_volume beat.volumes));
      past = λ _. tt;
    }
grows bound before (Beat beat now (Err fault)) after (heard, is, p) = let e = same_greatest before heard after now is p.1 in record { kept = omega (arith, e); top = omega arith; past = λ _. tt }
grows bound before (Assign placement ttl count cookie now (Ok assigned)) after (heard, is, p) =
    let e : after.greatest ≡ heard.greatest = ap (λ (m : Master). m.greatest) p.moved in
    let n = is.greatest in
    record { kept = omega (arith, e, n); top = omega arith; past = λ _. tt }
grows bound before (Assign placement ttl count cookie now (Err fault)) after (heard, is, p) = let e = same_greatest before heard after now is p.1 in record { kept = omega (arith, e); top = omega arith; past = λ _. tt }
grows bound before (Lookup volume now result) after (heard, is, p) = let e = same_greatest before heard after now is p.1 in record { kept = omega (arith, e); top = omega arith; past = λ _. tt }
grows bound before (Grow placement now (Ok grown)) after (heard, is, p) =
    let e : after.greatest ≡ heard.greatest + 1 = ap (λ (m : Master). m.greatest) p.moved in
    let n = is.greatest in
    let k = p.number in
    record { kept = omega (arith, e, n); top = omega (arith, e, k); past = λ le. omega (arith, le, n, k) }
grows bound before (Grow placement now (Err fault)) after (heard, is, p) = let e = same_greatest before heard after now is p.1 in record { kept = omega (arith, e); top = omega arith; past = λ _. tt }
grows bound before (Made id report (Ok done)) after p =
    let e : after.greatest ≡ (with_made id report before).greatest = ap (λ (m : Master). m.greatest) p in
    let kept = made_greatest id report before in
    record { kept = omega (arith, e, kept); top = omega arith; past = λ _. tt }
grows bound before (Made id report (Err fault)) after p = let e : after.greatest ≡ before.greatest = ap (λ (m : Master). m.greatest) p.1 in record { kept = omega (arith, e); top = omega arith; past = λ _. tt }
grows bound before (Volumes now result) after (heard, is, p) = let e = same_greatest before heard after now is p.1 in record { kept = omega (arith, e); top = omega arith; past = λ _. tt }

grows_past : (bound : ℕ) (start : Master) (turns : List Turn) (end : Master) → bound ≤ start.greatest → IsRun start turns end → AllByRecursion (GrowsPast bound) turns
grows_past bound start [] end le run = tt
grows_past bound start (turn ∷ turns) end le (after, is, rest) =
    let m = grows bound start turn after is in
    let kept = m.kept in
    (m.past le, grows_past bound after turns end (omega (arith, le, kept)) rest)

pub numbers_rise : (start end : Master) (turns : List Turn) → IsRun start turns end → NumbersRise turns
numbers_rise start end [] run = tt
numbers_rise start end (turn ∷ turns) (after, is, rest) =
    let m = grows 0 start turn after is in
    (grows_past (top_number turn) after turns end m.top rest, numbers_rise after end turns rest)
