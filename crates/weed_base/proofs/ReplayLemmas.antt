-- Calls made once more, the oldest first.
use Rattle.std.proofs.Common.{◌≡◌, ℕ, ◌+◌, ◌<◌, List, [], ◌∷◌, ◌++◌, length, take, drop, reverse, get_or, true, false, sym, ap, ◌∙◌, refl, add-one, append_assoc, append-nil}
use Rattle.std.proofs.lemmas.List.{reverse-append, take-append-drop}
use Rattle.std.proofs.Math.Seq.{take-suc}
use Rattle.weed_base.specs.Files.{Files}
use Rattle.weed_base.specs.History.{is_sync, changed, reads, settled_as, picked_after, picked, replayed, AreOpen, IsSettled}
use Rattle.weed_base.specs.declared.mem.change.Call.{Call}
use Rattle.weed_base.specs.declared.mem.change.Change.{Change}
use Rattle.weed_base.specs.declared.mem.change.Change.TheVariants.{Written, Torn, Cut, Made, Removed, Renamed, Synced}
use Rattle.weed_base.specs.declared.mem.change.Pick.{Pick}
use Rattle.weed_base.specs.declared.mem.change.Pick.TheVariants.{New}

-- the newest of the first calls
pub newest-of : (calls : List Call) (count rest : ℕ) (call : Call) → count ≡ rest + 1 → rest < length calls → call ≡ get_or calls rest call → reverse (take count calls) ≡ call ∷ reverse (take rest calls)
newest-of calls count rest call one within is =
    ap (λ n. reverse (take n calls)) (one ∙ add-one rest)
    ∙ ap reverse (take-suc calls rest call within)
    ∙ reverse-append (take rest calls) (get_or calls rest call ∷ [])
    ∙ ap (λ newest. newest ∷ reverse (take rest calls)) (sym is)

reversed-more : (call : Call) (calls past : List Call) → reverse calls ++ (call ∷ past) ≡ reverse (call ∷ calls) ++ past
reversed-more call calls past = sym (ap (λ turned. turned ++ past) (reverse-append (call ∷ []) calls) ∙ append_assoc (reverse calls) (call ∷ []) past)

-- the changes of these calls, made once more, behind earlier ones
replayed-reads : (start : Files) (past calls : List Call) → replayed New (reads start past) calls ≡ reads start (reverse calls ++ past)
replayed-reads start past [] = refl
replayed-reads start past (call ∷ calls) = replayed-reads start (call ∷ past) calls ∙ ap (reads start) (reversed-more call calls past)

settled-after : (pick : Pick) (change : Change) (files image : Files) → is_sync change ≡ false → settled_as pick change image ≡ picked_after pick change files image
settled-after pick (Written name at piece) files image is = refl
settled-after pick (Torn name at count) files image is = refl
settled-after pick (Cut name to) files image is = refl
settled-after pick (Made name) files image is = refl
settled-after pick (Removed name) files image is = refl
settled-after pick (Renamed from to) files image is = refl
settled-after pick Synced files image is = cc is

-- the open calls as the pick says
replayed-picked : (pick : Pick) (start : Files) (past calls : List Call) → AreOpen calls → replayed pick (picked pick start past) calls ≡ picked pick start (reverse calls ++ past)
replayed-picked pick start past [] open_left = refl
replayed-picked pick start past (call ∷ calls) open_left =
    ap (λ files. replayed pick files calls) (settled-after pick call.change (reads start past) (picked pick start past) open_left.0)
    ∙ replayed-picked pick start (call ∷ past) calls open_left.1
    ∙ ap (picked pick start) (reversed-more call calls past)

synced-picked : (pick : Pick) (change : Change) (files image : Files) → is_sync change ≡ true → picked_after pick change files image ≡ changed change files
synced-picked pick (Written name at piece) files image is = cc is
synced-picked pick (Torn name at count) files image is = cc is
synced-picked pick (Cut name to) files image is = cc is
synced-picked pick (Made name) files image is = cc is
synced-picked pick (Removed name) files image is = cc is
synced-picked pick (Renamed from to) files image is = cc is
synced-picked pick Synced files image is = refl

-- what is settled is as it reads
settled-reads : (pick : Pick) (start : Files) (past : List Call) → IsSettled past → picked pick start past ≡ reads start past
settled-reads pick start [] is = refl
settled-reads pick start (call ∷ past) is = synced-picked pick call.change (reads start past) (picked pick start past) is

-- an image, by making the settled calls once more, and then the open ones as the pick says
pub picked-replayed : (pick : Pick) (start : Files) (calls : List Call) (count : ℕ) → IsSettled (reverse (take count calls)) → AreOpen (drop count calls)
    → replayed pick (replayed New start (take count calls)) (drop count calls) ≡ picked pick start (reverse calls)
picked-replayed pick start calls count is open_left =
    let past = reverse (take count calls) in
    ap (λ files. replayed pick files (drop count calls)) (replayed-reads start [] (take count calls) ∙ ap (reads start) (append-nil past) ∙ sym (settled-reads pick start past is))
    ∙ replayed-picked pick start past (drop count calls) open_left
    ∙ ap (picked pick start) (sym (reverse-append (take count calls) (drop count calls)) ∙ ap reverse (take-append-drop count calls))
