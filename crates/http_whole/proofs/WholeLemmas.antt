-- How what is held grows.
use Rattle.std.proofs.Common.{◌≡◌, ℕ, ◌+◌, ◌<◌, ◌≤◌, true, false, List, [], ◌++◌, length, take, drop, Option, Ok, Err, refl, sym, ap, subst, ◌∙◌, arith, append_assoc, append-nil}
use Rattle.std.proofs.lemmas.List.{take-take, take-append-le, length-take, length-drop, take_at, take_all}
use Rattle.weed_base.proofs.ReadLemmas.{take-add}
use Rattle.http_bodies.specs.declared.stage.Stage.{Stage}
use Rattle.http_bodies.specs.declared.fault.BodyFault.{BodyFault}
use Rattle.http_bodies.specs.declared.fault.BodyFault.TheVariants.{ReadFault, Cut, BadChunk, TooLong, BadForm, Memory}
use Rattle.http_bodies.specs.Body.{Moves, IsRefused, ReadsBody}
use Rattle.http_bodies.proofs.MoveLemmas.{stays, moves_on}
use Rattle.http_whole.specs.Whole.{Fails, Grows, ReadsPiece}

pub none_grown : (stage : Stage) (left : Option (List ℕ)) (held : List ℕ) → Grows stage stage left left held held
none_grown stage left held = record { payload = []; moves = stays stage left; grown = sym (append-nil held) }

pub grows_on : (a b c : Stage) (left mid new : Option (List ℕ)) (held more now : List ℕ) → Grows a b left mid held more → Grows b c mid new more now → Grows a c left new held now
grows_on a b c left mid new held more now one two = record {
  payload = one.payload ++ two.payload;
  moves = moves_on a b c left mid new one.payload two.payload one.moves two.moves;
  grown = two.grown ∙ ap (λ h. h ++ two.payload) one.grown ∙ append_assoc held one.payload two.payload;
}

pub fails : (fault : BodyFault) (stage : Stage) (left : Option (List ℕ)) → IsRefused fault stage left → Fails fault stage left
fails ReadFault stage left refused = tt
fails Cut stage left refused = refused
fails BadChunk stage left refused = refused
fails TooLong stage left refused = refused
fails BadForm stage left refused = absurd refused
fails Memory stage left refused = tt

-- what was held stands in front of a room that was made wider
kept : (held mid rest room : List ℕ) (end wide : ℕ) → end ≡ length held → mid ≡ take wide held ++ rest → end ≤ wide → take end room ≡ take end mid → take (length held) room ≡ held
kept held mid rest room end wide same is within front =
    subst (λ n. take n room ≡ held) same
    (front ∙ ap (take end) (is ∙ ap (λ h. h ++ rest) (take_all wide held (omega (arith, same, within)))) ∙ take_at held rest end (sym same))

-- what a read gave stands behind it
grown_by : (stage next : Stage) (left new : Option (List ℕ)) (held room now : List ℕ) (end count : ℕ) → end ≡ length held → take (length held) room ≡ held
    → Moves stage next left new (take count (drop end room)) → now ≡ take (end + count) room → Grows stage next left new held now
grown_by stage next left new held room now end count same front moves made = record {
  payload = take count (drop end room);
  moves = moves;
  grown = made ∙ take-add end count room ∙ ap (λ h. h ++ take count (drop end room)) (ap (λ n. take n room) same ∙ front);
}

pub piece_ok : (stage next : Stage) (left new : Option (List ℕ)) (held mid rest room now : List ℕ) (end wide count : ℕ) → end ≡ length held → mid ≡ take wide held ++ rest → end ≤ wide
    → take end room ≡ take end mid → end < length room → ReadsBody (Ok count) stage next left new (drop end room) → 0 < count → now ≡ take (end + count) room
    → ReadsPiece (Ok true) stage next left new held now
piece_ok stage next left new held mid rest room now end wide count same is within front some read more made = (
  grown_by stage next left new held room now end count same (kept held mid rest room end wide same is within front) read.1 made,
  omega (arith, same, some, read.0, more, ap length made, length-take (end + count) room, length-drop end room),
)

pub piece_end : (stage next : Stage) (left new : Option (List ℕ)) (held mid rest room now : List ℕ) (end wide : ℕ) → end ≡ length held → mid ≡ take wide held ++ rest → end ≤ wide
    → take end room ≡ take end mid → end < length room → ReadsBody (Ok 0) stage next left new (drop end room) → now ≡ take end room
    → ReadsPiece (Ok false) stage next left new held now
piece_end stage next left new held mid rest room now end wide same is within front some read made = (
  grown_by stage next left new held room now end 0 same (kept held mid rest room end wide same is within front) read.1 (made ∙ ap (λ n. take n room) (omega arith)),
  read.2 refl (omega (arith, some, length-drop end room)),
)

pub piece_err : (stage next : Stage) (left new : Option (List ℕ)) (held mid rest room now : List ℕ) (end wide : ℕ) (fault : BodyFault) → end ≡ length held → mid ≡ take wide held ++ rest → end ≤ wide
    → take end room ≡ take end mid → ReadsBody (Err fault) stage next left new (drop end room) → now ≡ take end room
    → ReadsPiece (Err fault) stage next left new held now
piece_err stage next left new held mid rest room now end wide fault same is within front read made = (
  record { payload = []; moves = read.0; grown = made ∙ ap (λ n. take n room) same ∙ kept held mid rest room end wide same is within front ∙ sym (append-nil held) },
  fails fault next new read.1,
)

-- first bytes of a room that was written back
pub cut_back : (now room rest : List ℕ) (n m : ℕ) → n ≤ m → n ≤ length room → now ≡ take n (take m (room ++ rest)) → now ≡ take n room
cut_back now room rest n m within some is = is ∙ take-take n m (room ++ rest) within ∙ take-append-le n room rest some
