-- What reading a body does to what is left.
use Rattle.std.proofs.Common.{◌≡◌, ℕ, zero, suc, ◌-◌, ◌<◌, true, false, List, [], ◌++◌, length, take, drop, min, Ok, Err, Result, Option, Some, None, refl, sym, ap, subst, ◌∙◌, arith, append_assoc, ⊎_elim}
use Rattle.std.proofs.lemmas.Bool.{false≢true}
use Rattle.std.proofs.lemmas.List.{length-take, take-append-drop}
use Rattle.weed_base.specs.Told.{Consumes, IsAtEnd, Reads}
use Rattle.http_wire.specs.Inbox.{left_of, Adds}
use Rattle.http_wire.proofs.InboxLemmas.{left_of_adds, ended_before}
use Rattle.http_bodies.specs.declared.stage.Stage.{Stage}
use Rattle.http_bodies.specs.declared.stage.Stage.TheVariants.{Length, Over, Chunk}
use Rattle.http_bodies.specs.declared.fault.BodyFault.{BodyFault}
use Rattle.http_bodies.specs.declared.fault.BodyFault.TheVariants.{Cut, TooLong}
use Rattle.http_bodies.specs.Stage.{is_between}
use Rattle.http_bodies.specs.Body.{Moves, IsRefused, ReadsBody, Passes}
use Rattle.http_bodies.specs.Found.{TakesMark}
use Rattle.http_bodies.specs.Read.{PassesMark, PassesMarks, TakesData}
use Rattle.http_bodies.proofs.MoveLemmas.{stays, on_by_mark, moves_on, piece_by_length, piece_of_chunk, refused_for_all, cut_at_end, cut_by_length, cut_of_chunk, over_limit}

-- first bytes of what was read ahead are taken
front_taken : (text rest : List ℕ) (told : Option (List ℕ)) → Consumes (left_of (text ++ rest) told) (left_of rest told) text
front_taken text rest None = refl
front_taken text rest (Some more) = ap Some (append_assoc text rest more)

-- bytes that were read ahead are given
pub pending_read : (E : Type 0) (pending new room : List ℕ) (told : Option (List ℕ)) (count : ℕ) → 0 < length pending → count ≡ min (length room) (length pending) → new ≡ drop count pending → take count room ≡ take count pending
    → Reads {E = E} (left_of pending told) (left_of new told) (Ok count) room
pending_read E pending new room told count some counted rest front = (
  omega (arith, counted),
  subst (λ text. Consumes (left_of pending told) (left_of new told) text) (sym front)
      (subst (λ xs. Consumes (left_of pending told) (left_of xs told) (take count pending)) (sym rest)
      (subst (λ xs. Consumes (left_of xs told) (left_of (drop count pending) told) (take count pending)) (take-append-drop count pending) (front_taken (take count pending) (drop count pending) told))),
  λ none wide. absurd (omega (arith, counted, none, some, wide)),
)

-- where nothing was read ahead, all that is left is the source's
none_ahead : (told : Option (List ℕ)) → left_of [] told ≡ told
none_ahead None = refl
none_ahead (Some left) = refl

-- data that are cut, or a read that failed
refused_there : (stage : Stage) (fault : BodyFault) (left : ℕ) (told new : Option (List ℕ)) (room : List ℕ) → (0 < left → IsAtEnd told → IsRefused Cut stage told) → TakesData (Err fault) left told new room → ReadsBody (Err fault) stage stage told new room
refused_there stage fault left told new room is_cut (same, why) =
    subst (λ rest. ReadsBody (Err fault) stage stage told rest room) (sym same) (
      stays stage told,
      ⊎_elim
          (λ failed. subst (λ f. IsRefused f stage told) (sym failed) tt)
          (λ ended. subst (λ f. IsRefused f stage told) (sym ended.0) (is_cut ended.1 ended.2))
          why,
    )

pub refused_by_length : (fault : BodyFault) (left : ℕ) (told new : Option (List ℕ)) (room : List ℕ) → TakesData (Err fault) left told new room → ReadsBody (Err fault) (Length left) (Length left) told new room
refused_by_length fault left told new room takes = refused_there (Length left) fault left told new room (cut_by_length left told) takes

pub refused_of_chunk : (fault : BodyFault) (left allowed : ℕ) (told new : Option (List ℕ)) (room : List ℕ) → TakesData (Err fault) left told new room → ReadsBody (Err fault) (Chunk left allowed) (Chunk left allowed) told new room
refused_of_chunk fault left allowed told new room takes = refused_there (Chunk left allowed) fault left told new room (cut_of_chunk left allowed told) takes

-- data by length
pub data_by_length : (count left : ℕ) (told new : Option (List ℕ)) (room : List ℕ) → TakesData (Ok count) left told new room → ReadsBody (Ok count) (Length left) (Length (left - count)) told new room
data_by_length count left told new room (fits, within, taken, some) =
    let size : length (take count room) ≡ count = omega (arith, length-take count room, fits) in (
      fits,
      (take count room, taken, subst (λ n. Passes (Length left) (take count room) (take count room) (Length (left - n))) size (piece_by_length (take count room) left (omega (arith, size, within)))),
      λ none wide. ap Length (omega (arith, some none)),
    )

-- data of a chunk
pub data_of_chunk : (count left allowed : ℕ) (told new : Option (List ℕ)) (room : List ℕ) → is_between (Chunk left allowed) ≡ false → TakesData (Ok count) left told new room → ReadsBody (Ok count) (Chunk left allowed) (Chunk (left - count) allowed) told new room
data_of_chunk count zero allowed told new room between takes = absurd (false≢true (sym between))
data_of_chunk count (suc left) allowed told new room between (fits, within, taken, some) =
    let size : length (take count room) ≡ count = omega (arith, length-take count room, fits) in (
      fits,
      (take count room, taken, subst (λ n. Passes (Chunk (suc left) allowed) (take count room) (take count room) (Chunk (suc left - n) allowed)) size (piece_of_chunk (take count room) (suc left) allowed (omega (arith, size, within)))),
      λ none wide. absurd (omega (arith, some none)),
    )

-- a stated length over the limit
pub refused_over : (told : Option (List ℕ)) (room : List ℕ) → ReadsBody (Err TooLong) Over Over told told room
refused_over told room = (stays Over told, over_limit told)

-- what is refused in place of a mark
pub mark_refused : (fault : BodyFault) (begun stage next : Stage) (left told : Option (List ℕ)) (pending new : List ℕ) → stage ≡ begun → left_of pending told ≡ left → TakesMark (Err fault) stage next pending new → PassesMark (Err fault) begun next left (left_of new told)
mark_refused fault begun stage next left told pending new same kept (other, stayed, rest, always) = (
  stayed ∙ same,
  ap (λ xs. left_of xs told) rest ∙ kept,
  subst (IsRefused fault begun) kept (subst (λ s. IsRefused fault s (left_of pending told)) same (refused_for_all fault stage pending told always)),
)

-- a mark that is passed
pub mark_passed : (begun stage next : Stage) (left told : Option (List ℕ)) (pending new : List ℕ) → stage ≡ begun → left_of pending told ≡ left → TakesMark (Ok true) stage next pending new → PassesMark (Ok tt) begun next left (left_of new told)
mark_passed begun stage next left told pending new same kept (fewer, (text, leads, split)) =
    subst (λ s. PassesMark (Ok tt) s next left (left_of new told)) same (
      fewer,
      on_by_mark stage next left (left_of new told) text leads (sym kept ∙ ap (λ xs. left_of xs told) split ∙ front_taken text new told),
    )

-- where the source ends before a mark
pub mark_cut : (begun stage next : Stage) (left told later : Option (List ℕ)) (pending held after : List ℕ) (count : ℕ) → stage ≡ begun → left_of pending told ≡ left → TakesMark (Ok false) stage next pending held → count ≡ 0 → Adds held after told later count
    → PassesMark (Err Cut) begun next left (left_of after later)
mark_cut begun stage next left told later pending held after count same kept (pends, short, stayed, rest) none adds = (
  stayed ∙ same,
  left_of_adds held after told later count adds ∙ ap (λ xs. left_of xs told) rest ∙ kept,
  subst (IsRefused Cut begun) kept (subst (λ s. IsRefused Cut s (left_of pending told)) same (cut_at_end stage pending told pends (ended_before held after told later count none adds))),
)

-- one mark more
pub one_more : (begun stage next : Stage) (left mid new : Option (List ℕ)) → Moves begun stage left mid [] → PassesMark (Ok tt) stage next mid new → Moves begun next left new []
one_more begun stage next left mid new before passed = moves_on begun stage next left mid new [] [] before passed.1

-- one refused behind those that were passed
pub more_refused : (fault : BodyFault) (begun stage next : Stage) (left mid new : Option (List ℕ)) → Moves begun stage left mid [] → PassesMark (Err fault) stage next mid new → PassesMarks (Err fault) begun next left new
more_refused fault begun stage next left mid new before (stayed, kept, refused) = (
  subst (λ s. Moves begun s left new []) (sym stayed) (subst (λ rest. Moves begun stage left rest []) (sym kept) before),
  subst (λ s. IsRefused fault s new) (sym stayed) (subst (IsRefused fault stage) (sym kept) refused),
)

-- data behind the marks that were passed, or a refusal there
pub behind_marks : (result : Result ℕ BodyFault) (begun stage next : Stage) (left mid new : Option (List ℕ)) (room : List ℕ) → Moves begun stage left mid [] → ReadsBody result stage next mid new room → ReadsBody result begun next left new room
behind_marks (Ok count) begun stage next left mid new room before (fits, moved, ends) = (fits, moves_on begun stage next left mid new [] (take count room) before moved, ends)
behind_marks (Err fault) begun stage next left mid new room before (moved, refused) = (moves_on begun stage next left mid new [] [] before moved, refused)
