-- How what is left of a body moves on, and how it ends.
use Rattle.std.proofs.Common.{◌≡◌, ℕ, zero, suc, ◌-◌, ◌<◌, ◌≤◌, List, [], ◌∷◌, ◌++◌, length, Option, Some, None, refl, sym, ap, subst, ◌∙◌, arith, append_assoc, append-nil}
use Rattle.std.specs.Prelude.{⊤}
use Rattle.std.specs.Option.{option_map}
use Rattle.weed_base.specs.Told.{Consumes, IsAtEnd}
use Rattle.http_wire.specs.Inbox.{left_of}
use Rattle.http_bodies.specs.declared.stage.Stage.{Stage}
use Rattle.http_bodies.specs.declared.stage.Stage.TheVariants.{Length, Over, Chunk}
use Rattle.http_bodies.specs.declared.fault.BodyFault.{BodyFault}
use Rattle.http_bodies.specs.declared.fault.BodyFault.TheVariants.{ReadFault, Cut, BadChunk, TooLong, BadForm, Memory}
use Rattle.http_bodies.specs.Body.{BodyEnd, Whole, Refused, Leads, IsCut, StandsFor, nothing_left, byte_by_length, byte_of_chunk, mark, cut, bad, over, Passes, Moves, IsRefused}

-- nothing of what is left was taken
none_taken : (left : Option (List ℕ)) → Consumes left left []
none_taken None = refl
none_taken (Some left) = refl

-- where nothing is taken a body stays
pub stays : (stage : Stage) (left : Option (List ℕ)) → Moves stage stage left left []
stays stage left = ([], none_taken left, λ bytes more end stands. stands)

-- it goes on by a mark
pub on_by_mark : (stage next : Stage) (left new : Option (List ℕ)) (text : List ℕ) → Leads stage text next → Consumes left new text → Moves stage next left new []
on_by_mark stage next left new text leads taken =
    (text, taken, λ bytes more end stands. mark stage next (text ++ bytes) text bytes more end refl leads stands)

-- two texts taken one behind the other are one text taken
taken_twice : (left mid new : Option (List ℕ)) (one two : List ℕ) → Consumes left mid one → Consumes mid new two → Consumes left new (one ++ two)
taken_twice left mid None one two first second = first ∙ ap (option_map (λ rest. one ++ rest)) second
taken_twice left mid (Some new) one two first second = first ∙ ap (option_map (λ rest. one ++ rest)) second ∙ ap Some (sym (append_assoc one two new))

-- a body that moved on twice has moved on
pub moves_on : (a b c : Stage) (left mid new : Option (List ℕ)) (p q : List ℕ) → Moves a b left mid p → Moves b c mid new q → Moves a c left new (p ++ q)
moves_on a b c left mid new p q (one, first, passes) (two, second, later) = (
  one ++ two,
  taken_twice left mid new one two first second,
  λ bytes more end stands.
      subst (λ text. StandsFor a text ((p ++ q) ++ more) end) (sym (append_assoc one two bytes))
      (subst (λ payload. StandsFor a (one ++ (two ++ bytes)) payload end) (sym (append_assoc p q more)) (passes (two ++ bytes) (q ++ more) end (later bytes more end stands))),
)

-- bytes by length are data
pub piece_by_length : (text : List ℕ) (left : ℕ) → length text ≤ left → Passes (Length left) text text (Length (left - length text))
piece_by_length [] left within bytes more end stands = subst (λ n. StandsFor (Length n) bytes more end) (omega arith) stands
piece_by_length (b ∷ text) zero within bytes more end stands = absurd (omega arith)
piece_by_length (b ∷ text) (suc left) within bytes more end stands =
    let e : suc left - length (b ∷ text) ≡ left - length text = omega arith in
    byte_by_length left b (text ++ bytes) (text ++ more) end
    (piece_by_length text left (omega arith) bytes more end (subst (λ n. StandsFor (Length n) bytes more end) e stands))

-- so are those of a chunk
pub piece_of_chunk : (text : List ℕ) (left allowed : ℕ) → length text ≤ left → Passes (Chunk left allowed) text text (Chunk (left - length text) allowed)
piece_of_chunk [] left allowed within bytes more end stands = subst (λ n. StandsFor (Chunk n allowed) bytes more end) (omega arith) stands
piece_of_chunk (b ∷ text) zero allowed within bytes more end stands = absurd (omega arith)
piece_of_chunk (b ∷ text) (suc left) allowed within bytes more end stands =
    let e : suc left - length (b ∷ text) ≡ left - length text = omega arith in
    byte_of_chunk left allowed b (text ++ bytes) (text ++ more) end
    (piece_of_chunk text left allowed (omega arith) bytes more end (subst (λ n. StandsFor (Chunk n allowed) bytes more end) e stands))

-- the refusals of a body
abbrev IsBodys : BodyFault → Type 0
IsBodys ReadFault = ⊥
IsBodys Cut = ⊤
IsBodys BadChunk = ⊤
IsBodys TooLong = ⊤
IsBodys BadForm = ⊥
IsBodys Memory = ⊥

abbrev EndsSo : BodyEnd → Type 0
EndsSo (Whole _) = ⊤
EndsSo (Refused fault) = IsBodys fault

-- a body ends by no other
ends_so : (stage : Stage) (bytes payload : List ℕ) (end : BodyEnd) → StandsFor stage bytes payload end → EndsSo end
ends_so _ _ _ _ (nothing_left _) = tt
ends_so _ _ _ _ (byte_by_length count byte bytes payload end stands) = ends_so (Length count) bytes payload end stands
ends_so _ _ _ _ (byte_of_chunk left allowed byte bytes payload end stands) = ends_so (Chunk left allowed) bytes payload end stands
ends_so _ _ _ _ (mark stage next bytes text rest payload end is leads stands) = ends_so next rest payload end stands
ends_so _ _ _ _ (cut _ _ _) = tt
ends_so _ _ _ _ (bad _ _ _) = tt
ends_so _ _ _ _ (over _ _ _) = tt

-- what is refused whatever follows is refused
pub refused_for_all : (fault : BodyFault) (stage : Stage) (pending : List ℕ) (told : Option (List ℕ)) → ((more : List ℕ) → StandsFor stage (pending ++ more) [] (Refused fault)) → IsRefused fault stage (left_of pending told)
refused_for_all ReadFault stage pending told always = tt
refused_for_all Cut stage pending None always = tt
refused_for_all Cut stage pending (Some more) always = always more
refused_for_all BadChunk stage pending None always = tt
refused_for_all BadChunk stage pending (Some more) always = always more
refused_for_all TooLong stage pending None always = tt
refused_for_all TooLong stage pending (Some more) always = always more
refused_for_all BadForm stage pending told always = ends_so stage (pending ++ []) [] (Refused BadForm) (always [])
refused_for_all Memory stage pending told always = ends_so stage (pending ++ []) [] (Refused Memory) (always [])

-- how many bytes are told to be left
abbrev size_of : Option (List ℕ) → ℕ
size_of None = 0
size_of (Some bytes) = length bytes

-- where the bytes end before a mark they are cut
pub cut_at_end : (stage : Stage) (pending : List ℕ) (told : Option (List ℕ)) → IsCut stage pending → IsAtEnd told → IsRefused Cut stage (left_of pending told)
cut_at_end stage pending None pends ended = tt
cut_at_end stage pending (Some []) pends ended = subst (λ bytes. StandsFor stage bytes [] (Refused Cut)) (sym (append-nil pending)) (cut stage pending pends)
cut_at_end stage pending (Some (b ∷ more)) pends ended = absurd (omega (arith, ap size_of ended))

-- so are data of which some is wanted
pub cut_by_length : (left : ℕ) (told : Option (List ℕ)) → 0 < left → IsAtEnd told → IsRefused Cut (Length left) told
cut_by_length left None some ended = tt
cut_by_length zero (Some []) some ended = absurd (omega arith)
cut_by_length (suc left) (Some []) some ended = cut (Length (suc left)) [] refl
cut_by_length left (Some (b ∷ more)) some ended = absurd (omega (arith, ap size_of ended))

-- and those of a chunk
pub cut_of_chunk : (left allowed : ℕ) (told : Option (List ℕ)) → 0 < left → IsAtEnd told → IsRefused Cut (Chunk left allowed) told
cut_of_chunk left allowed None some ended = tt
cut_of_chunk zero allowed (Some []) some ended = absurd (omega arith)
cut_of_chunk (suc left) allowed (Some []) some ended = cut (Chunk (suc left) allowed) [] refl
cut_of_chunk left allowed (Some (b ∷ more)) some ended = absurd (omega (arith, ap size_of ended))

-- a stated length over the limit is
pub over_limit : (told : Option (List ℕ)) → IsRefused TooLong Over told
over_limit None = tt
over_limit (Some bytes) = over Over bytes tt
