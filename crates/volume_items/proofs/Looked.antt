-- What stands at a place of a file of items.
use Rattle.std.proofs.Common.{◌≡◌, ℕ, ◌+◌, ◌-◌, ◌≤◌, List, ◌++◌, length, take, drop, sym, ap, subst, ◌∙◌, arith, Bool, true, false, Option, Some, None, Result, Ok, Err}
use Rattle.std.specs.Prelude.{IfSome, IsOk, IsTrue, is_ok, ◌↔◌}
use Rattle.std.proofs.lemmas.List.{drop-drop, take-append-drop, length-drop}
use Rattle.weed_base.specs.Files.{Files, content}
use Rattle.needle.specs.Crc.{checksum}
use Rattle.needle.specs.declared.head.Head.{Head}
use Rattle.needle.specs.declared.fault.NeedleFault.{NeedleFault}
use Rattle.needle.specs.declared.item.ReadItem.{ReadItem}
use Rattle.needle.specs.declared.version.Version.{Version}
use Rattle.needle.specs.Fields.{AreBytes}
use Rattle.needle.specs.Pieces.{IsHead, IsInPieces, Checks, data_behind}
use Rattle.needle.specs.Reading.{read_at}
use Rattle.needle.proofs.Codecs.{IsBytes-take}
use Rattle.volume_items.specs.Walk.{HasHead}
use Rattle.volume_items.specs.Window.{Stretch, IsOf, IsSummed}
use Rattle.volume_items.proofs.Summed.{held_from, front_from}

-- ---- a head

-- what is held from a place on begins what the text has there
pub begins_there : (text : List ℕ) (stretch : Stretch) (at : ℕ) → IsOf text stretch → stretch.at ≤ at → at ≤ stretch.at + length stretch.held
    → (more : List ℕ) × (drop at text ≡ drop (at - stretch.at) stretch.held ++ more)
begins_there text stretch at of ahead reached =
    let n : ℕ = stretch.at + length stretch.held - at in
    (drop n (drop at text), sym (take-append-drop n (drop at text)) ∙ ap (λ (l : List ℕ). l ++ drop n (drop at text)) (sym (held_from text stretch at of ahead reached)))

pub told_head : (told : Option Files) (name bytes : List ℕ) (stretch : Stretch) (place : ℕ) (head : Head) → IfSome told (λ files. IsOf (content files name) stretch)
    → stretch.at ≤ place → place ≤ stretch.at + length stretch.held → bytes ≡ drop (place - stretch.at) stretch.held → 20 ≤ length bytes → AreBytes bytes
    → ((rest : List ℕ) → IsHead (bytes ++ rest) head) → IfSome told (λ files. HasHead (content files name) place (Some head))
told_head None name bytes stretch place head of ahead reached is long are begins = tt
told_head (Some files) name bytes stretch place head of ahead reached is long are begins =
    let text = content files name in
    let there = begins_there text stretch place of ahead reached in
    let len = length-drop (place - stretch.at) stretch.held in
    let front : take 20 bytes ≡ take 20 (drop place text) =
    ap (take 20) is ∙ front_from text stretch place 20 of ahead reached (omega (arith, len, ap length is)) in (
      subst (λ (t : List ℕ). IsHead t head) (sym (there.1 ∙ ap (λ (l : List ℕ). l ++ there.0) (sym is))) (begins there.0),
      subst AreBytes front (IsBytes-take 20 bytes are),
    )

-- ---- a tail

pub told_tail : (told : Option Files) (name bytes : List ℕ) (stretch : Stretch) (place len : ℕ) → IfSome told (λ files. IsOf (content files name) stretch)
    → stretch.at ≤ place → place ≤ stretch.at + length stretch.held → bytes ≡ drop (place - stretch.at) stretch.held → len ≤ length bytes → AreBytes bytes
    → IfSome told (λ files. AreBytes (take len (drop place (content files name))))
told_tail None name bytes stretch place len of ahead reached is long are = tt
told_tail (Some files) name bytes stretch place len of ahead reached is long are =
    let held = length-drop (place - stretch.at) stretch.held in
    subst AreBytes (ap (take len) is ∙ front_from (content files name) stretch place len of ahead reached (omega (arith, held, ap length is))) (IsBytes-take len bytes are)

checks_ok : (result : Result (Unit {0}) NeedleFault) (read : Result ReadItem NeedleFault) (ok : Bool) → ok ≡ is_ok result → Checks result read → IsTrue ok ↔ IsOk read
checks_ok (Ok x) read ok is checks = (λ _. checks, λ _. is)
checks_ok (Err fault) read ok is checks = (λ yes. absurd (no (sym is ∙ yes)), λ good. absurd (none read checks good))
  where
    no : false ≡ true → ⊥
    no e = cc

    none : (read : Result ReadItem NeedleFault) → read ≡ Err fault → IsOk read → ⊥
    none (Ok r) e good = cc
    none (Err f) e good = cc

in_pieces : (text tail : List ℕ) (start place len sum : ℕ) (head : Head) → place ≡ start + 20 + data_behind head → IsHead (drop start text) head
    → IsSummed text (start + 20) (data_behind head) sum → tail ≡ take len (drop place text) → IsInPieces head sum tail (drop start text)
in_pieces text tail start place len sum head here begins summed is =
    let there : start + (20 + data_behind head) ≡ place = omega (arith, here) in
    record {
      begins = begins;
      sum_is = summed.sum_is ∙ ap (λ (l : List ℕ). checksum (take (data_behind head) l)) (sym (drop-drop 20 start text));
      more = drop len (drop place text);
      ends = drop-drop (20 + data_behind head) start text ∙ ap (λ (n : ℕ). drop n text) there ∙ sym (take-append-drop len (drop place text))
          ∙ ap (λ (l : List ℕ). l ++ drop len (drop place text)) (sym is);
    }

pub told_checked : (told : Option Files) (name bytes : List ℕ) (stretch : Stretch) (place len sum : ℕ) (head : Head) (version : Version) (result : Result (Unit {0}) NeedleFault) (ok : Bool)
    → IfSome told (λ files. IsOf (content files name) stretch) → stretch.at ≤ place → place ≤ stretch.at + length stretch.held → bytes ≡ drop (place - stretch.at) stretch.held
    → len ≤ length bytes → ok ≡ is_ok result → ((text : List ℕ) → IsInPieces head sum (take len bytes) text → Checks result (read_at version text))
    → IfSome told (λ files. (start : ℕ) → place ≡ start + 20 + data_behind head → IsHead (drop start (content files name)) head
    → IsSummed (content files name) (start + 20) (data_behind head) sum → IsTrue ok ↔ IsOk (read_at version (drop start (content files name))))
told_checked None name bytes stretch place len sum head version result ok of ahead reached is long good checks = tt
told_checked (Some files) name bytes stretch place len sum head version result ok of ahead reached is long good checks = λ start here begins summed.
    let text = content files name in
    let held = length-drop (place - stretch.at) stretch.held in
    let tail : take len bytes ≡ take len (drop place text) = ap (take len) is ∙ front_from text stretch place len of ahead reached (omega (arith, held, ap length is)) in
    checks_ok result (read_at version (drop start text)) ok good (checks (drop start text) (in_pieces text (take len bytes) start place len sum head here begins summed tail))
