-- Bytes that are read and summed in pieces.
use Rattle.std.proofs.Common.{◌≡◌, ℕ, ◌+◌, ◌-◌, ◌<◌, ◌≤◌, List, ◌++◌, length, take, drop, ◌^◌, sym, ap, subst, ◌∙◌, arith, Option, Some, None, inl, inr}
use Rattle.std.specs.Prelude.{IfSome}
use Rattle.std.proofs.lemmas.Bool.{cases_lt}
use Rattle.std.proofs.lemmas.List.{drop-drop, drop-take, take-take}
use Rattle.std.proofs.Math.ListN.{get_or-append}
use Rattle.std.proofs.Math.Seq.{take-add, get_or-append_right}
use Rattle.weed_base.specs.Files.{Files, content}
use Rattle.needle.specs.Fields.{AreBytes}
use Rattle.needle.specs.Running.{IsRunOf}
use Rattle.needle.specs.declared.crc.Checksum.{Checksum}
use Rattle.needle.proofs.Codecs.{IsBytes-take}
use Rattle.volume_items.specs.Window.{Stretch, IsOf, IsSummedSoFar}

-- what a stretch holds from a place on
pub held_from : (text : List ℕ) (stretch : Stretch) (at : ℕ) → IsOf text stretch → stretch.at ≤ at → at ≤ stretch.at + length stretch.held
    → drop (at - stretch.at) stretch.held ≡ take (stretch.at + length stretch.held - at) (drop at text)
held_from text stretch at of ahead reached =
    let skip : ℕ = at - stretch.at in
    let left : ℕ = stretch.at + length stretch.held - at in
    let parts : length stretch.held ≡ skip + left = omega arith in
    let place : stretch.at + skip ≡ at = omega arith in
    ap (drop skip) (of ∙ ap (λ (n : ℕ). take n (drop stretch.at text)) parts)
    ∙ drop-take skip left (drop stretch.at text)
    ∙ ap (take left) (drop-drop skip stretch.at text ∙ ap (λ (n : ℕ). drop n text) place)

-- the first of them
pub front_from : (text : List ℕ) (stretch : Stretch) (at count : ℕ) → IsOf text stretch → stretch.at ≤ at → at ≤ stretch.at + length stretch.held
    → count ≤ stretch.at + length stretch.held - at → take count (drop (at - stretch.at) stretch.held) ≡ take count (drop at text)
front_from text stretch at count of ahead reached few =
    ap (take count) (held_from text stretch at of ahead reached) ∙ take-take count (stretch.at + length stretch.held - at) (drop at text) few

pub bytes_append : (xs ys : List ℕ) → AreBytes xs → AreBytes ys → AreBytes (xs ++ ys)
bytes_append xs ys a b i =
    elim (cases_lt i (length xs)) [
      | inl before ↦ subst (λ (n : ℕ). n < 2 ^ 8) (sym (get_or-append {A = ℕ} xs ys 0 i before)) (a i)
      | inr past ↦ subst (λ (n : ℕ). n < 2 ^ 8) (sym (get_or-append_right {A = ℕ} xs ys i 0 past)) (b (i - length xs))
    ]

-- a sum that took the next bytes
pub summed_on : (text piece : List ℕ) (place done taken : ℕ) (old new : Checksum) → piece ≡ take taken (drop (place + done) text) → AreBytes piece
    → ((so_far : List ℕ) → IsRunOf so_far old → IsRunOf (so_far ++ piece) new)
    → IsSummedSoFar text place done old → IsSummedSoFar text place (done + taken) new
summed_on text piece place done taken old new is bytes added before =
    let joined : take done (drop place text) ++ piece ≡ take (done + taken) (drop place text) =
    ap (λ (l : List ℕ). take done (drop place text) ++ l) (is ∙ ap (take taken) (sym (drop-drop done place text))) ∙ sym (take-add done taken (drop place text)) in
    record {
      taken = subst (λ (l : List ℕ). IsRunOf l new) joined (added (take done (drop place text)) before.taken);
      bytes = subst AreBytes joined (bytes_append (take done (drop place text)) piece before.bytes bytes);
    }

pub told_on : (told : Option Files) (name : List ℕ) (stretch : Stretch) (at taken : ℕ) (old new : Checksum)
    → IfSome told (λ files. IsOf (content files name) stretch) → stretch.at ≤ at → at ≤ stretch.at + length stretch.held
    → taken ≤ stretch.at + length stretch.held - at → AreBytes (drop (at - stretch.at) stretch.held)
    → ((so_far : List ℕ) → IsRunOf so_far old → IsRunOf (so_far ++ take taken (drop (at - stretch.at) stretch.held)) new)
    → IfSome told (λ files. (place done : ℕ) → at ≡ place + done → IsSummedSoFar (content files name) place done old → IsSummedSoFar (content files name) place (done + taken) new)
told_on None name stretch at taken old new of ahead reached few bytes added = tt
told_on (Some files) name stretch at taken old new of ahead reached few bytes added = λ place done here before.
    summed_on (content files name) (take taken (drop (at - stretch.at) stretch.held)) place done taken old new
    (front_from (content files name) stretch at taken of ahead reached few ∙ ap (λ (n : ℕ). take taken (drop n (content files name))) here)
    (IsBytes-take taken (drop (at - stretch.at) stretch.held) bytes) added before
