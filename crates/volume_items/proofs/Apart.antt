-- The names of a volume's files differ.
use Rattle.std.proofs.Common.{◌≡◌, ◌≢◌, ℕ, ◌+◌, List, [], ◌++◌, length, get_or, drop, ◌∙◌, ap, arith, Some, decimal}
use Rattle.std.specs.FinMap.{get}
use Rattle.std.proofs.lemmas.List.{append-nil, append_cancel_left, nil_from_length, length-drop}
use Rattle.weed_base.specs.Files.{Files, content, made, spliced}
use Rattle.volume_items.specs.declared.file_names.Part.{Part}
use Rattle.volume_items.specs.declared.file_names.Part.TheVariants.{Items, Index, Sign}
use Rattle.volume_items.specs.FileNames.{ending, name_of}
use Rattle.volume_items.specs.Changes.{ChangesOnly, LeavesOthers, made_with}
use Rattle.volume_items.proofs.Named.{get-insert_same, content-insert_same}

-- ---- the names differ

pub differ : (id : ℕ) (a b : Part) → ending a ≢ ending b → name_of id a ≢ name_of id b
differ id a b other same = other (append_cancel_left (decimal id) (ending a) (ending b) same)

pub items_index : ending Items ≡ ending Index → ⊥
items_index e = let h : 100 ≡ 105 = ap (λ (l : List ℕ). get_or l 1 0) e in omega (arith, h)

pub items_sign : ending Items ≡ ending Sign → ⊥
items_sign e = let h : 100 ≡ 118 = ap (λ (l : List ℕ). get_or l 1 0) e in omega (arith, h)

pub index_sign : ending Index ≡ ending Sign → ⊥
index_sign e = let h : 105 ≡ 118 = ap (λ (l : List ℕ). get_or l 1 0) e in omega (arith, h)

pub anew : (name text : List ℕ) (files : Files) → get (made_with name text files) name ≡ Some text
anew name text files =
    let spliced_is : spliced (content (made name files) name) 0 text ≡ text =
    ap (λ (bytes : List ℕ). spliced bytes 0 text) (content-insert_same files name []) ∙ whole in
    get-insert_same (made name files) name _ ∙ ap Some spliced_is
  where
    whole : spliced [] 0 text ≡ text
    whole = ap (λ (rest : List ℕ). text ++ rest) (nil_from_length (drop (0 + length text) []) (omega (arith, length-drop {A = ℕ}))) ∙ append-nil text

-- ---- what they leave

pub others_of : (id : ℕ) (part : Part) (name : List ℕ) → name ≡ name_of id part → (old new : Files) → ChangesOnly name old new → LeavesOthers id old new
others_of id part name is old new only = λ other apart. only other (λ same. apart part (same ∙ is))

pub others_both : (id : ℕ) (a b c : Files) → LeavesOthers id a b → LeavesOthers id b c → LeavesOthers id a c
others_both id a b c first second = λ other apart. second other apart ∙ first other apart
