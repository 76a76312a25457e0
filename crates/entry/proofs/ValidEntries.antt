-- An entry that is read is valid.
use Rattle.std.proofs.Common.{◌≡◌, ℕ, ◌≤◌, ◌+◌, Bool, true, false, cond, ◌||◌, eqb, min, List, [], ◌∷◌, length, Option, None, Some, Result, Ok, Err, refl, sym, ap, ◌∙◌, subst, arith, All, inl, inr}
use Rattle.std.specs.declared.alloc.AllocError.{AllocError}
use Rattle.std.specs.Prelude.{IfSome, IfOk, filter_map, option_and_then}
use Rattle.std.specs.List.{AllByRecursion, cons_option}
use Rattle.std.specs.Result.{result_ok}
use Rattle.std.specs.Cmp.{first_so, second_so}
use Rattle.std.proofs.lemmas.Bool.{leb-true}
use Rattle.std.proofs.lemmas.Bool.Decides.{eqb_tells}
use Rattle.std.proofs.lemmas.List.Elements.{All-from_recursion}
use Rattle.proto_wire.specs.Taken.{messages_at}
use Rattle.entry.specs.declared.chunk.Chunk.{Chunk}
use Rattle.entry.specs.declared.chunk_message.ChunkParts.{ChunkParts}
use Rattle.entry.specs.declared.entry.Entry.{Entry}
use Rattle.entry.specs.declared.entry.Kind.{Kind}
use Rattle.entry.specs.declared.entry.Kind.TheVariants.{Directory, File}
use Rattle.entry.specs.AttributesText.{AttributesText, are_good}
use Rattle.entry.specs.ChunkText.{ChunkText}
use Rattle.entry.specs.ChunkReading.{chunk_at, chunk_of, chunk_with, fid_of, is_placed}
use Rattle.entry.specs.Entry.{IsValid, IsValidChunk}
use Rattle.entry.specs.EntryText.{chunk_read}
use Rattle.entry.specs.EntryParts.{EntryParts, IsOfText}
use Rattle.entry.specs.EntryReading.{or_no_fields, chunks_of, is_entry, entry_of}

kept_then : {X Y : Type 0} (P : Y → Type 0) (f : X → Option Y) (o : Option X) → ((x : X) → IfSome (f x) P) → IfSome (option_and_then f o) P
kept_then P f None each = tt
kept_then P f (Some x) each = each x

kept_if : {X : Type 0} (P : X → Type 0) (b : Bool) (x : X) → (b ≡ true → P x) → IfSome (cond b (Some x) None) P
kept_if P true x is = is refl
kept_if P false x is = tt

placed_is_valid : (fields : ChunkText) (c : Chunk) → c.offset ≡ fields.offset → c.size ≡ fields.size → is_placed fields ≡ true → IsValidChunk c
placed_is_valid fields c offset size is =
    let filled : 1 ≤ fields.size = leb-true _ _ (first_so _ _ is) in
    let within : fields.offset + fields.size ≤ 274877906944 = leb-true _ _ (second_so _ _ is) in
    record { filled = omega arith; within = omega arith }

chunk_is_valid : (parts : ChunkParts) → IfSome (chunk_of parts) IsValidChunk
chunk_is_valid parts =
    kept_then IsValidChunk (λ fid. cond (is_placed parts.fields) (Some (chunk_with parts.fields fid)) None) (option_and_then fid_of parts.fid)
    (λ fid. kept_if IsValidChunk (is_placed parts.fields) (chunk_with parts.fields fid) (placed_is_valid parts.fields (chunk_with parts.fields fid) refl refl))

read_is_valid : (text : List ℕ) → IfSome (chunk_read text) IsValidChunk
read_is_valid text = kept_then IsValidChunk chunk_of (result_ok (chunk_at text)) chunk_is_valid

all_with : (o : Option Chunk) (more : List Chunk) → IfSome o IsValidChunk → AllByRecursion IsValidChunk more → AllByRecursion IsValidChunk (cons_option o more)
all_with None more is rest = rest
all_with (Some c) more is rest = (is, rest)

all_are_valid : (texts : List (List ℕ)) → AllByRecursion IsValidChunk (filter_map chunk_read texts)
all_are_valid [] = tt
all_are_valid (text ∷ texts) = all_with (chunk_read text) (filter_map chunk_read texts) (read_is_valid text) (all_are_valid texts)

no_longer_with : (o : Option Chunk) (more : List Chunk) (n : ℕ) → length more ≤ n → length (cons_option o more) ≤ n + 1
no_longer_with None more n is = omega arith
no_longer_with (Some c) more n is = omega arith

no_longer : (texts : List (List ℕ)) → length (filter_map chunk_read texts) ≤ length texts
no_longer [] = omega arith
no_longer (text ∷ texts) = let rest = no_longer_with (chunk_read text) (filter_map chunk_read texts) (length texts) (no_longer texts) in omega arith

none_of : (xs : List Chunk) → length xs ≤ 0 → xs ≡ []
none_of [] is = refl
none_of (x ∷ xs) is = absurd (omega arith)

directory_is_bare : (b c : Bool) (count : ℕ) → cond {A = Kind} b File Directory ≡ Directory → (b || c) ≡ true → (c ≡ true → count ≡ 0) → count ≡ 0
directory_is_bare true c count kind is zero = absurd cc
directory_is_bare false c count kind is zero = zero is

eqb_is : (n m : ℕ) → eqb n m ≡ true → n ≡ m
eqb_is n m is = elim (eqb_tells n m) [ inl same ↦ same.1 | inr other ↦ absurd (let e : true ≡ false = sym is ∙ other.0 in cc) ]

good_sizes : (a : AttributesText) → are_good a ≡ true → (a.file_size ≤ 274877906944) × (length a.mime ≤ 255)
good_sizes a good =
    let mime_too = first_so _ _ good in
    (leb-true _ _ (second_so _ _ (first_so _ _ mime_too)), leb-true _ _ (second_so _ _ mime_too))

-- The entry of good parts is valid.
pub entry_is_valid : (parts : EntryParts) → IsOfText parts.text parts.fields → is_entry parts ≡ true → IsValid (entry_of parts)
entry_is_valid parts so is =
    let three = first_so _ _ is in
    let two = first_so _ _ three in
    let sizes = good_sizes parts.attributes (first_so _ _ two) in
    let texts : List (List ℕ) = messages_at 3 so.outer in
    let count : parts.fields.chunks.count ≡ min (length texts) 65537 = ap (λ f. f.chunks.count) so.is in
    let most : parts.fields.chunks.count ≤ 65536 = leb-true _ _ (second_so _ _ three) in
    let chunks : chunks_of parts.text ≡ filter_map chunk_read texts = ap (λ read. filter_map chunk_read (messages_at 3 (or_no_fields read))) so.whole in
    let few : length (filter_map chunk_read texts) ≤ length texts = no_longer texts in
    let long : length (chunks_of parts.text) ≡ length (filter_map chunk_read texts) = ap length chunks in
    record {
      bare = λ kind.
          let none : parts.fields.chunks.count ≡ 0 = directory_is_bare (eqb parts.fields.is_directory 0) (eqb parts.fields.chunks.count 0) parts.fields.chunks.count kind (second_so _ _ is) (eqb_is parts.fields.chunks.count 0) in
          none_of (chunks_of parts.text) (omega arith);
      chunks = subst (All IsValidChunk) (sym chunks) (All-from_recursion IsValidChunk _ (all_are_valid texts));
      few = omega arith;
      file_size = sizes.0;
      mime = sizes.1;
    }

pub made_is_valid : (made : Result Entry AllocError) (parts : EntryParts) → IsOfText parts.text parts.fields → is_entry parts ≡ true → IfOk made (λ entry. entry ≡ entry_of parts) → IfOk made IsValid
made_is_valid (Ok entry) parts so good is = subst IsValid (sym is) (entry_is_valid parts so good)
made_is_valid (Err failed) parts so good is = tt
