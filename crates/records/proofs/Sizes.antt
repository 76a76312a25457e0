-- The lengths of texts that aren't built.
use Rattle.std.proofs.Common.{◌≡◌, ℕ, ◌+◌, ◌-◌, ◌%◌, ◌/◌, ◌^◌, ◌≤◌, ◌<◌, List, [], ◌∷◌, ◌++◌, length, min, ap, subst, arith, length-append}
use Rattle.proto_wire.specs.Text.{varint_text, varint_field, bytes_field}
use Rattle.entry.specs.declared.chunk.Chunk.{Chunk}
use Rattle.entry.specs.EntryWriting.{chunks_text}
use Rattle.name_core.specs.declared.change.Change.{Change}
use Rattle.records.specs.RecordText.{events_text}
use Rattle.proto_wire.proofs.Varint.{Pushes, begins, goes_on, ends, length-varint_text}
use Rattle.records.specs.Lengths.{Measures}

-- Between two groups of a number: one group more than are counted before the rest
pub record CountsSo (number size rest : ℕ) : Type 0 where
  pub before : List ℕ
  pub pushes : Pushes [] number before rest
  pub counted : length before + 1 ≡ size

pub counts_none : (number : ℕ) → number < 2 ^ 64 → CountsSo number 1 number
counts_none number fits = record { before = []; pushes = begins [] number (omega arith) fits; counted = omega arith }

pub counts_more : (number size rest : ℕ) → 128 ≤ rest → CountsSo number size rest → CountsSo number (size + 1) (rest / 128)
counts_more number size rest large so = record {
  before = so.before ++ (rest % 128 + 128) ∷ [];
  pushes = goes_on [] number so.before rest large so.pushes;
  counted = omega (arith, length-append so.before ((rest % 128 + 128) ∷ []), so.counted);
}

pub counts_few : (number size rest : ℕ) → CountsSo number size rest → size ≤ 20
counts_few number size rest so = let room = so.pushes.room in omega (arith, so.counted)

pub counts_all : (number size rest : ℕ) → rest < 128 → CountsSo number size rest → size ≡ length (varint_text number)
counts_all number size rest small so =
    let whole : so.before ++ rest ∷ [] ≡ varint_text number = ends [] number so.before rest small so.pushes in
    omega (arith, ap length whole, length-append so.before (rest ∷ []), so.counted)

pub counts_short : (number size rest : ℕ) → rest < 128 → CountsSo number size rest → size ≤ 10
counts_short number size rest small so = let exact = counts_all number size rest small so in omega (arith, length-varint_text number)

-- Sums of lengths
pub measured_sum : (a b sum : ℕ) (xs ys : List ℕ) → sum ≡ min (a + b) (2 ^ 64 - 1) → Measures a xs → Measures b ys → Measures sum (xs ++ ys)
measured_sum a b sum xs ys is first second = omega (arith, length-append xs ys)

pub small_sum : (a b : ℕ) (xs ys : List ℕ) → a ≡ length xs → b ≡ length ys → a ≤ 10 → b ≤ 10 → Measures (a + b) (xs ++ ys)
small_sum a b xs ys first second short brief = omega (arith, length-append xs ys)

-- The same value by another name
pub as_number : (size : ℕ) (front : List ℕ) (number v w : ℕ) → v ≡ w → Measures size (front ++ varint_field number v) → Measures size (front ++ varint_field number w)
as_number size front number v w same is = subst (λ u. Measures size (front ++ varint_field number u)) same is

pub as_bytes : (size : ℕ) (front : List ℕ) (number : ℕ) (v w : List ℕ) → v ≡ w → Measures size (front ++ bytes_field number v) → Measures size (front ++ bytes_field number w)
as_bytes size front number v w same is = subst (λ u. Measures size (front ++ bytes_field number u)) same is

pub as_chunks : (size : ℕ) (front : List ℕ) (v w : List Chunk) → v ≡ w → Measures size (front ++ chunks_text v) → Measures size (front ++ chunks_text w)
as_chunks size front v w same is = subst (λ u. Measures size (front ++ chunks_text u)) same is

pub as_events : (size : ℕ) (front : List ℕ) (v w : List Change) → v ≡ w → Measures size (front ++ events_text v) → Measures size (front ++ events_text w)
as_events size front v w same is = subst (λ u. Measures size (front ++ events_text u)) same is
