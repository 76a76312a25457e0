-- What a reader or writer of the outside tells, handed on.
use Rattle.std.proofs.Common.{◌≡◌, ℕ, List, Option, Some, None, Result, Ok, Err, IsSome, MatchResult, ap, refl}
use Rattle.std.specs.Io.{ReadsAtMost, WritesAtMost}
use Rattle.std.specs.Io.KnownBytes.{ReadConsumes, WriteAppends}
use Rattle.weed_base.specs.Told.{Reads, Writes}

-- what a read of the reader tells, where an untold reader stays so
read_told : {E : Type 0} (old new : Option (List ℕ)) (answer : Result ℕ E) (room : List ℕ) → (IsSome new → IsSome old) → ReadsAtMost answer room → ReadConsumes old new answer room → Reads old new answer room
read_told None None (Ok n) room steady bound reads = (bound.0, refl, λ none some. refl)
read_told None None (Err error) room steady bound reads = refl
read_told None (Some ys) (Ok n) room steady bound reads = absurd (cc (steady refl))
read_told None (Some ys) (Err error) room steady bound reads = absurd (cc (steady refl))
read_told (Some xs) None (Ok n) room steady bound reads = absurd reads.0
read_told (Some xs) None (Err error) room steady bound reads = absurd reads
read_told (Some xs) (Some ys) (Ok n) room steady bound reads = (bound.0, ap Some reads.0, λ none some. ap Some (reads.1 none some))
read_told (Some xs) (Some ys) (Err error) room steady bound reads = ap Some reads

-- what a write of the writer tells, where an untold writer stays so
write_told : {E : Type 0} (old new : Option (List ℕ)) (answer : Result ℕ E) (piece : List ℕ) → (IsSome new → IsSome old) → WritesAtMost answer piece → WriteAppends old new answer piece → Writes old new answer piece
write_told None None (Ok n) piece steady bound writes = (bound, refl)
write_told None None (Err error) piece steady bound writes = refl
write_told None (Some ys) (Ok n) piece steady bound writes = absurd (cc (steady refl))
write_told None (Some ys) (Err error) piece steady bound writes = absurd (cc (steady refl))
write_told (Some xs) None (Ok n) piece steady bound writes = absurd writes
write_told (Some xs) None (Err error) piece steady bound writes = absurd writes
write_told (Some xs) (Some ys) (Ok n) piece steady bound writes = (bound, ap Some writes)
write_told (Some xs) (Some ys) (Err error) piece steady bound writes = ap Some writes

-- the same of an answer handed on
pub read_handed_on : {E F : Type 0} (failed : F) (old new : Option (List ℕ)) (answer : Result ℕ E) (result : Result ℕ F) (room : List ℕ) → (IsSome new → IsSome old) → ReadsAtMost answer room → ReadConsumes old new answer room → MatchResult answer (λ n. result ≡ Ok n) (λ _. result ≡ Err failed) → Reads old new result room
read_handed_on {F = F} failed old new (Ok n) result room steady bound reads is = rw is (read_told {E = F} old new (Ok n) room steady bound reads)
read_handed_on {F = F} failed old new (Err error) result room steady bound reads is = rw is (read_told {E = F} old new (Err failed) room steady bound reads)

pub write_handed_on : {E F : Type 0} (failed : F) (old new : Option (List ℕ)) (answer : Result ℕ E) (result : Result ℕ F) (piece : List ℕ) → (IsSome new → IsSome old) → WritesAtMost answer piece → WriteAppends old new answer piece → MatchResult answer (λ n. result ≡ Ok n) (λ _. result ≡ Err failed) → Writes old new result piece
write_handed_on {F = F} failed old new (Ok n) result piece steady bound writes is = rw is (write_told {E = F} old new (Ok n) piece steady bound writes)
write_handed_on {F = F} failed old new (Err error) result piece steady bound writes is = rw is (write_told {E = F} old new (Err failed) piece steady bound writes)
