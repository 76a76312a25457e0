-- No text of a path is wrong by want of memory.
use Rattle.std.proofs.Common.{◌≡◌, ◌≢◌, ℕ, Bool, true, false, List, [], ◌∷◌, Option, Some, None, refl}
use Rattle.std.specs.Prelude.{MatchOption, IsOkUnless, Result, Err, map, length, nat_lt, not, ◌==◌, ◌||◌, codes, bytes_eq, nat_eq}
use Rattle.std.specs.List.{list_any, starts_with}
use Rattle.std.specs.Str.{is_utf8}
use Rattle.weed_base.specs.Path.{parts_in}
use Rattle.weed_base.specs.PathFaults.{fault_if, first_fault, part_fault, read_fault}
use Rattle.weed_base.specs.declared.path_fault.PathFault.{PathFault}
use Rattle.weed_base.specs.declared.path_fault.PathFault.TheVariants.{NotAbsolute, TooLong, NulByte, NotUtf8, EmptyPart, DotPart, PartTooLong, TooDeep, Memory}

some_same : (a b : PathFault) → Some a ≡ Some b → a ≡ b
some_same a b e = cc

tested : (b : Bool) (fault : PathFault) → fault ≢ Memory → fault_if b fault ≢ Some Memory
tested true fault other = λ is. other (some_same fault Memory is)
tested false fault other = λ is. cc

chained : (one : Option PathFault) (more : List (Option PathFault)) → one ≢ Some Memory → first_fault more ≢ Some Memory → first_fault (one ∷ more) ≢ Some Memory
chained None more here there = there
chained (Some fault) more here there = here

ended : first_fault [] ≢ Some Memory
ended = λ is. cc

part_is_no_memory : (part : List ℕ) → part_fault part ≢ Some Memory
part_is_no_memory part =
    chained _ _ (tested (length part == 0) EmptyPart (λ e. cc))
    (chained _ _ (tested (bytes_eq part (codes ".") || bytes_eq part (codes "..")) DotPart (λ e. cc))
    (chained _ _ (tested (nat_lt 255 (length part)) PartTooLong (λ e. cc)) ended))

parts_are_no_memory : (parts : List (List ℕ)) → first_fault (map part_fault parts) ≢ Some Memory
parts_are_no_memory [] = ended
parts_are_no_memory (part ∷ parts) = chained (part_fault part) (map part_fault parts) (part_is_no_memory part) (parts_are_no_memory parts)

pub text_is_no_memory : (text : List ℕ) → read_fault text ≢ Some Memory
unfolding read_fault
text_is_no_memory text =
    chained _ _ (tested (not (starts_with nat_eq text (codes "/"))) NotAbsolute (λ e. cc))
    (chained _ _ (tested (nat_lt 4096 (length text)) TooLong (λ e. cc))
    (chained _ _ (tested (list_any (λ b. b == 0) text) NulByte (λ e. cc))
    (chained _ _ (tested (not (is_utf8 text)) NotUtf8 (λ e. cc))
    (chained _ _ (chained _ _ (parts_are_no_memory (parts_in text)) (chained _ _ (tested (nat_lt 64 (length (parts_in text))) TooDeep (λ e. cc)) ended)) ended))))

-- Where memory was wanting, nothing is wrong.
pub no_fault : (fault : Option PathFault) (result : Result (List (List ℕ)) PathFault) → fault ≢ Some Memory → result ≡ Err Memory
    → MatchOption fault (IsOkUnless result Memory) (λ fault. result ≡ Err fault) → None ≡ fault
no_fault None result other is told = refl
no_fault (Some fault) result other is told = absurd (other (cc (is, told)))
