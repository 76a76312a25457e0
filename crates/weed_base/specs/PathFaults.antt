-- Why a text is no path. Of several faults the first in the order of these lists is told.
use Rattle.std.specs.Prelude.{ℕ, ◌==◌, ◌||◌, nat_lt, nat_eq, not, Bool, true, false, List, [], ◌∷◌, ◌++◌, length, map, Option, Some, None, codes, bytes_eq}
use Rattle.std.specs.List.{list_any, starts_with}
use Rattle.std.specs.Str.{is_utf8}
use Rattle.weed_base.specs.Path.{spelled, parts_in}
use Rattle.weed_base.specs.declared.path_fault.PathFault.{PathFault}
use Rattle.weed_base.specs.declared.path_fault.PathFault.TheVariants.{NotAbsolute, TooLong, NulByte, NotUtf8, EmptyPart, DotPart, PartTooLong, TooDeep, SlashInName, Memory}

-- A fault exactly where a test holds
abbrev pub fault_if : Bool → PathFault → Option PathFault
fault_if true fault = Some fault
fault_if false fault = None

-- The first fault of a list
abbrev pub first_fault : List (Option PathFault) → Option PathFault
first_fault [] = None
first_fault (None ∷ more) = first_fault more
first_fault (Some fault ∷ more) = Some fault

-- Of one part
abbrev pub part_fault : List ℕ → Option PathFault
part_fault part = first_fault
    (fault_if (length part == 0) EmptyPart
    ∷ fault_if (bytes_eq part (codes ".") || bytes_eq part (codes "..")) DotPart
    ∷ fault_if (nat_lt 255 (length part)) PartTooLong
    ∷ [])

-- Of parts. The first bad part from the left comes before their number.
abbrev pub parts_fault : List (List ℕ) → Option PathFault
parts_fault parts = first_fault
    (first_fault (map part_fault parts)
    ∷ fault_if (nat_lt 64 (length parts)) TooDeep
    ∷ [])

-- Of a text that is cut into these parts
abbrev pub text_fault : List ℕ → List (List ℕ) → Option PathFault
text_fault text parts = first_fault
    (fault_if (not (starts_with nat_eq text (codes "/"))) NotAbsolute
    ∷ fault_if (nat_lt 4096 (length text)) TooLong
    ∷ fault_if (list_any (λ b. b == 0) text) NulByte
    ∷ fault_if (not (is_utf8 text)) NotUtf8
    ∷ parts_fault parts
    ∷ [])

-- Of a text that is read
unfoldable pub read_fault : List ℕ → Option PathFault
read_fault text = text_fault text (parts_in text)

-- Of a path with one part more
unfoldable pub join_fault : List (List ℕ) → List ℕ → Option PathFault
join_fault parts name =
    let joined = parts ++ name ∷ [] in
    first_fault
    (fault_if (list_any (λ b. b == 47) name) SlashInName
    ∷ text_fault (spelled joined) joined
    ∷ [])

-- Of a name in the directory of a text
abbrev pub read_in_fault : List ℕ → List ℕ → Option PathFault
read_in_fault directory name = first_fault (read_fault directory ∷ join_fault (parts_in directory) name ∷ [])

-- A fault as it stands in answers
abbrev pub path_fault_name : PathFault → List ℕ
path_fault_name NotAbsolute = codes "NotAbsolute"
path_fault_name TooLong = codes "TooLong"
path_fault_name NulByte = codes "NulByte"
path_fault_name NotUtf8 = codes "NotUtf8"
path_fault_name EmptyPart = codes "EmptyPart"
path_fault_name DotPart = codes "DotPart"
path_fault_name PartTooLong = codes "PartTooLong"
path_fault_name TooDeep = codes "TooDeep"
path_fault_name SlashInName = codes "SlashInName"
path_fault_name Memory = codes "Memory"
