-- The checks of a head, in their order: its content's coding, its path, its query, its length.
use Rattle.std.specs.Prelude.{nat_lt, Bool, ◌&&◌, true, false, Option, None, Some, Result, Ok, Err, if◌then◌else◌}
use Rattle.weed_base.specs.PathFaults.{read_fault}
use Rattle.weed_base.specs.declared.path_fault.PathFault.{PathFault}
use Rattle.http_head.specs.declared.head.Head.{Head}
use Rattle.http_head.specs.declared.body.BodyKind.{BodyKind}
use Rattle.http_head.specs.declared.body.BodyKind.TheVariants.{Missing, Length, Chunked}
use Rattle.filer_requests.specs.Place.{place_text}
use Rattle.filer_requests.specs.Row.{row_of}
use Rattle.filer_requests.specs.declared.row.Row.{Row}
use Rattle.filer_requests.specs.declared.row.Row.TheVariants.{Directory, Write, Move, Remove, Look, Subscribe}
use Rattle.filer_requests.specs.declared.fault.WishFault.{WishFault}
use Rattle.filer_requests.specs.declared.fault.WishFault.TheVariants.{Encoded, BadPath, BadQuery, NoLength, TooLong}

-- No body.
abbrev pub is_missing : BodyKind → Bool
is_missing Missing = true
is_missing (Length count) = false
is_missing Chunked = false

-- A write without a body.
abbrev pub lacks_length : Row → BodyKind → Bool
lacks_length Directory body = false
lacks_length (Write at) body = is_missing body
lacks_length Move body = false
lacks_length (Remove recursive) body = false
lacks_length (Look limit) body = false
lacks_length (Subscribe since tail) body = false

-- A stated length over the limit.
abbrev pub is_too_long : BodyKind → Bool
is_too_long Missing = false
is_too_long (Length count) = nat_lt 67108864 count
is_too_long Chunked = false

abbrev pub checked_row : Option Row → BodyKind → Result Row WishFault
checked_row None body = Err BadQuery
checked_row (Some row) body = if lacks_length row body then Err NoLength else if is_too_long body then Err TooLong else Ok row

abbrev pub checked_path : Option PathFault → Head → Result Row WishFault
checked_path (Some fault) head = Err (BadPath fault)
checked_path None head = checked_row (row_of head) head.body

-- The row of a head, or the first check that it fails.
abbrev pub checked : Head → Result Row WishFault
checked head = if head.encoded then Err Encoded else checked_path (read_fault (place_text head.path)) head

-- A body follows that has bytes, or may have some.
abbrev pub follows : BodyKind → Bool
follows Missing = false
follows (Length count) = nat_lt 0 count
follows Chunked = true

-- An answer 100 comes before the body: one is awaited, and a body follows.
abbrev pub awaits_continue : Head → Bool
awaits_continue head = head.expect && follows head.body
