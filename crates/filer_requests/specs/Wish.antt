-- What a head asks of a filer.
use Rattle.std.specs.Prelude.{◌≡◌, ℕ, nat_le, Bool, false, ◌==◌, ◌⊎◌, List, [], length, Option, None, Some, unwrap_or, Result, Ok, Err, codes, if◌then◌else◌}
use Rattle.weed_base.specs.Path.{parts_in}
use Rattle.http_head.specs.declared.head.Head.{Head}
use Rattle.http_head.specs.declared.head.Method.{Method}
use Rattle.http_head.specs.declared.head.Method.TheVariants.{Get, Head as HeadMethod, Put, Post, Delete}
use Rattle.http_head.specs.declared.body.BodyKind.{BodyKind}
use Rattle.http_head.specs.declared.body.BodyKind.TheVariants.{Missing, Length, Chunked}
use Rattle.filer_requests.specs.Place.{ends_in_slash, place_text}
use Rattle.filer_requests.specs.Query.{value_of}
use Rattle.filer_requests.specs.Form.{is_form, boundary_of}
use Rattle.filer_requests.specs.Check.{checked}
use Rattle.filer_requests.specs.declared.row.Row.{Row}
use Rattle.filer_requests.specs.declared.row.Row.TheVariants as row
use Rattle.filer_requests.specs.declared.fault.WishFault.{WishFault}
use Rattle.filer_requests.specs.declared.fault.WishFault.TheVariants.{BadForm, Memory}
use Rattle.filer_requests.specs.declared.wish.Wish.{Wish}
use Rattle.filer_requests.specs.declared.wish.Wish.TheVariants.{MakeDir, Chunks, Upload, Write, WriteForm, Move, Remove, Look, Subscribe}

-- A media type has at most 255 bytes.
abbrev pub fits_mime : List ℕ → Bool
fits_mime mime = nat_le (length mime) 255

-- A form that is posted.
abbrev pub is_posted_form : Method → List ℕ → Bool
is_posted_form Post mime = is_form mime
is_posted_form Put mime = false
is_posted_form Get mime = false
is_posted_form HeadMethod mime = false
is_posted_form Delete mime = false

-- The boundary of a form that is posted.
abbrev pub form_boundary : Head → Option (List ℕ)
form_boundary head = if is_posted_form head.method head.content_type then boundary_of head.content_type else None

-- A body at a directory must be a form.
abbrev pub uploaded : Option (List ℕ) → List (List ℕ) → Result Wish WishFault
uploaded (Some boundary) dir = Ok (Upload dir boundary)
uploaded None dir = Err BadForm

-- At a directory: without a body, or with an empty one, it is made. Whether chunks are empty their data says.
abbrev pub at_directory : BodyKind → Head → List (List ℕ) → Result Wish WishFault
at_directory Missing head path = Ok (MakeDir path)
at_directory (Length count) head path = if count == 0 then Ok (MakeDir path) else uploaded (form_boundary head) path
at_directory Chunked head path = Ok (Chunks path (form_boundary head))

-- A form's data at another path. It needs a boundary.
abbrev pub form_written : Option (List ℕ) → Option ℕ → List (List ℕ) → Result Wish WishFault
form_written (Some boundary) at path = Ok (WriteForm path at boundary)
form_written None at path = Err BadForm

-- At another path: a form's data, or the body as it is.
abbrev pub written : Option ℕ → Head → List (List ℕ) → Result Wish WishFault
written at head path =
    if is_posted_form head.method head.content_type
    then form_written (boundary_of head.content_type) at path
    else Ok (Write path at head.content_type)

-- The path that a move is from.
abbrev pub moved_from : Head → List ℕ
moved_from head = unwrap_or (value_of (codes "mv.from") head.query) []

-- Each row at a path.
abbrev pub wish_at : Row → Head → List (List ℕ) → Result Wish WishFault
wish_at row.Directory head path = at_directory head.body head path
wish_at (row.Write at) head path = written at head path
wish_at row.Move head path = Ok (Move (parts_in (moved_from head)) path)
wish_at (row.Remove recursive) head path = Ok (Remove path recursive)
wish_at (row.Look limit) head path = Ok (Look path (ends_in_slash head.path) head.range (value_of (codes "lastFileName") head.query) limit)
wish_at (row.Subscribe since tail) head path = Ok (Subscribe since tail)

abbrev pub wish_behind : Result Row WishFault → Head → Result Wish WishFault
wish_behind (Ok found) head = wish_at found head (parts_in (place_text head.path))
wish_behind (Err fault) head = Err fault

-- What a head asks for, or its refusal.
abbrev pub wish_of : Head → Result Wish WishFault
wish_of head = wish_behind (checked head) head

-- The answer is that one. Memory may be wanting where it is no refusal.
abbrev pub Gives : Result Wish WishFault → Result Wish WishFault → Type 0
Gives (Ok wish) result = (result ≡ Ok wish) ⊎ (result ≡ Err Memory)
Gives (Err fault) result = result ≡ Err fault
