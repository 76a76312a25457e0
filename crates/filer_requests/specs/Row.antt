-- The kinds of requests, in rows. Each row reads the values of its query; None stands for a value of another form
-- or range.
use Rattle.std.specs.Prelude.{ℕ, Bool, List, Option, None, Some, is_none, codes, bytes_eq, if◌then◌else◌}
use Rattle.weed_base.specs.PathFaults.{read_fault}
use Rattle.http_head.specs.declared.head.Head.{Head}
use Rattle.http_head.specs.declared.head.Method.{Method}
use Rattle.http_head.specs.declared.head.Method.TheVariants.{Get, Head as HeadMethod, Put, Post, Delete}
use Rattle.filer_requests.specs.Place.{ends_in_slash, place_text}
use Rattle.filer_requests.specs.Query.{value_of, truth_of, limit_of, place_of, moment_of}
use Rattle.filer_requests.specs.declared.row.Row.{Row}
use Rattle.filer_requests.specs.declared.row.Row.TheVariants.{Directory, Write, Move, Remove, Look, Subscribe}

-- The path is the root.
abbrev pub is_root : List ℕ → Bool
is_root path = bytes_eq (place_text path) (codes "/")

-- `offset=<n>`: a write from a place on. Without it the whole file is written.
abbrev pub write_at : Option ℕ → Option Row
write_at (Some place) = Some (Write (Some place))
write_at None = None

abbrev pub write_row : Option (List ℕ) → Option Row
write_row (Some offset) = write_at (place_of offset)
write_row None = Some (Write None)

-- `mv.from=<path>`: a move comes before the other rows.
abbrev pub put_from : Option (List ℕ) → List ℕ → List (List ℕ × List ℕ) → Option Row
put_from (Some from) path query = if is_none (read_fault from) then Some Move else None
put_from None path query = if ends_in_slash path then Some Directory else write_row (value_of (codes "offset") query)

abbrev pub put_row : List ℕ → List (List ℕ × List ℕ) → Option Row
put_row path query = put_from (value_of (codes "mv.from") query) path query

-- `limit=<n>`: a file or a directory.
abbrev pub look_at : Option ℕ → Option Row
look_at (Some limit) = Some (Look limit)
look_at None = None

abbrev pub look_row : List (List ℕ × List ℕ) → Option Row
look_row query = look_at (limit_of (value_of (codes "limit") query))

-- `meta.since=<time>` and `tail=<truth>`: a subscription, at the root.
abbrev pub subscribed : Option ℕ → Option Bool → Option Row
subscribed (Some since) (Some tail) = Some (Subscribe since tail)
subscribed (Some since) None = None
subscribed None tail = None

abbrev pub subscription_row : List ℕ → Option (List ℕ) → Option Row
subscription_row since tail = subscribed (moment_of since) (truth_of tail)

abbrev pub root_row : Option (List ℕ) → List (List ℕ × List ℕ) → Option Row
root_row (Some since) query = subscription_row since (value_of (codes "tail") query)
root_row None query = look_row query

abbrev pub get_row : List ℕ → List (List ℕ × List ℕ) → Option Row
get_row path query = if is_root path then root_row (value_of (codes "meta.since") query) query else look_row query

-- `recursive=<truth>`.
abbrev pub removed : Option Bool → Option Row
removed (Some recursive) = Some (Remove recursive)
removed None = None

abbrev pub removal_row : List (List ℕ × List ℕ) → Option Row
removal_row query = removed (truth_of (value_of (codes "recursive") query))

-- The rows of each method.
abbrev pub row_by : Method → List ℕ → List (List ℕ × List ℕ) → Option Row
row_by Put path query = put_row path query
row_by Post path query = put_row path query
row_by Get path query = get_row path query
row_by HeadMethod path query = look_row query
row_by Delete path query = removal_row query

abbrev pub row_of : Head → Option Row
row_of head = row_by head.method head.path head.query
