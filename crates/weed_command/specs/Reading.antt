-- How the text of a request is read, step by step.
use Rattle.std.specs.Prelude.{ℕ, ◌-◌, Bool, false, List, length, take, drop, bytes_eq, nat_le, ◌&&◌, ◌||◌, Option, None, Some, option_and_then, if◌then◌else◌, codes}
use Rattle.std.specs.Option.{option_map_or}
use Rattle.std.specs.List.{prefix_len}
use Rattle.weed_command.specs.Request.{is_target_byte, is_framed, is_host}

-- The text behind the prefix.
abbrev pub behind : List ℕ → List ℕ → Option (List ℕ)
behind prefix text = if bytes_eq (take (length prefix) text) prefix then Some (drop (length prefix) text) else None

-- The text ahead of the suffix.
abbrev pub ahead : List ℕ → List ℕ → Option (List ℕ)
ahead suffix text =
    let n = length text - length suffix in
    if bytes_eq (drop n text) suffix then Some (take n text) else None

-- What the line names as the host, where it stands alone ahead of the empty line.
abbrev pub host_of : List ℕ → Option (List ℕ)
host_of text = option_and_then (ahead (codes "\r\n\r\n")) (behind (codes "Host: ") text)

-- The lines behind the first: the empty one, with or without one that names the host.
abbrev pub is_head_end : List ℕ → Bool
is_head_end text =
    bytes_eq text (codes "\r\n")
    || option_map_or is_host (host_of text) false

-- The target at the front of what stands behind the method.
abbrev pub target_at : List ℕ → Option (List ℕ)
target_at text =
    let n = prefix_len is_target_byte text in
    option_and_then
    (λ lines. if is_framed (take n text) && is_head_end lines then Some (take n text) else None)
    (behind (codes " HTTP/1.1\r\n") (drop n text))

-- The target of a whole request.
abbrev pub target_of : List ℕ → Option (List ℕ)
target_of text = if nat_le (length text) 16384 then option_and_then target_at (behind (codes "POST ") text) else None
