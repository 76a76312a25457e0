-- A request as it is taken so far: the making of a directory. Its form follows RFC 9112.
use Rattle.std.specs.Prelude.{◌≡◌, ℕ, ◌≤◌, Bool, List, [], ◌++◌, length, nat_eq, nat_le, ◌==◌, ◌&&◌, ◌||◌, not, Option, None, Some, IfSome, IsTrue, codes}
use Rattle.std.specs.List.{list_all, starts_with, ends_with}

-- `!` to `~`, but `%` and `?`.
abbrev pub is_target_byte : ℕ → Bool
is_target_byte b = nat_le 33 b && nat_le b 126 && not (b == 37) && not (b == 63)

-- `a` to `z`, `0` to `9`, `.`, `:` or `-`.
abbrev pub is_host_byte : ℕ → Bool
is_host_byte b = (nat_le 97 b && nat_le b 122) || (nat_le 48 b && nat_le b 58) || (b == 46) || (b == 45)

-- Begins and ends with a slash.
abbrev pub is_framed : List ℕ → Bool
is_framed target = starts_with nat_eq target (codes "/") && ends_with nat_eq target (codes "/")

-- A target: framed by slashes, and of its bytes alone.
abbrev pub is_target : List ℕ → Bool
is_target target = is_framed target && list_all is_target_byte target

-- 1 or more bytes of a host.
abbrev pub is_host : List ℕ → Bool
is_host host = nat_le 1 (length host) && list_all is_host_byte host

-- The line that names the host, where one is named.
abbrev pub host_line : Option (List ℕ) → List ℕ
host_line None = []
host_line (Some host) = codes "Host: " ++ (host ++ codes "\r\n")

-- A request for that target.
abbrev pub request_text : List ℕ → Option (List ℕ) → List ℕ
request_text target host = codes "POST " ++ (target ++ (codes " HTTP/1.1\r\n" ++ (host_line host ++ codes "\r\n")))

-- The text is a request for the target.
pub record IsRequest (text target : List ℕ) : Type 0 where
  pub target_form : IsTrue (is_target target)
  pub host : Option (List ℕ)
  pub host_form : IfSome host (λ name. IsTrue (is_host name))
  pub spelled : text ≡ request_text target host
  pub short : length text ≤ 16384

-- Some front of the bytes is a request.
abbrev pub BeginsWithRequest : List ℕ → Type 0
BeginsWithRequest bytes = (text : List ℕ) × (target : List ℕ) × (rest : List ℕ) × IsRequest text target × (bytes ≡ text ++ rest)
