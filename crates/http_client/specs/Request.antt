-- The text of a request, by RFC 9112: a request line and header lines, each ended by CR LF, an empty line, and the
-- body.
use Rattle.std.specs.Prelude.{ℕ, ◌≤◌, Bool, true, false, List, [], ◌++◌, length, codes, decimal, if◌then◌else◌}
use Rattle.http_head.specs.declared.head.Method.{Method}
use Rattle.http_head.specs.declared.head.Method.TheVariants.{Get, Head, Put, Post, Delete}

-- Printable ASCII, and no blank.
abbrev pub IsVisible : ℕ → Type 0
IsVisible byte = (33 ≤ byte) × (byte ≤ 126)

-- The name of a method.
abbrev pub method_name : Method → List ℕ
method_name Get = codes "GET"
method_name Head = codes "HEAD"
method_name Put = codes "PUT"
method_name Post = codes "POST"
method_name Delete = codes "DELETE"

-- A request of the method states the length of its body. The others have no body.
abbrev pub states_length : Method → Bool
states_length Get = false
states_length Head = false
states_length Put = true
states_length Post = true
states_length Delete = false

-- The request line.
abbrev pub request_line : Method → List ℕ → List ℕ
request_line method target = method_name method ++ (codes " " ++ (target ++ codes " HTTP/1.1\r\n"))

-- The line that names the host.
abbrev pub host_line : List ℕ → List ℕ
host_line host = codes "Host: " ++ (host ++ codes "\r\n")

-- The line that states the length of the body, where the method has one.
abbrev pub length_line : Method → ℕ → List ℕ
length_line method count = if states_length method then codes "Content-Length: " ++ (decimal count ++ codes "\r\n") else []

-- All up to the body of so many bytes.
abbrev pub request_head : Method → List ℕ → List ℕ → ℕ → List ℕ
request_head method target host count =
    (request_line method target ++ host_line host) ++ (length_line method count ++ codes "Connection: close\r\n\r\n")

-- All of a request.
abbrev pub request_text : Method → List ℕ → List ℕ → List ℕ → List ℕ
request_text method target host body = request_head method target host (length body) ++ body
