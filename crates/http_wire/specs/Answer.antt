-- The text of an answer, by RFC 9112: a status line and header lines, each ended by CR LF, an empty line, and the
-- body.
use Rattle.std.specs.Prelude.{ℕ, Bool, ◌==◌, List, [], ◌++◌, Option, None, Some, unwrap_or, codes, decimal, if◌then◌else◌}
use Rattle.std.specs.List.{flat_map}
use Rattle.http_wire.specs.declared.answer.Answer.{Answer}

-- The reason phrase of each status that is sent, as RFC 9110, section 15, has it.
abbrev pub reason_of : ℕ → Option (List ℕ)
reason_of status =
    if status == 100 then Some (codes "Continue")
    else if status == 200 then Some (codes "OK")
    else if status == 201 then Some (codes "Created")
    else if status == 202 then Some (codes "Accepted")
    else if status == 204 then Some (codes "No Content")
    else if status == 206 then Some (codes "Partial Content")
    else if status == 400 then Some (codes "Bad Request")
    else if status == 404 then Some (codes "Not Found")
    else if status == 409 then Some (codes "Conflict")
    else if status == 410 then Some (codes "Gone")
    else if status == 411 then Some (codes "Length Required")
    else if status == 413 then Some (codes "Content Too Large")
    else if status == 414 then Some (codes "URI Too Long")
    else if status == 415 then Some (codes "Unsupported Media Type")
    else if status == 416 then Some (codes "Range Not Satisfiable")
    else if status == 500 then Some (codes "Internal Server Error")
    else if status == 501 then Some (codes "Not Implemented")
    else if status == 502 then Some (codes "Bad Gateway")
    else if status == 503 then Some (codes "Service Unavailable")
    else None

-- The status line.
abbrev pub status_line : ℕ → List ℕ
status_line status = codes "HTTP/1.1 " ++ (decimal status ++ (codes " " ++ (unwrap_or (reason_of status) [] ++ codes "\r\n")))

-- A header line of that name and value.
abbrev pub header_line : List ℕ × List ℕ → List ℕ
header_line header = header.0 ++ (codes ": " ++ (header.1 ++ codes "\r\n"))

-- The line that says that the connection closes, where it does.
abbrev pub closing_line : Bool → List ℕ
closing_line close = if close then codes "Connection: close\r\n" else []

-- The body that is written: none of a bare answer.
abbrev pub shown_body : Answer → List ℕ
shown_body answer = if answer.bare then [] else answer.body

-- All of an answer.
abbrev pub answer_text : Answer → List ℕ
answer_text answer =
    status_line answer.status ++ (flat_map header_line answer.headers
    ++ (closing_line answer.close ++ (codes "\r\n" ++ shown_body answer)))
