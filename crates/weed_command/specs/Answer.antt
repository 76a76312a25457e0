-- The text of an answer, by RFC 9112: a status line and header lines, each ended by CR LF, an empty line, and
-- the body, which is JSON here (RFC 8259).
use Rattle.std.specs.Prelude.{ℕ, Bool, false, List, [], ◌∷◌, ◌++◌, length, codes, decimal, if◌then◌else◌}
use Rattle.std.specs.List.{flat_map}
use Rattle.serde_json.specs.Data.{string, object, member, no_members}
use Rattle.serde_json.specs.Written.{compact_text}
use Rattle.weed_command.specs.declared.answer.Status.{Status}
use Rattle.weed_command.specs.declared.answer.Status.TheVariants.{Created, BadRequest, Conflict, InternalServerError, NotImplemented, ServiceUnavailable}

-- The number of a status.
abbrev pub code_of : Status → ℕ
code_of Created = 201
code_of BadRequest = 400
code_of Conflict = 409
code_of InternalServerError = 500
code_of NotImplemented = 501
code_of ServiceUnavailable = 503

-- Its reason phrase, as RFC 9110, section 15, has it.
abbrev pub reason_of : Status → List ℕ
reason_of Created = codes "Created"
reason_of BadRequest = codes "Bad Request"
reason_of Conflict = codes "Conflict"
reason_of InternalServerError = codes "Internal Server Error"
reason_of NotImplemented = codes "Not Implemented"
reason_of ServiceUnavailable = codes "Service Unavailable"

-- A line with its end.
abbrev pub ended : List ℕ → List ℕ
ended line = line ++ codes "\r\n"

-- The line that says that the connection closes, where it does.
abbrev pub closing_lines : Bool → List (List ℕ)
closing_lines close = if close then codes "Connection: close" ∷ [] else []

-- The lines of the head of an answer with so many bytes of JSON, which closes the connection or keeps it open.
abbrev pub head_lines : Status → ℕ → Bool → List (List ℕ)
head_lines status count close =
    (codes "HTTP/1.1 " ++ (decimal (code_of status) ++ (codes " " ++ reason_of status)))
    ∷ codes "Content-Type: application/json"
    ∷ (codes "Content-Length: " ++ decimal count)
    ∷ closing_lines close

-- An answer with that JSON.
abbrev pub answer_text : Status → List ℕ → Bool → List ℕ
answer_text status json close = flat_map ended (head_lines status (length json) close) ++ (codes "\r\n" ++ json)

-- The JSON of an object with one member, a string.
abbrev pub object_text : List ℕ → List ℕ → List ℕ
object_text name value = compact_text (object (member name (string value) no_members))

-- The answer to a directory of that name that was made.
abbrev pub created_text : List ℕ → List ℕ
created_text name = answer_text Created (object_text (codes "name") name) false

-- A refusal, with its own text.
abbrev pub refused_text : Status → List ℕ → Bool → List ℕ
refused_text status text close = answer_text status (object_text (codes "error") text) close
