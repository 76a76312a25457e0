-- Answers whose body is JSON (RFC 8259).
use Rattle.std.specs.Prelude.{ℕ, List, [], ◌∷◌, ◌++◌, length, codes}
use Rattle.http_wire.specs.declared.answer.Answer.{Answer}
use Rattle.serde_json.specs.Data.{Data, Members, string, object, member, no_members}
use Rattle.serde_json.specs.Written.{compact_text}
use Rattle.filer_answers.specs.Lines.{Line, type_line, length_line}
use Rattle.filer_answers.specs.declared.manner.Manner.{Manner}

-- An answer with that text of JSON, and with further header lines between its type and its length.
abbrev pub text_answer : ℕ → List Line → List ℕ → Manner → Answer
text_answer status further text manner = record {
  status = status;
  headers = type_line (codes "application/json") ∷ (further ++ length_line (length text) ∷ []);
  body = text;
  close = manner.close;
  bare = manner.bare;
}

-- The text of an object with these members.
abbrev pub object_text : Members → List ℕ
object_text members = compact_text (object members)

-- The JSON of a refusal, or of a fault, of that name.
abbrev pub error_text : List ℕ → List ℕ
error_text text = object_text (member (codes "error") (string text) no_members)
