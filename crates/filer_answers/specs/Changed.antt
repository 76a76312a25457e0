-- The answers to the requests that change names, row by row.
use Rattle.std.specs.Prelude.{ℕ, List, [], ◌++◌, codes, false}
use Rattle.weed_base.specs.Path.{text_of}
use Rattle.name_core.specs.declared.command.Refusal.{Refusal}
use Rattle.name_core.specs.declared.command.Refusal.TheVariants.{IsFile, NotFound}
use Rattle.name_core.specs.Faults.{refusal_name}
use Rattle.name_core.specs.RecordText.{name_of}
use Rattle.http_wire.specs.declared.answer.Answer.{Answer}
use Rattle.serde_json.specs.Data.{string, number, unsigned, member, no_members}
use Rattle.filer_answers.specs.Json.{text_answer, object_text, error_text}
use Rattle.filer_answers.specs.declared.manner.Manner.{Manner}

-- An answer that is a head of no header line.
abbrev pub plain_answer : ℕ → Manner → Answer
plain_answer status manner = record { status = status; headers = []; body = []; close = manner.close; bare = manner.bare }

-- Before a body that was asked leave for: 100.
abbrev pub continue_answer : Answer
continue_answer = plain_answer 100 (record { close = false; bare = false })

-- MakeDir: 201 with the last part of the path, empty for the root.
abbrev pub made_answer : List (List ℕ) → Manner → Answer
made_answer path manner = text_answer 201 [] (object_text (member (codes "name") (string (name_of path)) no_members)) manner

-- Write: 201 with the last part of the path, and the length of the body.
abbrev pub written_answer : List (List ℕ) → ℕ → Manner → Answer
written_answer path size manner =
    text_answer 201 [] (object_text (member (codes "name") (string (name_of path)) (member (codes "size") (number (unsigned size)) no_members))) manner

-- Move: 204.
abbrev pub moved_answer : Manner → Answer
moved_answer manner = plain_answer 204 manner

-- Remove: 204.
abbrev pub removed_answer : Manner → Answer
removed_answer manner = plain_answer 204 manner

-- The status of a refusal of a command.
abbrev pub refusal_status : Refusal → ℕ
refusal_status NotFound = 404
refusal_status refusal = 409

-- Its text: its name, with the path where it names one.
abbrev pub refusal_text : Refusal → List ℕ
refusal_text (IsFile path) = codes "IsFile " ++ text_of path
refusal_text refusal = refusal_name refusal

-- A command that is refused: 404 where nothing stands there, and else 409.
abbrev pub refused_answer : Refusal → Manner → Answer
refused_answer refusal manner = text_answer (refusal_status refusal) [] (error_text (refusal_text refusal)) manner
