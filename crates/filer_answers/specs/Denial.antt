-- The answers to requests that aren't served, but for the refusals of their commands.
use Rattle.std.specs.Prelude.{ℕ, Bool, true, false, ◌||◌, List, [], ◌∷◌, ◌++◌, Option, None, Some, codes, decimal}
use Rattle.weed_base.specs.PathFaults.{path_fault_name}
use Rattle.file_id.specs.declared.fid.Fid.{Fid}
use Rattle.file_id.specs.FileId.{text_of}
use Rattle.http_wire.specs.declared.answer.Answer.{Answer}
use Rattle.filer_answers.specs.Lines.{Line, range_line}
use Rattle.filer_answers.specs.Json.{text_answer, error_text}
use Rattle.filer_answers.specs.declared.manner.Manner.{Manner}
use Rattle.filer_answers.specs.declared.denial.Denial.{Denial}
use Rattle.filer_answers.specs.declared.denial.Denial.TheVariants.{Bad, HeadTooLong, BadMethod, BadCoding, Encoded, Path, BadQuery, NoLength, TooLong, BadForm, Cut, BadChunk, BadMime, BadRange, CompressedChunk, CipheredChunk, Manifest, BlobFault, NotHeld, ShortNeedle, DiskFault, KeeperFault, Damaged, Broken, Memory, NoSeat}

-- The status of a denial.
abbrev pub denial_status : Denial → ℕ
denial_status Bad = 400
denial_status HeadTooLong = 414
denial_status BadMethod = 501
denial_status BadCoding = 501
denial_status Encoded = 415
denial_status (Path fault) = 400
denial_status BadQuery = 400
denial_status NoLength = 411
denial_status TooLong = 413
denial_status BadForm = 400
denial_status Cut = 400
denial_status BadChunk = 400
denial_status BadMime = 400
denial_status (BadRange length) = 416
denial_status (CompressedChunk fid) = 415
denial_status (CipheredChunk fid) = 415
denial_status (Manifest fid) = 415
denial_status BlobFault = 502
denial_status (NotHeld fid) = 502
denial_status (ShortNeedle fid) = 502
denial_status DiskFault = 500
denial_status KeeperFault = 500
denial_status Damaged = 500
denial_status Broken = 500
denial_status Memory = 503
denial_status NoSeat = 503

-- Its name.
abbrev pub denial_name : Denial → List ℕ
denial_name Bad = codes "Bad"
denial_name HeadTooLong = codes "HeadTooLong"
denial_name BadMethod = codes "BadMethod"
denial_name BadCoding = codes "BadCoding"
denial_name Encoded = codes "Encoded"
denial_name (Path fault) = path_fault_name fault
denial_name BadQuery = codes "BadQuery"
denial_name NoLength = codes "NoLength"
denial_name TooLong = codes "TooLong"
denial_name BadForm = codes "BadForm"
denial_name Cut = codes "Cut"
denial_name BadChunk = codes "BadChunk"
denial_name BadMime = codes "BadMime"
denial_name (BadRange length) = codes "BadRange"
denial_name (CompressedChunk fid) = codes "CompressedChunk"
denial_name (CipheredChunk fid) = codes "CipheredChunk"
denial_name (Manifest fid) = codes "Manifest"
denial_name BlobFault = codes "BlobFault"
denial_name (NotHeld fid) = codes "NotHeld"
denial_name (ShortNeedle fid) = codes "ShortNeedle"
denial_name DiskFault = codes "DiskFault"
denial_name KeeperFault = codes "KeeperFault"
denial_name Damaged = codes "Damaged"
denial_name Broken = codes "Broken"
denial_name Memory = codes "Memory"
denial_name NoSeat = codes "NoSeat"

-- The file id that it names, where it names one.
abbrev pub denial_fid : Denial → Option Fid
denial_fid (CompressedChunk fid) = Some fid
denial_fid (CipheredChunk fid) = Some fid
denial_fid (Manifest fid) = Some fid
denial_fid (NotHeld fid) = Some fid
denial_fid (ShortNeedle fid) = Some fid
denial_fid denial = None

-- A name, and a file id behind a blank where there is one.
abbrev pub with_fid : List ℕ → Option Fid → List ℕ
with_fid name None = name
with_fid name (Some fid) = name ++ (codes " " ++ text_of fid)

-- Its text: its name, with the file id that it names.
abbrev pub denial_text : Denial → List ℕ
denial_text denial = with_fid (denial_name denial) (denial_fid denial)

-- The header line that it adds: of a range that is missed, the length of the file.
abbrev pub denial_lines : Denial → List Line
denial_lines (BadRange length) = range_line (codes "bytes */" ++ decimal length) ∷ []
denial_lines denial = []

-- It closes the connection, however the answer is given.
abbrev pub closes_ever : Denial → Bool
closes_ever DiskFault = true
closes_ever KeeperFault = true
closes_ever Damaged = true
closes_ever Broken = true
closes_ever NoSeat = true
closes_ever denial = false

-- A request that isn't served: the status and the text of the denial.
abbrev pub denied_answer : Denial → Manner → Answer
denied_answer denial manner =
    text_answer (denial_status denial) (denial_lines denial) (error_text (denial_text denial))
    (record { close = manner.close || closes_ever denial; bare = manner.bare })
