-- How a text is read as a heartbeat.
use Rattle.std.specs.Prelude.{◌≡◌, ℕ, List, Option, Some, None, Result, Ok, Err, true, false, if◌then◌else◌, MatchOption, filter}
use Rattle.std.specs.List.{AllZip}
use Rattle.std.specs.Option.{option_or}
use Rattle.proto_wire.specs.declared.fault.WireFault.{WireFault}
use Rattle.proto_wire.specs.declared.fault.WireFault.TheVariants.{BadVarint}
use Rattle.proto_wire.specs.Field.{FieldText, fields_of}
use Rattle.proto_wire.specs.Taken.{last_number, last_text, messages_at}
use Rattle.topology.specs.declared.report.VolumeReport.{VolumeReport}
use Rattle.master.specs.declared.heartbeat.Heartbeat.{Heartbeat}
use Rattle.master.specs.declared.heartbeat_fault.HeartbeatFault.{HeartbeatFault}
use Rattle.master.specs.declared.heartbeat_fault.HeartbeatFault.TheVariants.{Wire, Memory}
use Rattle.master.specs.VolumeText.{is_good_text, IsReport}
use Rattle.master.specs.HeartbeatText.{HeartbeatText, first_fault, heartbeat_in, are_good}

-- The first fault of a text: of its own fields, else of the volumes in it, in their order, and else of a value that is
-- not good.
abbrev pub fault_in : Result (List FieldText) WireFault → Option WireFault
fault_in (Err fault) = Some fault
fault_in (Ok fields) = option_or (first_fault (messages_at 7 fields)) (if are_good (heartbeat_in fields) then None else Some BadVarint)

abbrev pub text_fault : List ℕ → Option WireFault
text_fault text = fault_in (fields_of text)

-- A heartbeat is that of these fields.
pub record IsHeartbeat (fields : List FieldText) (beat : Heartbeat) : Type 0 where
  pub id : beat.node.id ≡ last_text 1 fields
  pub public : beat.node.public ≡ last_text 2 fields
  pub data_center : beat.node.data_center ≡ last_text 3 fields
  pub rack : beat.node.rack ≡ last_text 4 fields
  pub room : beat.node.room ≡ last_number 5 fields
  pub greatest : beat.greatest ≡ last_number 6 fields
  pub volumes : AllZip IsReport (messages_at 7 fields) beat.volumes

-- A text is read as the heartbeat of its fields, or refused with its first fault; memory may be wanting where it has
-- none.
abbrev pub ReadsHeartbeat : List ℕ → Result Heartbeat HeartbeatFault → Type 0
ReadsHeartbeat text (Ok beat) = (text_fault text ≡ None) × ((fields : List FieldText) × (fields_of text ≡ Ok fields) × IsHeartbeat fields beat)
ReadsHeartbeat text (Err (Wire fault)) = text_fault text ≡ Some fault
ReadsHeartbeat text (Err Memory) = text_fault text ≡ None

-- What is found in the text of a volume, or in no text.
abbrev pub FindsReport : Option (List ℕ) → Option VolumeReport → Type 0
FindsReport None found = found ≡ None
FindsReport (Some text) found = MatchOption found (is_good_text text ≡ false) (λ report. (is_good_text text ≡ true) × IsReport text report)

-- These are the reports of the good texts among these fields.
abbrev pub AreReports : List FieldText → List VolumeReport → Type 0
AreReports fields reports = AllZip IsReport (filter is_good_text (messages_at 7 fields)) reports

-- The fields of a text without a fault, or its first fault.
abbrev pub ReadsWhole : List ℕ → Result HeartbeatText WireFault → Type 0
ReadsWhole text (Ok b) = (text_fault text ≡ None) × ((fields : List FieldText) × (fields_of text ≡ Ok fields) × (b ≡ heartbeat_in fields))
ReadsWhole text (Err fault) = text_fault text ≡ Some fault
