-- How a refusal of a head stands in its answer.
use Rattle.std.specs.Prelude.{ℕ, List, codes}
use Rattle.weed_base.specs.PathFaults.{path_fault_name}
use Rattle.filer_requests.specs.declared.fault.WishFault.{WishFault}
use Rattle.filer_requests.specs.declared.fault.WishFault.TheVariants.{Encoded, BadPath, BadQuery, NoLength, TooLong, BadForm, Memory}

-- Its name.
abbrev pub fault_name : WishFault → List ℕ
fault_name Encoded = codes "Encoded"
fault_name (BadPath fault) = path_fault_name fault
fault_name BadQuery = codes "BadQuery"
fault_name NoLength = codes "NoLength"
fault_name TooLong = codes "TooLong"
fault_name BadForm = codes "BadForm"
fault_name Memory = codes "Memory"

-- Its status.
abbrev pub status_of : WishFault → ℕ
status_of Encoded = 415
status_of (BadPath fault) = 400
status_of BadQuery = 400
status_of NoLength = 411
status_of TooLong = 413
status_of BadForm = 400
status_of Memory = 503
