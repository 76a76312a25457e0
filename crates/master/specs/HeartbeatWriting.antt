-- How a heartbeat is written: the fields in the order of their numbers, each volume also where its text is empty.
use Rattle.std.specs.Prelude.{ℕ, List, ◌++◌, Bool, true, false, flat_map}
use Rattle.proto_wire.specs.Text.{varint_field, bytes_field, message_field}
use Rattle.needle.specs.SuperBlock.{placement_byte}
use Rattle.topology.specs.declared.report.VolumeReport.{VolumeReport}
use Rattle.master.specs.declared.heartbeat.Heartbeat.{Heartbeat}
use Rattle.master.specs.VolumeText.{ttl_number}

-- A truth value.
abbrev pub bit : Bool → ℕ
bit true = 1
bit false = 0

-- VolumeInformationMessage.
abbrev pub volume_text : VolumeReport → List ℕ
volume_text report =
    varint_field 1 report.volume ++ varint_field 2 report.size ++ varint_field 3 (placement_byte report.placement) ++ varint_field 4 (bit report.read_only)
    ++ varint_field 5 (ttl_number report.ttl)

-- Each volume.
abbrev pub volumes_text : List VolumeReport → List ℕ
volumes_text reports = flat_map (λ report. message_field 7 (volume_text report)) reports

-- All but the volumes.
abbrev pub node_text : Heartbeat → List ℕ
node_text beat =
    bytes_field 1 beat.node.id ++ bytes_field 2 beat.node.public ++ bytes_field 3 beat.node.data_center ++ bytes_field 4 beat.node.rack
    ++ varint_field 5 beat.node.room ++ varint_field 6 beat.greatest

-- Heartbeat.
abbrev pub heartbeat_text : Heartbeat → List ℕ
heartbeat_text beat = node_text beat ++ volumes_text beat.volumes
