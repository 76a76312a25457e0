-- Heartbeats whose values fit their types.
use Rattle.std.specs.Prelude.{◌^◌, ◌<◌, ◌≤◌}
use Rattle.std.specs.List.{AllByRecursion}
use Rattle.std.specs.Str.{IsUtf8}
use Rattle.topology.specs.declared.report.VolumeReport.{VolumeReport}
use Rattle.master.specs.declared.heartbeat.Heartbeat.{Heartbeat}
use Rattle.master.specs.VolumeText.{ttl_number}

-- The numbers of a report fit their types.
pub record FitsReport (report : VolumeReport) : Type 0 where
  pub volume : report.volume < 2 ^ 32
  pub size : report.size < 2 ^ 64
  pub ttl : ttl_number report.ttl ≤ 65535

-- The numbers of a heartbeat do, and its texts are UTF-8.
pub record FitsHeartbeat (beat : Heartbeat) : Type 0 where
  pub id : IsUtf8 beat.node.id
  pub public : IsUtf8 beat.node.public
  pub data_center : IsUtf8 beat.node.data_center
  pub rack : IsUtf8 beat.node.rack
  pub room : beat.node.room < 2 ^ 32
  pub greatest : beat.greatest < 2 ^ 64
  pub volumes : AllByRecursion FitsReport beat.volumes
