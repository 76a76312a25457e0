-- The message of a heartbeat: what is taken of its fields, and what that means.
use Rattle.std.specs.Prelude.{◌≡◌, ℕ, ◌^◌, List, [], ◌∷◌, Option, None, Bool, nat_lt, ◌==◌, ◌&&◌, if◌then◌else◌}
use Rattle.std.specs.Str.{is_utf8}
use Rattle.std.specs.List.{list_all}
use Rattle.std.specs.Option.{option_or}
use Rattle.std.specs.Result.{result_err}
use Rattle.proto_wire.specs.declared.fault.WireFault.{WireFault}
use Rattle.proto_wire.specs.Field.{FieldText}
use Rattle.proto_wire.specs.Taken.{last_number, last_text, messages_at}
use Rattle.topology.specs.declared.node.Node.{Node}
use Rattle.master.specs.declared.heartbeat_message.VolumesSeen.{VolumesSeen}
use Rattle.master.specs.VolumeText.{volume_at, is_good_text}

-- The first fault of these texts of volumes.
abbrev pub first_fault : List (List ℕ) → Option WireFault
first_fault [] = None
first_fault (text ∷ texts) = option_or (result_err (volume_at text)) (first_fault texts)

-- What is seen of these texts of volumes.
abbrev pub seen_in : List (List ℕ) → VolumesSeen
seen_in texts = record { fault = first_fault texts; are_good = list_all is_good_text texts }

-- The same with one text more.
abbrev pub seen_with : List ℕ → VolumesSeen → VolumesSeen
seen_with text seen = record { fault = option_or seen.fault (result_err (volume_at text)); are_good = seen.are_good && is_good_text text }

-- Its fields, the last value of each, and what is seen of its volumes.
pub record HeartbeatText : Type 0 where
  pub id : List ℕ
  pub public : List ℕ
  pub data_center : List ℕ
  pub rack : List ℕ
  pub room : ℕ
  pub greatest : ℕ
  pub seen : VolumesSeen

-- What these fields give as a heartbeat.
abbrev pub heartbeat_in : List FieldText → HeartbeatText
heartbeat_in fields = record {
  id = last_text 1 fields;
  public = last_text 2 fields;
  data_center = last_text 3 fields;
  rack = last_text 4 fields;
  room = last_number 5 fields;
  greatest = last_number 6 fields;
  seen = seen_in (messages_at 7 fields);
}

-- A heartbeat with one number more.
abbrev pub heartbeat_with_number : ℕ → ℕ → HeartbeatText → HeartbeatText
heartbeat_with_number number value b = record b {
  room = if number == 5 then value else b.room;
  greatest = if number == 6 then value else b.greatest;
}

-- A heartbeat with one text more.
abbrev pub heartbeat_with_text : ℕ → List ℕ → HeartbeatText → HeartbeatText
heartbeat_with_text number text b = record b {
  id = if number == 1 then text else b.id;
  public = if number == 2 then text else b.public;
  data_center = if number == 3 then text else b.data_center;
  rack = if number == 4 then text else b.rack;
  seen = if number == 7 then seen_with text b.seen else b.seen;
}

-- The texts are UTF-8, and all numbers are good.
abbrev pub are_good : HeartbeatText → Bool
are_good b = is_utf8 b.id && is_utf8 b.public && is_utf8 b.data_center && is_utf8 b.rack && nat_lt b.room (2 ^ 32) && b.seen.are_good

-- A node is that of a heartbeat's fields.
pub record IsNodeOf (b : HeartbeatText) (node : Node) : Type 0 where
  pub id : node.id ≡ b.id
  pub public : node.public ≡ b.public
  pub data_center : node.data_center ≡ b.data_center
  pub rack : node.rack ≡ b.rack
  pub room : node.room ≡ b.room
