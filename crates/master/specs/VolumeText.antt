-- The message of a volume: what is taken of its fields, and what that means.
use Rattle.std.specs.Prelude.{◌≡◌, ℕ, ◌+◌, ◌*◌, ◌/◌, ◌%◌, ◌^◌, List, Result, Ok, Bool, false, not, nat_lt, nat_le, ◌==◌, ◌&&◌, if◌then◌else◌, slice_index}
use Rattle.std.specs.Option.{option_map_or}
use Rattle.std.specs.Result.{result_ok}
use Rattle.proto_wire.specs.declared.fault.WireFault.{WireFault}
use Rattle.proto_wire.specs.Field.{◌>>=◌, FieldText, fields_of}
use Rattle.proto_wire.specs.Taken.{last_number}
use Rattle.needle.specs.SuperBlock.{placement_byte}
use Rattle.topology.specs.declared.report.VolumeReport.{VolumeReport}
use Rattle.master.specs.declared.volume_message.VolumeFields.{VolumeFields}

-- What these fields give as a volume.
abbrev pub volume_in : List FieldText → VolumeFields
volume_in fields = record {
  id = last_number 1 fields;
  size = last_number 2 fields;
  placement = last_number 3 fields;
  read_only = last_number 4 fields;
  ttl = last_number 5 fields;
}

-- A volume with one number more.
abbrev pub volume_with : ℕ → ℕ → VolumeFields → VolumeFields
volume_with number value v = record {
  id = if number == 1 then value else v.id;
  size = if number == 2 then value else v.size;
  placement = if number == 3 then value else v.placement;
  read_only = if number == 4 then value else v.read_only;
  ttl = if number == 5 then value else v.ttl;
}

-- The fields of a volume's text, or its first fault.
abbrev pub volume_at : List ℕ → Result VolumeFields WireFault
volume_at text = fields_of text >>= λ fields. Ok (volume_in fields)

-- A number has three digits of 0 to 2.
abbrev pub is_digits : ℕ → Bool
is_digits number = nat_le (number / 100) 2 && nat_le (number / 10 % 10) 2 && nat_le (number % 10) 2

-- The numbers fit their types, and the placement has its digits.
abbrev pub is_good_volume : VolumeFields → Bool
is_good_volume v = nat_lt v.id (2 ^ 32) && is_digits v.placement && nat_le v.ttl 65535

-- A text is that of a volume with such numbers.
abbrev pub is_good_text : List ℕ → Bool
is_good_text text = option_map_or is_good_volume (result_ok (volume_at text)) false

-- A time to live as a number: the first byte times 256 plus the second.
abbrev pub ttl_number : List ℕ → ℕ
ttl_number ttl = 256 * slice_index ttl 0 + slice_index ttl 1

-- A report is that of these numbers. A number is true where it isn't 0.
pub record IsVolume (v : VolumeFields) (report : VolumeReport) : Type 0 where
  pub volume : report.volume ≡ v.id
  pub size : report.size ≡ v.size
  pub placement : placement_byte report.placement ≡ v.placement
  pub read_only : report.read_only ≡ not (v.read_only == 0)
  pub ttl : ttl_number report.ttl ≡ v.ttl

-- A report is that of a text.
pub record IsReport (text : List ℕ) (report : VolumeReport) : Type 0 where
  pub fields : VolumeFields
  pub read : volume_at text ≡ Ok fields
  pub is : IsVolume fields report
