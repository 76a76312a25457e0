-- The message of attributes: what is taken of its fields, what that means, and how it is written.
use Rattle.std.specs.Prelude.{◌≡◌, ℕ, ◌^◌, ◌<◌, List, [], ◌++◌, length, None, Some, IfSome, unwrap_or, Bool, nat_lt, nat_le, ◌==◌, ◌&&◌, ◌||◌, if◌then◌else◌}
use Rattle.proto_wire.specs.Field.{FieldText}
use Rattle.proto_wire.specs.Taken.{last_number, last_text}
use Rattle.proto_wire.specs.Text.{varint_field, bytes_field}
use Rattle.entry.specs.declared.entry.Attributes.{Attributes}

-- Its fields, the last value of each.
pub record AttributesText : Type 0 where
  pub file_size : ℕ
  pub mtime : ℕ
  pub mode : ℕ
  pub uid : ℕ
  pub gid : ℕ
  pub crtime : ℕ
  pub mime : List ℕ
  pub ttl_sec : ℕ
  pub md5 : List ℕ

-- What these fields give as attributes.
abbrev pub attributes_in : List FieldText → AttributesText
attributes_in fields = record {
  file_size = last_number 1 fields;
  mtime = last_number 2 fields;
  mode = last_number 3 fields;
  uid = last_number 4 fields;
  gid = last_number 5 fields;
  crtime = last_number 6 fields;
  mime = last_text 7 fields;
  ttl_sec = last_number 10 fields;
  md5 = last_text 14 fields;
}

-- The values fit their types and keep to an entry's limits.
abbrev pub are_good : AttributesText → Bool
are_good a =
    nat_lt a.mode (2 ^ 32) && nat_lt a.uid (2 ^ 32) && nat_lt a.gid (2 ^ 32) && nat_lt a.ttl_sec (2 ^ 32)
    && nat_le a.file_size 274877906944 && nat_le (length a.mime) 255 && ((length a.md5 == 0) || (length a.md5 == 16))

-- The attributes of their fields. An empty digest is none.
abbrev pub attributes_of : AttributesText → Attributes
attributes_of a = record {
  file_size = a.file_size;
  mtime = a.mtime;
  mode = a.mode;
  uid = a.uid;
  gid = a.gid;
  crtime = a.crtime;
  mime = a.mime;
  ttl_sec = a.ttl_sec;
  md5 = if length a.md5 == 0 then None else Some a.md5;
}

-- FuseAttributes, as they are written.
abbrev pub attributes_text : Attributes → List ℕ
attributes_text attributes =
    varint_field 1 attributes.file_size ++ varint_field 2 attributes.mtime ++ varint_field 3 attributes.mode
    ++ varint_field 4 attributes.uid ++ varint_field 5 attributes.gid ++ varint_field 6 attributes.crtime
    ++ bytes_field 7 attributes.mime ++ varint_field 10 attributes.ttl_sec
    ++ bytes_field 14 (unwrap_or attributes.md5 [])

-- The numbers fit their types, and a digest has its 16 bytes.
pub record FitTypes (a : Attributes) : Type 0 where
  pub file_size : a.file_size < 2 ^ 64
  pub mtime : a.mtime < 2 ^ 64
  pub mode : a.mode < 2 ^ 32
  pub uid : a.uid < 2 ^ 32
  pub gid : a.gid < 2 ^ 32
  pub crtime : a.crtime < 2 ^ 64
  pub ttl_sec : a.ttl_sec < 2 ^ 32
  pub md5 : IfSome a.md5 (λ digest. length digest ≡ 16)
