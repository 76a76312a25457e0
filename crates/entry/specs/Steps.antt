-- A message with the value of one field more.
use Rattle.std.specs.Prelude.{ℕ, List, ◌==◌, if◌then◌else◌}
use Rattle.entry.specs.AttributesText.{AttributesText}

-- Attributes with one number more.
abbrev pub attributes_with_number : ℕ → ℕ → AttributesText → AttributesText
attributes_with_number number value a = record {
  file_size = if number == 1 then value else a.file_size;
  mtime = if number == 2 then value else a.mtime;
  mode = if number == 3 then value else a.mode;
  uid = if number == 4 then value else a.uid;
  gid = if number == 5 then value else a.gid;
  crtime = if number == 6 then value else a.crtime;
  mime = a.mime;
  ttl_sec = if number == 10 then value else a.ttl_sec;
  md5 = a.md5;
}

-- Attributes with one text more.
abbrev pub attributes_with_text : ℕ → List ℕ → AttributesText → AttributesText
attributes_with_text number text a = record a {
  mime = if number == 7 then text else a.mime;
  md5 = if number == 14 then text else a.md5;
}
