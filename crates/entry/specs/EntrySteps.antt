-- An entry's message with the value of one field more.
use Rattle.std.specs.Prelude.{ℕ, ◌+◌, List, is_some, nat_lt, ◌==◌, ◌&&◌, if◌then◌else◌}
use Rattle.std.specs.Option.{option_or}
use Rattle.std.specs.Result.{result_err}
use Rattle.entry.specs.declared.chunks_seen.ChunksSeen.{ChunksSeen}
use Rattle.entry.specs.ChunkReading.{chunk_at}
use Rattle.entry.specs.EntryText.{EntryFieldsText, chunk_read}

-- What is seen of chunks, with one more.
abbrev pub seen_with : List ℕ → ChunksSeen → ChunksSeen
seen_with text seen = record {
  fault = option_or seen.fault (result_err (chunk_at text));
  early = seen.early;
  count = if nat_lt seen.count 65537 then seen.count + 1 else seen.count;
  are_good = seen.are_good && is_some (chunk_read text);
}

-- What is seen of chunks, with attributes behind them.
abbrev pub seen_before : ChunksSeen → ChunksSeen
seen_before seen = record seen { early = seen.fault }

-- An entry with one number more.
abbrev pub entry_with_number : ℕ → ℕ → EntryFieldsText → EntryFieldsText
entry_with_number number value e = record e { is_directory = if number == 2 then value else e.is_directory }

-- An entry with one text more.
abbrev pub entry_with_text : ℕ → List ℕ → EntryFieldsText → EntryFieldsText
entry_with_text number text e = record e {
  name = if number == 1 then text else e.name;
  attributes = if number == 4 then text else e.attributes;
  chunks = if number == 3 then seen_with text e.chunks else if number == 4 then seen_before e.chunks else e.chunks;
}
