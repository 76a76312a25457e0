-- What a payload that reads as a record says of its time.
use Rattle.std.proofs.Common.{ℕ, ◌≤◌, List, arith}
use Rattle.std.proofs.lemmas.Bool.Decides.{nat_tests}
use Rattle.name_core.specs.declared.change.Record.{Record}
use Rattle.name_core.specs.Log.{end_of_time}
use Rattle.meta_log.specs.Records.{ReadsAs}

-- A record's time is none past the end.
pub time_bounded : (text : List ℕ) (known : Record) → ReadsAs text known → known.time ≤ end_of_time
time_bounded text known reads = grind (arith, nat_tests)
