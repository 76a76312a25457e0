use Rattle.std.proofs.Common.{◌≡◌, drop}
use Rattle.filer_requests.specs.Query.{value_of}
use Rattle.filer_requests.proofs.query.value_of.Given as goal

abbrev pub invariant-loop-key : goal.invariant-loop-key
invariant-loop-key l = value_of l.name (drop l.key-index l.query) ≡ value_of l.name l.query
