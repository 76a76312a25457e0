use Rattle.std.proofs.Common.{◌≡◌, take}
use Rattle.std.specs.Prelude.{IsTrue}
use Rattle.std.specs.List.{list_all}
use Rattle.std.specs.Char.{is_ascii_digit}
use Rattle.http_head.specs.Words.{capped_value}
use Rattle.http_head.proofs.words.capped_value.Given as goal

abbrev pub invariant-loop-digit : goal.invariant-loop-digit
invariant-loop-digit l = IsTrue (list_all is_ascii_digit l.digits) → l.value ≡ capped_value (take l.digit-index l.digits)
