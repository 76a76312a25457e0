use Rattle.std.proofs.Common.{subst}
use Rattle.std.specs.Prelude.{IfSome}
use Rattle.name_core.specs.Plan.{MakesDirectories}
use Rattle.records.proofs.RecordSizes.{directories_are_short}
use Rattle.weed_command.proofs.plain_filer.PlainFiler.make_dir.Goals as goal

pub append-requires-clause-short : goal.append-requires-clause-short
append-requires-clause-short g c =
    directories_are_short c.in-Ok-Some.planned (subst (λ answer. IfSome answer (λ made. MakesDirectories made.time made.changes)) c.in-Ok-Some.field-0-is c.in-Ok-Some.ensures.directories)
