use Rattle.std.proofs.Common.{◌∙◌, ap}
use Rattle.name_core.specs.Namespace.{after_changes}
use Rattle.name_core.specs.RecordText.{CanBeWritten}
use Rattle.meta_log.specs.Records.{ReadsAs}
use Rattle.weed_command.specs.NameTable.{names_of}
use Rattle.weed_command.proofs.ReplayLemmas.{takes_one}
use Rattle.weed_command.proofs.replay.take_text.Goals as goal

pub returns : goal.returns
returns c =
    let found : ReadsAs c.args.text.now c.in-Some.known × CanBeWritten c.in-Some.known = rw c.in-Some.is at c.in_ok-known.ensures in
    takes_one c.args.text.now c.in-Some.known (names_of c.args.names.now) (names_of c.commit.new.self) found.0
    (c.commit.ensures ∙ ap (after_changes c.in-Some.known.changes) c.reserve.ensures.names)
