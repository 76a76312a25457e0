use Rattle.std.proofs.Common.{◌∙◌}
use Rattle.entry.proofs.EntryLemmas.{turn_is}
use Rattle.entry.proofs.entry_parts.read_entry.Goals as goal

pub returns : goal.returns
returns c = c.read_in_turn.ensures ∙ turn_is c.args.text.now
