use Rattle.entry.proofs.ValidEntries.{made_is_valid}
use Rattle.entry.proofs.entry_parts.EntryText.to_entry.Goals as goal

pub returns-clause-valid : goal.returns-clause-valid
returns-clause-valid c = made_is_valid _ c.args.self.now c.text.ensures.read c.requires c.entry_with_chunks.ensures
