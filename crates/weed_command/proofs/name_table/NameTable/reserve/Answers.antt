use Rattle.std.proofs.Common.{sym, subst}
use Rattle.name_core.specs.Pages.{AreNamed}
use Rattle.weed_command.proofs.NameLemmas.{same_names}
use Rattle.weed_command.proofs.name_table.NameTable.reserve.Goals as goal

pub invariant_of-self : goal.invariant_of-self
invariant_of-self c = record {
  kept = subst AreNamed (sym (same_names c.args.self.now.entries.entries c.reserve.new.self.entries c.reserve.ensures.entries.2)) c.args.self.now.kept;
}

pub returns-clause-names : goal.returns-clause-names
returns-clause-names c = same_names c.args.self.now.entries.entries c.reserve.new.self.entries c.reserve.ensures.entries.2
