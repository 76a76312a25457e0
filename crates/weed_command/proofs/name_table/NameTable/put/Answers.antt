use Rattle.std.proofs.Common.{◌≡◌, sym, subst}
use Rattle.std.specs.FinMap.{from_entries, insert}
use Rattle.name_core.specs.Pages.{AreNamed}
use Rattle.weed_command.specs.NameTable.{names_of}
use Rattle.weed_command.proofs.NameLemmas.{as_it_succeeds, put_in, put_keeps}
use Rattle.weed_command.proofs.name_table.NameTable.put.Goals as goal

pub invariant_of-self : goal.invariant_of-self
invariant_of-self c =
    let names = names_of c.args.self.now in
    let updates = as_it_succeeds c.insert-put.result (c.insert-put.ensures.succeeds c.requires.spare) c.insert-put.ensures.updates in
    let done : from_entries c.insert-put.new.self.entries ≡ insert names c.args.path c.args.entry =
    put_in c.args.self.now.entries.entries c.insert-put.new.self.entries c.args.path c.args.entry updates.0 in record {
      kept = subst AreNamed (sym done) (put_keeps c.args.path c.args.entry names c.text.ensures.valid c.requires.rootless c.requires.valid c.args.self.now.kept);
    }

pub returns-clause-names : goal.returns-clause-names
returns-clause-names c =
    let updates = as_it_succeeds c.insert-put.result (c.insert-put.ensures.succeeds c.requires.spare) c.insert-put.ensures.updates in
    put_in c.args.self.now.entries.entries c.insert-put.new.self.entries c.args.path c.args.entry updates.0
