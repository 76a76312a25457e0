use Rattle.std.proofs.Common.{refl, sym, subst}
use Rattle.entry.specs.Entry.{IsValid}
use Rattle.weed_command.proofs.NameLemmas.{found_at}
use Rattle.weed_command.proofs.name_table.NameTableNames.find.Goals as goal

pub returns-in_ok-copy-in-Some-clause-found : goal.returns-in_ok-copy-in-Some-clause-found
returns-in_ok-copy-in-Some-clause-found c = rw c.in_ok-copy-in-Some.ensures
    (found_at c.args.self.now.entries.entries c.args.path.now c.args.path.now _ refl c.in-Some.ensures.value)

pub returns-in_ok-copy-in-Some-clause-root : goal.returns-in_ok-copy-in-Some-clause-root
returns-in_ok-copy-in-Some-clause-root c root =
    absurd ((c.args.self.now.kept.each c.args.path.now c.in-Some.entry.now
    (sym (found_at c.args.self.now.entries.entries c.args.path.now c.args.path.now _ refl c.in-Some.ensures.value))).1 root)

pub returns-in_ok-copy-in-Some-clause-valid : goal.returns-in_ok-copy-in-Some-clause-valid
returns-in_ok-copy-in-Some-clause-valid c =
    subst IsValid (sym c.in_ok-copy-in-Some.ensures)
    (c.args.self.now.kept.each c.args.path.now c.in-Some.entry.now
    (sym (found_at c.args.self.now.entries.entries c.args.path.now c.args.path.now _ refl c.in-Some.ensures.value))).2

pub returns-in-None-clause-found : goal.returns-in-None-clause-found
returns-in-None-clause-found c =
    found_at c.args.self.now.entries.entries c.args.path.now c.args.path.now _ refl c.in-None.ensures.value
