use Rattle.std.proofs.Common.{◌≡◌, take}
use Rattle.filer.specs.Taken.{Takes}
use Rattle.filer.proofs.taking.take_texts.Given as goal

abbrev pub invariant-loop-text : goal.invariant-loop-text
invariant-loop-text g l = record {
  taken : Takes (take l.text-index l.texts) (g.K.Names.map l.fn.keeper) (g.K.Names.map l.keeper);
  faults : g.K.Names.faults l.keeper ≡ g.K.Names.faults l.fn.keeper;
  beside : g.K.Names.beside l.keeper ≡ g.K.Names.beside l.fn.keeper;
}
