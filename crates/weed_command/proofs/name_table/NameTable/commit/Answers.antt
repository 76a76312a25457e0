use Rattle.std.proofs.Common.{◌≡◌, [], ◌∷◌, ◌++◌, ◌∙◌, length, ap, sym, append_assoc, arith}
use Rattle.std.specs.Vec.Iter.{into_iter_items}
use Rattle.name_core.specs.Namespace.{step}
use Rattle.name_core.proofs.NamespaceLemmas.{after_changes-append}
use Rattle.weed_command.specs.NameTable.{names_of}
use Rattle.weed_command.proofs.name_table.NameTable.commit.Goals as goal

pub loop-change-preserved : goal.loop-change-preserved
loop-change-preserved c =
    let at = c.loop-change in
    let one = c.in-Some.change ∷ [] in
    let rest = into_iter_items c.next.new.self in
    let next : into_iter_items at.change-iterator ≡ c.in-Some.change ∷ rest = c.in-Some.ensures.steps.0 in record {
      names = c.make.ensures.names ∙ ap (step c.in-Some.change) at.invariant.names ∙ sym (after_changes-append at.yielded one (names_of c.args.self.now));
      changes = at.invariant.changes ∙ ap (λ rest. at.yielded ++ rest) next ∙ sym (append_assoc at.yielded one rest);
      spare = omega (arith, ap length next, at.invariant.spare, c.make.ensures.spare);
    }
