use Rattle.std.proofs.Common.{Some, ap, sym, subst, ◌∙◌}
use Rattle.std.specs.Prelude.{option_map}
use Rattle.records.specs.Events.{FindsMeant, moved_to}
use Rattle.records.proofs.ReadingLoop.{some_of, moved_some}
use Rattle.records.proofs.meaning.put_behind.Goals as goal

pub returns-in-Ok-Some : goal.returns-in-Ok-Some
returns-in-Ok-Some c = λ new finds.
    ap Some c.moved.ensures ∙ ap (option_map (moved_to c.args.path)) (sym c.in-Ok-Some.field-0-is ∙ subst (FindsMeant new) c.in-Ok-Some.is finds)

pub returns-in-Ok-None : goal.returns-in-Ok-None
returns-in-Ok-None c = λ new finds.
    ap (option_map (moved_to c.args.path)) (sym c.in-Ok-None.field-0-is ∙ subst (FindsMeant new) c.in-Ok-None.is finds)

pub returns-in-Err : goal.returns-in-Err
returns-in-Err c = λ new finds.
    let some = some_of new (subst (FindsMeant new) c.in-Err.is finds) in
    let moved = moved_some c.args.path some.0 in
    (moved.0, moved.1, ap (option_map (moved_to c.args.path)) some.1 ∙ ap Some moved.2)
