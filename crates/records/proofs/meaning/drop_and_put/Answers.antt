use Rattle.std.proofs.Common.{ap, sym, subst, ◌∙◌}
use Rattle.std.specs.Prelude.{option_map, option_and_then}
use Rattle.records.specs.Events.{FindsMeant, moved_to, FindsChanges}
use Rattle.records.proofs.ReadingLoop.{some_of, lost_finds}
use Rattle.records.proofs.meaning.drop_and_put.Goals as goal

pub returns-in-Ok-Some : goal.returns-in-Ok-Some
returns-in-Ok-Some c = λ old new finds puts.
    subst (λ o. FindsChanges (option_and_then (λ p. option_map (moved_to p) new) o) c.put_behind.result)
    (sym c.in-Ok-Some.field-0-is ∙ subst (FindsMeant old) c.in-Ok-Some.is finds) (c.put_behind.ensures new puts)

pub returns-in-Ok-None : goal.returns-in-Ok-None
returns-in-Ok-None c = λ old new finds puts.
    ap (option_and_then (λ p. option_map (moved_to p) new)) (sym c.in-Ok-None.field-0-is ∙ subst (FindsMeant old) c.in-Ok-None.is finds)

pub returns-in-Err : goal.returns-in-Err
returns-in-Err c = λ old new finds puts.
    let some = some_of old (subst (FindsMeant old) c.in-Err.is finds) in
    subst (λ o. FindsChanges (option_and_then (λ p. option_map (moved_to p) new) o) c.lost_behind.result) (sym some.1)
    (lost_finds c.args.put c.lost_behind.result some.0 new puts c.lost_behind.ensures)
