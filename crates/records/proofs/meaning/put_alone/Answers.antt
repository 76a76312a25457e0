use Rattle.std.proofs.Common.{◌∷◌, [], ap, sym, subst, ◌∙◌}
use Rattle.std.specs.Prelude.{option_map}
use Rattle.name_core.specs.declared.change.Change.{Change}
use Rattle.records.specs.Events.{FindsMeant}
use Rattle.records.proofs.ReadingLoop.{some_of}
use Rattle.records.proofs.meaning.put_alone.Goals as goal

pub returns-in-Ok-Some : goal.returns-in-Ok-Some
returns-in-Ok-Some c = λ meant finds.
    ap (option_map (λ (put : Change). put ∷ [])) (sym c.in-Ok-Some.field-0-is ∙ subst (FindsMeant meant) c.in-Ok-Some.is finds)

pub returns-in-Ok-None : goal.returns-in-Ok-None
returns-in-Ok-None c = λ meant finds.
    ap (option_map (λ (put : Change). put ∷ [])) (sym c.in-Ok-None.field-0-is ∙ subst (FindsMeant meant) c.in-Ok-None.is finds)

pub returns-in-Err : goal.returns-in-Err
returns-in-Err c = λ meant finds.
    let some = some_of meant (subst (FindsMeant meant) c.in-Err.is finds) in
    (some.0, [], ap (option_map (λ (put : Change). put ∷ [])) some.1)
