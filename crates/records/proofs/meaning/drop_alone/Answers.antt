use Rattle.std.proofs.Common.{◌∷◌, [], ap, sym, subst, ◌∙◌}
use Rattle.std.specs.Prelude.{option_map}
use Rattle.name_core.specs.declared.change.Change.{Change}
use Rattle.name_core.specs.declared.change.Change.TheVariants.{Drop}
use Rattle.records.specs.Events.{FindsMeant}
use Rattle.records.proofs.ReadingLoop.{some_of}
use Rattle.records.proofs.meaning.drop_alone.Goals as goal

pub returns-in-Ok-Some : goal.returns-in-Ok-Some
returns-in-Ok-Some c = λ meant finds.
    ap (λ o. option_map (λ (drop : Change). drop ∷ []) (option_map Drop o)) (sym c.in-Ok-Some.field-0-is ∙ subst (FindsMeant meant) c.in-Ok-Some.is finds)

pub returns-in-Ok-None : goal.returns-in-Ok-None
returns-in-Ok-None c = λ meant finds.
    ap (λ o. option_map (λ (drop : Change). drop ∷ []) (option_map Drop o)) (sym c.in-Ok-None.field-0-is ∙ subst (FindsMeant meant) c.in-Ok-None.is finds)

pub returns-in-Err : goal.returns-in-Err
returns-in-Err c = λ meant finds.
    let some = some_of meant (subst (FindsMeant meant) c.in-Err.is finds) in
    (Drop some.0, [], ap (λ o. option_map (λ (drop : Change). drop ∷ []) (option_map Drop o)) some.1)
