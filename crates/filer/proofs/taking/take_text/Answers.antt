use Rattle.std.proofs.Common.{◌∙◌, ap}
use Rattle.std.specs.Option.{option_map}
use Rattle.name_core.specs.Namespace.{after_changes}
use Rattle.filer.proofs.Takings.{takes_one}
use Rattle.filer.proofs.taking.take_text.Goals as goal

pub returns-in-Ok-clause-taken : goal.returns-in-Ok-clause-taken
returns-in-Ok-clause-taken g c =
    takes_one c.args.text.now c.in_ok-known.known (g.K.Names.map c.args.keeper.now) (g.K.Names.map c.commit.new.self) c.in_ok-known.ensures.known.0
    (c.in-Ok.ensures.map ∙ ap (option_map (after_changes c.in_ok-known.known.changes)) c.reserve_for.ensures.map)
