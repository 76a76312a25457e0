use Rattle.std.proofs.Common.{◌∙◌, sym}
use Rattle.needle_index.proofs.Maps.{looked_up, inserted, on_err}
use Rattle.needle_index.proofs.slots.Slots.insert.Goals as goal

pub returns-clause-former : goal.returns-clause-former
returns-clause-former c = rw (← c.self.view_is) (c.in_ok-insert.ensures.old ∙ looked_up c.args.key c.self.inside.map.entries)

pub returns-clause-ok : goal.returns-clause-ok
returns-clause-ok c = rw (← c.self.view_is) (inserted c.self.inside.map.entries c.insert.new.self.entries c.args.key c.args.spot c.in_ok-insert.ensures.updates.0)

pub returns-in_err-insert-clause-absent : goal.returns-in_err-insert-clause-absent
returns-in_err-insert-clause-absent c = on_err c.from_residual.result (rw (← c.self.view_is) (sym (looked_up c.args.key c.self.inside.map.entries) ∙ c.in_err-insert.ensures.absent))
