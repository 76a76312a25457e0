use Rattle.volume_items.proofs.Growing.{done_appended, done_ends, told_front, told_within}
use Rattle.volume_items.proofs.Named.{write_others}
use Rattle.volume_items.proofs.files.append_piece.Goals as goal

pub write_at-requires : goal.write_at-requires
write_at-requires g c = told_within (g.D.Disk.files c.args.disk.now) c.args.name.now c.args.at c.requires

pub returns-clause-done : goal.returns-clause-done
returns-clause-done g c = done_appended c.args.name.now c.args.piece.now c.args.at _ _ c.write_at.result c.write_at.ensures.files c.requires

pub returns-clause-ends : goal.returns-clause-ends
returns-clause-ends g c = done_ends c.args.name.now c.args.piece.now c.args.at _ _ c.write_at.result c.write_at.ensures.files c.requires

pub returns-clause-front : goal.returns-clause-front
returns-clause-front g c = told_front c.args.name.now c.args.piece.now c.args.at _ _ c.write_at.result c.write_at.ensures.files c.requires

pub returns-clause-others : goal.returns-clause-others
returns-clause-others g c = write_others c.args.name.now c.args.at c.args.piece.now _ _ c.write_at.result c.write_at.ensures.files
