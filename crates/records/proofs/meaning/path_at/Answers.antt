use Rattle.records.proofs.ReadPaths.{read_in_is}
use Rattle.records.proofs.meaning.path_at.Goals as goal

pub returns : goal.returns
returns c = read_in_is c.args.directory.now c.args.name.now _ _ c.read_in.ensures.found c.read_in.ensures.refused c.if_path.ensures
