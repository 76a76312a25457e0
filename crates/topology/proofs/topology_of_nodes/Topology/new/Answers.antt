use Rattle.std.proofs.Common.{ap, ◌∙◌}
use Rattle.topology.specs.Nodes.{nodes_of}
use Rattle.topology.proofs.Places.{no_nodes}
use Rattle.topology.proofs.topology_of_nodes.Topology.new.Goals as goal

pub returns : goal.returns
returns c = ap nodes_of c.new.ensures.items ∙ no_nodes
