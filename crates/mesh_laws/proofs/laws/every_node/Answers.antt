use Rattle.lsp_laws.proofs.nodes.NodeLaws.{every_node}
use Rattle.mesh_laws.proofs.laws.every_node.Goals as goal

pub returns : goal.returns
returns c = every_node
