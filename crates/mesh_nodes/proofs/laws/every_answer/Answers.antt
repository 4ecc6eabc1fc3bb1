use Rattle.mesh_nodes.proofs.{Items.items-fit, Messages.messages-fit, NewNodes.{new-fits, new-place}, Ticks.ticks-fit}
use Rattle.mesh_rules.specs.LocalNodes.{local_node}
use Rattle.mesh_nodes.proofs.laws.every_answer.Goals as goal

pub returns : goal.returns
returns c = record {
  new = λ t n valid. (new-place t n valid, new-fits (local_node t n));
  messages = messages-fit;
  items = items-fit;
  ticks = ticks-fit;
}
