use Rattle.mesh_nodes.proofs.{LearnsNothing.nothing-else, routes.Learnt.{learning-fits, learnt-known, learnt-stay_true, network-rows-may, rows-stay_fit}}
use Rattle.mesh_nodes.proofs.laws.learnt_rows.Goals as goal

pub returns : goal.returns
returns c = record {
  known = learnt-known;
  fits = learning-fits;
  rows = rows-stay_fit;
  may = network-rows-may;
  stay = learnt-stay_true;
  others = nothing-else;
}
