use Rattle.mesh_laws.proofs.{contends.Law.no_contend, surveyed.Law.no_surveyed_contend}
use Rattle.mesh_laws.proofs.laws.no_contend.Goals as goal

pub returns-clause-mesh : goal.returns-clause-mesh
returns-clause-mesh c = no_contend

pub returns-clause-rows : goal.returns-clause-rows
returns-clause-rows c = no_surveyed_contend
