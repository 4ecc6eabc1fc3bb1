use Rattle.flood.proofs.{Beginnings.{own_can_be_declared, start_is_new}, TopologyRows.links_of_a_topology}
use Rattle.flood.proofs.laws.every_start.Goals as goal

pub returns : goal.returns
returns c = record { topology = links_of_a_topology; new = start_is_new; declared = own_can_be_declared }
