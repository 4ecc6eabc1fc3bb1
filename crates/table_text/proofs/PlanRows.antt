-- Routes can be asked of the rows of a topology's links.
use Rattle.std.proofs.Common.{◌≡◌, ◌∙◌, List, map, sym, ap, subst}
use Rattle.ason_base.specs.{Network.{IsTopology, Network, row_of}, declared.network.LinkSpec.LinkSpec, declared.network.TeRow.TeRow}
use Rattle.mesh_nodes.specs.Routes.{AreSearchable}
use Rattle.mesh_nodes.proofs.routes.Topologies.{rows-searchable}

-- Ends

-- Links

-- The rows

-- the rows that are searched are those of the plan
pub searchable : (t : Network) (links : List LinkSpec) (rows : List TeRow) → IsTopology t → links ≡ t.links →
    rows ≡ map row_of links → AreSearchable rows
searchable t links rows valid own are =
    subst AreSearchable (sym (are ∙ ap (map row_of) own)) (rows-searchable t valid)
