-- The node that tables represent.
use Rattle.leg_table.specs.{States.{local_of, state_of}, Tables.{CallTable, LegTable}}
use Rattle.mesh_nodes.specs.Nodes.{NodeView}

-- the node of these tables
abbrev pub node_view_of : LegTable → CallTable → NodeView
node_view_of t c = record { place = local_of t; state = state_of t c }
