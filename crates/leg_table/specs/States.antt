-- What a node knows of itself and what it keeps, read off its tables.
use Rattle.std.specs.Prelude.{List, [], drop, length}
use Rattle.ason_base.specs.declared.network.TeRow.{TeRow}
use Rattle.mesh_rules.specs.{LocalNodes.LocalNode, State.NodeState}
use Rattle.leg_table.specs.{LegTables.LegTable, CallTables.CallTable}

abbrev pub local_of : LegTable → LocalNode
local_of t = record { id = t.node.id; convert = t.node.convert; wait = t.wait; own = t.own }

-- the rows beyond those of the own links
abbrev pub learnt_rows : LegTable → List TeRow
learnt_rows t = drop (length t.own) t.rows

abbrev pub state_of : LegTable → CallTable → NodeState
state_of t c = record {
  legs = t.legs;
  calls = c.calls;
  tunnel = c.tunnel;
  lsp = c.lsp;
  learnt = learnt_rows t;
  down = t.down;
}

abbrev pub no_call : CallTable
no_call = record { calls = []; tunnel = 1; lsp = 1 }

-- what the table of legs tells of the state: no call stands
abbrev pub legs_state : LegTable → NodeState
legs_state t = state_of t no_call
