-- What waits at a station, and what a table shows of it.
use Rattle.std.specs.Prelude.{◌==◌, ◌&&◌, ℕ, Bool, List, length}
use Rattle.ason_base.specs.{declared.calls.CallRow.CallRow, declared.calls.LegRow.LegRow}
use Rattle.flood.specs.State.{pending_count}
use Rattle.mesh_rules.specs.Rows.{call_rows, leg_rows}
use Rattle.control_channels.specs.ReadyControllers.{unacknowledged}
use Rattle.round_rules.specs.States.{StationState}

abbrev pub unacked_of : StationState → ℕ
unacked_of s = unacknowledged s.controller.adjacencies

abbrev pub rows_due_of : StationState → ℕ
rows_due_of s = pending_count s.controller.flood

-- its desk is empty, and each message and each row that it sends is acknowledged
abbrev pub has_nothing : StationState → Bool
has_nothing s = length s.desk == 0 && unacked_of s == 0 && rows_due_of s == 0

abbrev pub call_rows_of : StationState → List CallRow
call_rows_of s = call_rows s.controller.node.place.id s.controller.node.state

abbrev pub leg_rows_of : StationState → List LegRow
leg_rows_of s = leg_rows s.controller.node.place.id s.controller.node.state
