-- How turned calls of an ingress of these tables go back to their working LSPs (ITU-T G.8080, call control): by an
-- order, and by a tick.
use Rattle.std.specs.Prelude.{ℕ, ◌==◌, ◌&&◌, Bool, not}
use Rattle.ason_base.specs.{declared.ids.CallNo.CallNo, declared.ids.NodeId.NodeId, declared.tables.CallRec.CallRec}
use Rattle.mesh_rules.specs.{Calls.is_turned, Changes.Answer, Reverts.on_revert, Turns.has_any, Waits.on_tick}
use Rattle.leg_table.specs.{States.{local_of, state_of}, Tables.{CallTable, LegTable}}

-- An order

abbrev pub revert_here : LegTable → CallTable → CallNo → NodeId → Answer
revert_here t c n from = on_revert (local_of t) (state_of t c) n from

-- A tick

-- a turned call whose working LSP isn't hit waits, where the network restores calls after so many ticks
abbrev pub is_waiting : ℕ → CallRec → Bool
is_waiting wait c = not (wait == 0) && (is_turned c.state && not (has_any c.work_reports))

abbrev pub tick_answer : LegTable → CallTable → Answer
tick_answer t c = on_tick (local_of t) (state_of t c)
