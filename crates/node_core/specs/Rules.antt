-- The rules of messages, orders and rows at a node of these tables.
use Rattle.std.specs.{}
use Rattle.ason_base.specs.{declared.commands.Command.Command, declared.commands.DeskItem.DeskItem, declared.ids.NodeId.NodeId, declared.messages.Msg.Msg, declared.network.TeRow.TeRow}
use Rattle.mesh_rules.specs.{Changes.Answer, Learnt.on_row, Messages.on_message, Orders.{on_item, on_order}}
use Rattle.mesh_nodes.specs.Routes.{AreSearchable}
use Rattle.leg_table.specs.{States.{local_of, state_of}, Tables.{CallTable, LegTable}}
use Rattle.call_control.specs.Searches.{RowsAreKnown}

-- the rows of the tables are those that the node knows, and routes can be asked of them
pub record CanSearch (t : LegTable) : Type 0 where
  pub known : RowsAreKnown t
  pub searchable : AreSearchable t.rows

abbrev pub message_here : LegTable → CallTable → NodeId → Msg → Answer
message_here t c u m = on_message (local_of t) (state_of t c) u m

abbrev pub order_here : LegTable → CallTable → Command → Answer
order_here t c command = on_order (local_of t) (state_of t c) command

abbrev pub item_here : LegTable → CallTable → DeskItem → Answer
item_here t c item = on_item (local_of t) (state_of t c) item

abbrev pub row_here : LegTable → CallTable → TeRow → Answer
row_here t c row = on_row (local_of t) (state_of t c) row
