-- The message that a reference to its row stands for.
use Rattle.std.specs.{Prelude.{ℕ, Option, Some, None}, Borrow.Bor}
use Rattle.ason_base.specs.{declared.ids.NodeId.NodeId, declared.network.TeRow.TeRow}
use Rattle.flood.specs.{declared.messages.FloodMsg.FloodMsg, declared.messages.FloodMsg.TheVariants.{Row, Ack}}

abbrev pub message_of : ℕ → Option (NodeId × Bor TeRow) → FloodMsg
message_of number None = Ack number
message_of number (Some given) = Row number given.0 given.1.now
