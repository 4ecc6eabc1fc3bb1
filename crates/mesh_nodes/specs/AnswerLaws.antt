-- What holds of a node and of its answers, over every node, state and input.
use Rattle.std.specs.Prelude.{◌≤◌, length}
use Rattle.ason_base.specs.{declared.commands.DeskItem.DeskItem, declared.ids.NodeId.NodeId, declared.messages.Msg.Msg, Network.{IsTopology, Network}}
use Rattle.mesh_rules.specs.{Messages.on_message, Orders.on_item, LocalNodes.{LocalNode, local_node}, State.{NodeState, new_node}, Waits.on_tick}
use Rattle.mesh_nodes.specs.{FitNodes.NodeFits, LocalNodes.LocalNodeFits, Sent.{AnswerFits, CanBePassedOn}}

-- a node of a topology, with no leg and no call
abbrev pub NewNodesFit : Type 0
NewNodesFit = (t : Network) (n : NodeId) → IsTopology t → LocalNodeFits (local_node t n) ×
    NodeFits (local_node t n) new_node

-- a message of whatever sender
abbrev pub MessagesFit : Type 0
MessagesFit = (p : LocalNode) (s : NodeState) (u : NodeId) (m : Msg) → LocalNodeFits p → NodeFits p s →
    AnswerFits p s (CanBePassedOn m) (on_message p s u m)

-- an item of a desk, whatever it orders
abbrev pub ItemsFit : Type 0
ItemsFit = (p : LocalNode) (s : NodeState) (i : DeskItem) → LocalNodeFits p → NodeFits p s →
    AnswerFits p s (Unit {0}) (on_item p s i)

-- a tick, at a node with at most 65,536 calls
abbrev pub TicksFit : Type 0
TicksFit =
    (p : LocalNode) (s : NodeState) → NodeFits p s → length s.calls ≤ 65536 → AnswerFits p s (Unit {0}) (on_tick p s)
