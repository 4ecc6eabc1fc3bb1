-- What a node learns of links that aren't its own.
use Rattle.std.specs.Prelude.{◌≡◌, ◌≤◌, ◌++◌, false, [], ◌∷◌, IsTrue}
use Rattle.ason_base.specs.{declared.limits.TheConstants.MOST_METRIC, declared.commands.DeskItem.DeskItem, declared.ids.NodeId.NodeId, declared.messages.Msg.Msg, declared.network.TeRow.TeRow, Network.{IsTopology, Network}, Walks.HaveFewEnds}
use Rattle.mesh_rules.specs.{Changes.changed, KnownRows.{has_row, known_rows}, Learnt.on_row, LocalNodes.{LocalNode, local_node}, Messages.on_message, Orders.on_item, State.NodeState, Waits.on_tick}
use Rattle.mesh_nodes.specs.{FitNodes.NodeFits, Routes.{AreRowsOf, IsElsewhere, IsRowOf, RowsFit}, Sent.AnswerFits}

-- Which rows

-- the row has a metric of 1 to 65,535; at most 64 nodes are ends of it and of the rows that the node knows; and the
-- node is no end of it, unless it knows its link
pub record MayLearn (p : LocalNode) (s : NodeState) (row : TeRow) : Type 0 where
  pub metric : (1 ≤ row.metric) × (row.metric ≤ MOST_METRIC)
  pub ends : HaveFewEnds (known_rows p s ++ row ∷ [])
  pub elsewhere : has_row (known_rows p s) row.link ≡ false → IsElsewhere p.id row

-- so it is with each row of a topology, at a node of it that learnt rows of it alone
abbrev pub NetworkRowsMayBeLearnt : Type 0
NetworkRowsMayBeLearnt =
    (t : Network) (n : NodeId) (s : NodeState) (row : TeRow) → IsTopology t → AreRowsOf t s.learnt → IsRowOf t row →
    MayLearn (local_node t n) s row

-- What is known then

-- the link is known
abbrev pub LearntIsKnown : Type 0
LearntIsKnown =
    (p : LocalNode) (s : NodeState) (row : TeRow) →
    IsTrue (has_row (known_rows p (changed s (on_row p s row))) row.link)

-- all else fits as it did, and nothing is sent
abbrev pub LearningFits : Type 0
LearningFits =
    (p : LocalNode) (s : NodeState) (row : TeRow) → NodeFits p s → AnswerFits p s (Unit {0}) (on_row p s row)

-- routes can be asked of what is known then
abbrev pub RowsStayFit : Type 0
RowsStayFit =
    (p : LocalNode) (s : NodeState) (row : TeRow) → RowsFit p s → MayLearn p s row →
    RowsFit p (changed s (on_row p s row))

-- a node that learnt rows of a network alone, and learns another one
abbrev pub LearntStayTrue : Type 0
LearntStayTrue =
    (t : Network) (p : LocalNode) (s : NodeState) (row : TeRow) → AreRowsOf t s.learnt → IsRowOf t row →
    AreRowsOf t (changed s (on_row p s row)).learnt

-- by no message, by no item of its desk and by no tick does a node learn of a link
abbrev pub NothingElseIsLearnt : Type 0
NothingElseIsLearnt =
    ((p : LocalNode) (s : NodeState) (u : NodeId) (m : Msg) → (on_message p s u m).rows ≡ [])
    × ((p : LocalNode) (s : NodeState) (i : DeskItem) → (on_item p s i).rows ≡ [])
    × ((p : LocalNode) (s : NodeState) → (on_tick p s).rows ≡ [])
