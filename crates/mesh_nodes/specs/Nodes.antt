-- One node: what it knows of itself, and what it keeps.
use Rattle.std.specs.Prelude.{◌≡◌, ◌-◌, length, take}
use Rattle.mesh_nodes.specs.{declared.inputs.Input.Input, declared.inputs.Input.TheVariants.{Message, Desk, Tick, Learn}, FitNodes.NodeFits, Learnt.MayLearn, LocalNodes.LocalNodeFits, Routes.RowsFit, Sent.CanBePassedOn}
use Rattle.mesh_rules.specs.{Changes.{Answer, changed}, Learnt.on_row, LocalNodes.LocalNode, Messages.on_message, State.NodeState, Orders.on_item, Waits.on_tick}

pub record NodeView : Type 0 where
  pub place : LocalNode
  pub state : NodeState

-- it knows its own links, what it keeps fits them, and routes can be asked of the rows that it knows
pub record IsNode (n : NodeView) : Type 0 where
  pub place : LocalNodeFits n.place
  pub state : NodeFits n.place n.state
  pub rows : RowsFit n.place n.state

-- the rule of an input
abbrev pub answer_to : NodeView → Input → Answer
answer_to n (Message u m) = on_message n.place n.state u m
answer_to n (Desk item) = on_item n.place n.state item
answer_to n Tick = on_tick n.place n.state
answer_to n (Learn row) = on_row n.place n.state row

-- the node after it
abbrev pub stepped : NodeView → Input → NodeView
stepped n i = record { place = n.place; state = changed n.state (answer_to n i) }

-- the node without the row that it learnt last
abbrev pub without_last : NodeView → NodeView
without_last n = record {
  place = n.place;
  state = record n.state { learnt = take (length n.state.learnt - 1) n.state.learnt };
}

-- an input that may come to the node: any, but of rows those alone that it may learn
abbrev pub MayTake : NodeView → Input → Type 0
MayTake n (Message u m) = Unit {0}
MayTake n (Desk item) = Unit {0}
MayTake n Tick = Unit {0}
MayTake n (Learn row) = MayLearn n.place n.state row

-- this is what the node answers to some input that may come
abbrev pub IsAnswerOf : NodeView → Answer → Type 0
IsAnswerOf n a = (i : Input) × MayTake n i × (a ≡ answer_to n i)

-- a message that can be passed on, or another input: what it makes the node send can be written
abbrev pub IsWritableInput : Input → Type 0
IsWritableInput (Message u m) = CanBePassedOn m
IsWritableInput (Desk item) = Unit {0}
IsWritableInput Tick = Unit {0}
IsWritableInput (Learn row) = Unit {0}
