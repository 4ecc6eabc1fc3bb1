-- What is needed of an answer for its messages to be sent.
use Rattle.std.specs.{Prelude.{◌≤◌, length, Option, IfSome}, Option.option_to_list}
use Rattle.ason_base.specs.{declared.messages.Msg.Msg, declared.ids.NodeId.NodeId}
use Rattle.mesh_nodes.specs.{Sent.{AllToNeighbours, AllWritable, CanBePassedOn}, Nodes.NodeView}
use Rattle.mesh_rules.specs.{Changes.Answer, Events.on_first, LocalNodes.LocalNode}

-- its messages go to neighbours, can be written, and are 65,536 at most
pub record CanBeSent (p : LocalNode) (a : Answer) : Type 0 where
  pub near : AllToNeighbours p a.sent
  pub written : AllWritable a.sent
  pub few : length a.sent ≤ 65536

-- the rule of a message that is handed up, if one is
abbrev pub body_answer : NodeView → NodeId → Option Msg → Answer
body_answer n u body = on_first n.place n.state u (option_to_list body)

-- a message that can be passed on, or none
abbrev pub BodyCanBePassedOn : Option Msg → Type 0
BodyCanBePassedOn body = IfSome body CanBePassedOn
