-- What a node sends.
use Rattle.std.specs.{Prelude.{◌≤◌, List, length, IsTrue}, List.AllByRecursion}
use Rattle.ason_base.specs.{declared.limits.TheConstants.MOST_STEPS, declared.messages.Msg.Msg, declared.messages.Msg.TheVariants.{Path, Resv, PathTear, PathErr, Notify}, declared.tables.Out.Out, Writable.{IsWritableMsg, IsWritableRole}}
use Rattle.mesh_rules.specs.{Changes.{Answer, changed}, LocalNodes.LocalNode, State.NodeState}
use Rattle.mesh_nodes.specs.{FitNodes.NodeFits, LocalNodes.is_neighbour}

-- all go to neighbours of p
abbrev pub AllToNeighbours : LocalNode → List Out → Type 0
AllToNeighbours p outs = AllByRecursion (λ o. IsTrue (is_neighbour p o.to)) outs

-- What is needed of a message for what it makes a node send to have a written form. The set of a Path may be empty:
-- such a Path is
-- refused, and its set isn't sent.
abbrev pub CanBePassedOn : Msg → Type 0
CanBePassedOn (Path lsp egress link route set upstream role) = (length route ≤ MOST_STEPS) × IsWritableRole role
CanBePassedOn (Resv lsp egress link label) = Unit {0}
CanBePassedOn (PathTear lsp egress link) = Unit {0}
CanBePassedOn (PathErr lsp egress at removed code) = Unit {0}
CanBePassedOn (Notify lsp egress at link code) = Unit {0}

-- all can be written
abbrev pub AllWritable : List Out → Type 0
AllWritable outs = AllByRecursion (λ o. IsWritableMsg o.msg) outs

-- An answer of p, which keeps s: what p keeps after it fits; what is sent goes to neighbours, can be written where the
-- input is
-- such that it can, and is of 65,536 messages at most.
pub record AnswerFits (p : LocalNode) (s : NodeState) (CanBeWritten : Type 0) (a : Answer) : Type 0 where
  pub kept : NodeFits p (changed s a)
  pub near : AllToNeighbours p a.sent
  pub written : CanBeWritten → AllWritable a.sent
  pub few : length a.sent ≤ 65536
