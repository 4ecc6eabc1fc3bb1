-- The release of a call at its ingress (RFC 2205, section 3.1.5).
use Rattle.std.specs.Prelude.{◌==◌, List, [], ◌∷◌, Option, Some, None, if◌then◌else◌}
use Rattle.ason_base.specs.{declared.ids.NodeId.NodeId, declared.ids.CallNo.CallNo, declared.messages.Msg.TheVariants.PathTear, declared.tables.CallRec.CallRec, declared.tables.Leg.Leg, declared.tables.Out.Out}
use Rattle.mesh_rules.specs.declared.changes.CallChange.TheVariants as call
use Rattle.mesh_rules.specs.{declared.neighbours.Neighbour.Neighbour, State.NodeState, Changes.{Answer, nothing, puts, changes_calls, followed_by, to_node}, Calls.find_call, LocalNodes.LocalNode, Legs.{leg_of, closed, following}}

abbrev pub tear_to : Leg → Option Neighbour → List Out
tear_to g None = []
tear_to g (Some h) = to_node h.node (PathTear g.lsp g.egress h.fibre.link) ∷ []

-- an LSP is torn where a leg stands: its leg closes, and the next node is told
abbrev pub tears : Option Leg → Answer
tears None = nothing
tears (Some g) = puts (closed g) (tear_to g (following g))

-- the working LSP is torn, then the backup, and the call goes
abbrev pub releases : NodeState → CallRec → Answer
releases s c =
    followed_by (tears (leg_of c.work s.legs)) (followed_by (tears (leg_of c.back s.legs))
    (changes_calls (call.Goes c.call ∷ [])))

abbrev pub release_with : LocalNode → NodeState → NodeId → Option CallRec → Answer
release_with p s from None = nothing
release_with p s from (Some c) = if from.0 == p.id.0 then releases s c else nothing

abbrev pub on_release : LocalNode → NodeState → CallNo → NodeId → Answer
on_release p s n from = release_with p s from (find_call n s.calls)
