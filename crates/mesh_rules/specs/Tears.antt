-- A PathTear (RFC 2205, section 3.1.5), which the node confirms by a PathErr with Path_State_Removed.
use Rattle.std.specs.Prelude.{◌&&◌, true, not, [], ◌∷◌, Option, Some, None, if◌then◌else◌}
use Rattle.ason_base.specs.{Codes.torn_code, declared.messages.Msg.TheVariants.{PathTear, PathErr}, declared.tables.Leg.Leg, declared.tables.Out.Out}
use Rattle.mesh_rules.specs.{declared.arrivals.Arrival.Arrival, declared.neighbours.Neighbour.Neighbour, State.NodeState, Changes.{Answer, nothing, puts, removes, to_node}, LocalNodes.LocalNode, Legs.{find_leg, is_closing, closed, previous, following, is_over}}

-- the previous node has its answer; the next node is told, and the leg waits for it; at the egress the leg goes at once
abbrev pub torn : Leg → Out → Option Neighbour → Answer
torn g answer None = removes g.lsp (answer ∷ [])
torn g answer (Some h) = puts (closed g) (answer ∷ to_node h.node (PathTear g.lsp g.egress h.fibre.link) ∷ [])

abbrev pub tear_with : LocalNode → Arrival → Option Leg → Answer
tear_with p a None = nothing
tear_with p a (Some g) =
    if not (is_closing g.phase) && is_over (previous g) a.from a.link
    then torn g (to_node a.from (PathErr g.lsp g.egress p.id true torn_code)) (following g)
    else nothing

abbrev pub on_tear : LocalNode → NodeState → Arrival → Answer
on_tear p s a = tear_with p a (find_leg a.lsp s.legs)
