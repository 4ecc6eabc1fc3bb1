-- A Resv (RFC 2205, section 3.1.4; RFC 3473, section 2).
use Rattle.std.specs.Prelude.{ℕ, ◌&&◌, Bool, true, List, [], ◌∷◌, Option, Some, None, if◌then◌else◌}
use Rattle.ason_base.specs.{Codes.label_code, Labels.{has, meet}, declared.messages.Msg.TheVariants.{Resv, PathTear, PathErr}, declared.tables.Leg.Leg}
use Rattle.mesh_rules.specs.{declared.arrivals.Arrival.Arrival, declared.neighbours.Neighbour.Neighbour, State.NodeState, ActivationAnswers.resv_again, Changes.{Answer, nothing, puts, followed_by, to_node}, LocalNodes.LocalNode, Legs.{find_leg, is_asked, closed, connected, label_through, previous, following, is_over, usable}, Calls.call_with, CallSteps.call_answered}

-- a Resv is taken by an Asked leg, from its next node, over its outgoing link, with a label of the set that was sent on
abbrev pub is_expected : Arrival → ℕ → Leg → Bool
is_expected a x g = is_asked g.phase && (is_over (following g) a.from a.link && has g.sent x)

-- no label is left: the LSP is torn towards the egress, and the ingress is told
abbrev pub torn_both_ways : LocalNode → Arrival → Leg → Neighbour → Answer
torn_both_ways p a g h =
    puts (closed g)
    (to_node a.from (PathTear g.lsp g.egress a.link) ∷ to_node h.node
    (PathErr g.lsp g.egress p.id true label_code) ∷ [])

-- the label x came, and y goes back
abbrev pub label_passed : Leg → Neighbour → ℕ → ℕ → Answer
label_passed g h x y = puts (connected g (Some y) x) (to_node h.node (Resv g.lsp g.egress h.fibre.link y) ∷ [])

abbrev pub passed_back : LocalNode → Arrival → Leg → Neighbour → ℕ → Option ℕ → Answer
passed_back p a g h x None = torn_both_ways p a g h
passed_back p a g h x (Some y) = label_passed g h x y

-- at the ingress the call follows
abbrev pub connected_here : LocalNode → NodeState → ℕ → Leg → Answer
connected_here p s x g =
    followed_by (puts (connected g None x) []) (call_answered p s (connected g None x) (call_with g.lsp s.calls))

-- the labels that may go back: those that were offered and are usable now
abbrev pub labels_left : LocalNode → NodeState → Leg → Neighbour → List ℕ
labels_left p s g h = meet g.offered (usable p s.legs g.role g.risks h.fibre)

abbrev pub answered : LocalNode → NodeState → Arrival → ℕ → Leg → Option Neighbour → Answer
answered p s a x g None = connected_here p s x g
answered p s a x g (Some h) = passed_back p a g h x (label_through p (labels_left p s g h) x)

abbrev pub resv_with : LocalNode → NodeState → Arrival → ℕ → Option Leg → Answer
resv_with p s a x None = nothing
resv_with p s a x (Some g) = if is_expected a x g then answered p s a x g (previous g) else resv_again s a x g

abbrev pub on_resv : LocalNode → NodeState → Arrival → ℕ → Answer
on_resv p s a x = resv_with p s a x (find_leg a.lsp s.legs)
