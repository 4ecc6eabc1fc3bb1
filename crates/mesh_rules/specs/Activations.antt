-- A Path of a backup LSP whose leg stands: it is activated (RFC 4872, section 8). p is the node; s is what it keeps;
-- g is the leg.
use Rattle.std.specs.Prelude.{ℕ, ◌&&◌, true, false, List, [], ◌∷◌, Option, Some, None, if◌then◌else◌}
use Rattle.ason_base.specs.{Codes.busy_code, declared.ids.NodeId.NodeId, declared.calls.Phase.TheVariants.{Armed, Held, Live}, declared.messages.Msg.TheVariants.{Path, Resv, PathErr}, declared.messages.PathRole.PathRole, declared.messages.PathRole.TheVariants.{Work, Back}, declared.steps.Step.Step, declared.tables.Leg.Leg, declared.tables.Out.Out}
use Rattle.mesh_rules.specs.{declared.arrivals.Arrival.Arrival, declared.neighbours.Neighbour.Neighbour, State.NodeState, Changes.{Answer, nothing, sends, puts, to_node}, LocalNodes.LocalNode, Legs.{following, is_active_backup, is_contended, is_held, is_over, previous, with_phase}}

-- Messages

-- a Path of the leg, over these steps from the next node on and for this role, with its back label in
abbrev pub path_to : Leg → List Step → PathRole → Neighbour → Out
path_to g route r h = to_node h.node (Path g.lsp g.egress h.fibre.link route g.sent g.back_in r)

-- a Resv with the leg's label in, to the previous node
abbrev pub resv_to : Leg → Option Neighbour → Option ℕ → List Out
resv_to g None x = []
resv_to g (Some h) None = []
resv_to g (Some h) (Some x) = to_node h.node (Resv g.lsp g.egress h.fibre.link x) ∷ []

-- a PathErr without Path_State_Removed: the activation is refused, and the leg stays
abbrev pub busy_to : LocalNode → Leg → NodeId → Out
busy_to p g n = to_node n (PathErr g.lsp g.egress p.id false busy_code)

-- Activation

-- the leg is Armed and the Path goes on as it came, over the steps that are left; at the egress it is Live and a Resv goes
-- back
abbrev pub armed_on : Leg → List Step → PathRole → Option Neighbour → Answer
armed_on g route r None = puts (with_phase Live g) (resv_to g (previous g) g.in_label)
armed_on g route r (Some h) = puts (with_phase Armed g) (path_to g route r h ∷ [])

abbrev pub activated : LocalNode → NodeState → Arrival → List Step → PathRole → Leg → Answer
activated p s a route r g =
    if is_contended s.legs g then sends (busy_to p g a.from ∷ [])
    else armed_on g route r (following g)

-- Taking back

-- the Path that takes the activation back goes on as it came; at the egress none does
abbrev pub taken_on : Leg → List Step → PathRole → Option Neighbour → List Out
taken_on g route r None = []
taken_on g route r (Some h) = path_to g route r h ∷ []

-- the leg is Held again
abbrev pub taken_back : Leg → List Step → PathRole → Answer
taken_back g route r = puts (with_phase Held g) (taken_on g route r (following g))

-- From its previous node a Held leg is activated, and the activation of a backup's leg is taken back. All else changes
-- nothing.
abbrev pub path_again : LocalNode → NodeState → Arrival → List Step → PathRole → Leg → Answer
path_again p s a route (Work guard) g = nothing
path_again p s a route (Back true work primary) g =
    if is_held g.phase && is_over (previous g) a.from a.link then activated p s a route (Back true work primary) g
    else nothing
path_again p s a route (Back false work primary) g =
    if is_active_backup g && is_over (previous g) a.from a.link then taken_back g route (Back false work primary)
    else nothing
