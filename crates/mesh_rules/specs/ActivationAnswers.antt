-- The answers to a Path that activates: a Resv at an Armed leg, and a PathErr without Path_State_Removed (RFC 4872,
-- section 8). s is what the node keeps; g is the leg.
use Rattle.std.specs.Prelude.{ℕ, ◌&&◌, Bool, [], ◌∷◌, Option, Some, None, if◌then◌else◌}
use Rattle.ason_base.specs.{declared.calls.Phase.TheVariants.{Held, Live}, declared.messages.Msg.Msg, declared.tables.Leg.Leg}
use Rattle.mesh_rules.specs.{declared.arrivals.Arrival.Arrival, declared.neighbours.Neighbour.Neighbour, State.NodeState, Activations.resv_to, Calls.call_with, CallSteps.{call_contended, call_turned}, Changes.{Answer, nothing, followed_by, puts, to_node}, Legs.{following, is_armed, is_label, is_over, previous, with_phase}}

-- A Resv

-- an Armed leg takes it from its next node, over its outgoing link, with its label out
abbrev pub is_confirmed : Arrival → ℕ → Leg → Bool
is_confirmed a x g = is_armed g.phase && (is_over (following g) a.from a.link && is_label g.out_label x)

-- the leg is Live; at the ingress the call follows, elsewhere a Resv goes back
abbrev pub confirmed : NodeState → Leg → Option Neighbour → Answer
confirmed s g None =
    followed_by (puts (with_phase Live g) []) (call_turned s (with_phase Live g) (call_with g.lsp s.calls))
confirmed s g (Some h) = puts (with_phase Live g) (resv_to g (Some h) g.in_label)

abbrev pub resv_again : NodeState → Arrival → ℕ → Leg → Answer
resv_again s a x g = if is_confirmed a x g then confirmed s g (previous g) else nothing

-- A PathErr

-- the leg is Held again; at the ingress the call follows, elsewhere the PathErr is passed back unchanged
abbrev pub disarmed : NodeState → Leg → Msg → Option Neighbour → Answer
disarmed s g m None =
    followed_by (puts (with_phase Held g) []) (call_contended s (with_phase Held g) (call_with g.lsp s.calls))
disarmed s g m (Some h) = puts (with_phase Held g) (to_node h.node m ∷ [])

abbrev pub contended : NodeState → Leg → Msg → Answer
contended s g m = if is_armed g.phase then disarmed s g m (previous g) else nothing
