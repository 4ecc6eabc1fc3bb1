-- How a backup is activated at a node of these tables (RFC 4872, section 8), and how its activation is taken back
-- (reversion: RFC 4427): a Path where the leg stands, a Resv at a leg that is Armed, and a PathErr without
-- Path_State_Removed. What becomes of the call at the ingress isn't told here: it's as at a node without calls.
use Rattle.std.specs.Prelude.{ℕ, ◌&&◌, Bool, false, not, [], ◌∷◌, Option, Some, None, if◌then◌else◌, List, drop}
use Rattle.ason_base.specs.{declared.calls.Phase.TheVariants.Live, declared.ids.NodeId.NodeId, declared.messages.Msg.Msg, declared.messages.Msg.TheVariants.{Path, Resv, PathTear, PathErr, Notify}, declared.messages.PathRole.PathRole, declared.messages.PathRole.TheVariants.{Work, Back}, declared.steps.Step.Step, declared.tables.Leg.Leg}
use Rattle.mesh_rules.specs.{declared.arrivals.Arrival.Arrival, declared.arrivals.GivenLabel.GivenLabel, ActivationAnswers.{contended, disarmed, is_confirmed, resv_again}, Activations.{activated, busy_to, path_again, resv_to}, Changes.{Answer, nothing, puts, sends}, Legs.{find_leg, following, is_armed, is_node, previous, with_phase}, Messages.arrival, Paths.is_active, State.new_node}
use Rattle.leg_table.specs.{States.{legs_state, local_of}, Tables.{LegTable, begins_here}}

-- A Path

-- the activation is refused
abbrev pub busy_here : LegTable → Leg → NodeId → Answer
busy_here t g n = sends (busy_to (local_of t) g n ∷ [])

abbrev pub activated_here : LegTable → Arrival → List Step → PathRole → Leg → Answer
activated_here t a route r g = activated (local_of t) (legs_state t) a route r g

-- a Path of an LSP that has no leg does nothing here
abbrev pub path_taken : LegTable → Arrival → List Step → PathRole → Option Leg → Answer
path_taken t a route r None = nothing
path_taken t a route r (Some g) = path_again (local_of t) (legs_state t) a route r g

abbrev pub activation_path_here : LegTable → Arrival → List Step → PathRole → Answer
activation_path_here t a route r = path_taken t a route r (find_leg a.lsp t.legs)

-- an active Path activates
abbrev pub activating_here : LegTable → Arrival → List Step → PathRole → Answer
activating_here t a route r = if is_active r then activation_path_here t a route r else nothing

-- another takes back
abbrev pub taking_back_here : LegTable → Arrival → List Step → PathRole → Answer
taking_back_here t a route r = if is_active r then nothing else activation_path_here t a route r

-- the Path is of a backup, and doesn't activate it
abbrev pub takes_back : PathRole → Bool
takes_back (Work guard) = false
takes_back (Back active work primary) = not active

-- A Resv

-- the leg is Live, and the Resv goes back; none does where it begins here
abbrev pub live_here : Leg → Answer
live_here g = puts (with_phase Live g) (resv_to g (previous g) g.in_label)

abbrev pub activation_connected_here : Arrival → ℕ → Option Leg → Answer
activation_connected_here a x None = nothing
activation_connected_here a x (Some g) = resv_again new_node a x g

-- an Armed leg takes it, and its LSP begins here
abbrev pub carries_leg : Arrival → ℕ → Option Leg → Bool
carries_leg a x None = false
carries_leg a x (Some g) = is_confirmed a x g && begins_here g

-- of the leg of its LSP
abbrev pub connected_by : LegTable → GivenLabel → Answer
connected_by t given = activation_connected_here given.arrival given.label (find_leg given.arrival.lsp t.legs)

-- A PathErr without Path_State_Removed

abbrev pub disarmed_here : Leg → Msg → Answer
disarmed_here g m = disarmed new_node g m (previous g)

-- it comes from the leg's next node
abbrev pub activation_contended_here : NodeId → Msg → Option Leg → Answer
activation_contended_here u m None = nothing
activation_contended_here u m (Some g) = if is_node (following g) u then contended new_node g m else nothing

-- an Armed leg takes it, and its LSP begins here
abbrev pub contends_leg : NodeId → Option Leg → Bool
contends_leg u None = false
contends_leg u (Some g) = is_node (following g) u && (is_armed g.phase && begins_here g)

-- Where the call follows

-- a message of another kind carries none
abbrev pub carries : LegTable → NodeId → Msg → Bool
carries t u (Path l e k route set up r) = false
carries t u (Resv l e k x) = carries_leg (arrival l e u k) x (find_leg l t.legs)
carries t u (PathTear l e k) = false
carries t u (PathErr l e at gone code) = false
carries t u (Notify l e at k code) = false

-- likewise
abbrev pub contends : LegTable → NodeId → Msg → Bool
contends t u (Path l e k route set up r) = false
contends t u (Resv l e k x) = false
contends t u (PathTear l e k) = false
contends t u (PathErr l e at gone code) = not gone && contends_leg u (find_leg l t.legs)
contends t u (Notify l e at k code) = false

-- What is answered

-- a message of another kind does nothing
abbrev pub activate_answer : LegTable → NodeId → Msg → Answer
activate_answer t u (Path l e k route set up r) = activating_here t (arrival l e u k) (drop 1 route) r
activate_answer t u (Resv l e k x) = nothing
activate_answer t u (PathTear l e k) = nothing
activate_answer t u (PathErr l e at gone code) = nothing
activate_answer t u (Notify l e at k code) = nothing

-- likewise
abbrev pub take_back_answer : LegTable → NodeId → Msg → Answer
take_back_answer t u (Path l e k route set up r) = taking_back_here t (arrival l e u k) (drop 1 route) r
take_back_answer t u (Resv l e k x) = nothing
take_back_answer t u (PathTear l e k) = nothing
take_back_answer t u (PathErr l e at gone code) = nothing
take_back_answer t u (Notify l e at k code) = nothing

-- likewise
abbrev pub connect_answer : LegTable → NodeId → Msg → Answer
connect_answer t u (Path l e k route set up r) = nothing
connect_answer t u (Resv l e k x) = activation_connected_here (arrival l e u k) x (find_leg l t.legs)
connect_answer t u (PathTear l e k) = nothing
connect_answer t u (PathErr l e at gone code) = nothing
connect_answer t u (Notify l e at k code) = nothing

-- likewise
abbrev pub busy_answer : LegTable → NodeId → Msg → Answer
busy_answer t u (Path l e k route set up r) = nothing
busy_answer t u (Resv l e k x) = nothing
busy_answer t u (PathTear l e k) = nothing
busy_answer t u (PathErr l e at gone code) =
    if gone then nothing else activation_contended_here u (PathErr l e at gone code) (find_leg l t.legs)
busy_answer t u (Notify l e at k code) = nothing
