-- What a Resv that a leg waits for, and a PathErr with Path_State_Removed, do to the leg at a node of these tables.
-- What becomes of the call at the ingress isn't told here: it's as at a node without calls.
use Rattle.std.specs.Prelude.{ℕ, ◌&&◌, Bool, false, List, Option, Some, None, if◌then◌else◌}
use Rattle.ason_base.specs.{declared.ids.NodeId.NodeId, declared.messages.Msg.Msg, declared.messages.Msg.TheVariants.{Path, Resv, PathTear, PathErr, Notify}, declared.tables.Leg.Leg}
use Rattle.mesh_rules.specs.{declared.arrivals.Arrival.Arrival, declared.arrivals.GivenLabel.GivenLabel, declared.neighbours.Neighbour.Neighbour, Changes.{Answer, nothing}, Legs.{find_leg, following, is_asked, is_node, previous}, Messages.arrival, PathErrs.{PathFailure, err_passed, removed}, Resvs.{answered, is_expected, labels_left}, State.new_node}
use Rattle.leg_table.specs.{States.{legs_state, local_of}, Tables.{LegTable, begins_here}}

-- the labels that may go back to this neighbour
abbrev pub left_here : LegTable → Leg → Neighbour → List ℕ
left_here t g h = labels_left (local_of t) (legs_state t) g h

abbrev pub resv_answered_here : LegTable → Arrival → ℕ → Leg → Answer
resv_answered_here t a x g = answered (local_of t) (legs_state t) a x g (previous g)

-- of a leg with this previous node, at a node without calls
abbrev pub err_passed_here : Leg → PathFailure → Answer
err_passed_here g e = err_passed new_node g e (previous g)

abbrev pub removed_here : Leg → PathFailure → Answer
removed_here g e = removed new_node g e

-- the leg waits for the Resv
abbrev pub resv_taken : LegTable → Arrival → ℕ → Option Leg → Answer
resv_taken t a x None = nothing
resv_taken t a x (Some g) = if is_expected a x g then resv_answered_here t a x g else nothing

abbrev pub resv_here : LegTable → Arrival → ℕ → Answer
resv_here t a x = resv_taken t a x (find_leg a.lsp t.legs)

-- the PathErr tells that the state was removed, and comes from the leg's next node
abbrev pub err_taken : NodeId → PathFailure → Option Leg → Answer
err_taken u e None = nothing
err_taken u e (Some g) = if e.removed && is_node (following g) u then removed_here g e else nothing

abbrev pub err_here : LegTable → NodeId → PathFailure → Answer
err_here t u e = err_taken u e (find_leg e.lsp t.legs)

-- what a PathErr says; a message of another kind says nothing of it
abbrev pub path_failure : Msg → Option PathFailure
path_failure (Path l e k route set up r) = None
path_failure (Resv l e k x) = None
path_failure (PathTear l e k) = None
path_failure (PathErr l e at gone code) =
    Some (record { lsp = l; msg = PathErr l e at gone code; removed = gone; code = code })
path_failure (Notify l e at k code) = None

-- Where the call follows

-- the leg takes the Resv, and its LSP begins here
abbrev pub connects_leg : Arrival → ℕ → Option Leg → Bool
connects_leg a x None = false
connects_leg a x (Some g) = is_expected a x g && begins_here g

abbrev pub resv_by : LegTable → GivenLabel → Answer
resv_by t given = resv_here t given.arrival given.label

abbrev pub connects_by : LegTable → GivenLabel → Bool
connects_by t given = connects_leg given.arrival given.label (find_leg given.arrival.lsp t.legs)

-- the PathErr takes the Asked leg away, and its LSP begins here
abbrev pub refuses_leg : NodeId → PathFailure → Option Leg → Bool
refuses_leg u e None = false
refuses_leg u e (Some g) = (e.removed && is_node (following g) u) && (is_asked g.phase && begins_here g)

abbrev pub refuses_by : LegTable → NodeId → PathFailure → Bool
refuses_by t u e = refuses_leg u e (find_leg e.lsp t.legs)

-- a message of another kind connects none
abbrev pub connects : LegTable → NodeId → Msg → Bool
connects t u (Path l e k route set up r) = false
connects t u (Resv l e k x) = connects_leg (arrival l e u k) x (find_leg l t.legs)
connects t u (PathTear l e k) = false
connects t u (PathErr l e at gone code) = false
connects t u (Notify l e at k code) = false

-- likewise
abbrev pub refuses : LegTable → NodeId → Msg → Bool
refuses t u (Path l e k route set up r) = false
refuses t u (Resv l e k x) = false
refuses t u (PathTear l e k) = false
refuses t u (PathErr l e at gone code) =
    refuses_leg u (record { lsp = l; msg = PathErr l e at gone code; removed = gone; code = code }) (find_leg l t.legs)
refuses t u (Notify l e at k code) = false

-- What is answered

-- a message of another kind does nothing
abbrev pub resv_answer : LegTable → NodeId → Msg → Answer
resv_answer t u (Path l e k route set up r) = nothing
resv_answer t u (Resv l e k x) = resv_here t (arrival l e u k) x
resv_answer t u (PathTear l e k) = nothing
resv_answer t u (PathErr l e at gone code) = nothing
resv_answer t u (Notify l e at k code) = nothing

-- likewise
abbrev pub path_err_answer : LegTable → NodeId → Msg → Answer
path_err_answer t u (Path l e k route set up r) = nothing
path_err_answer t u (Resv l e k x) = nothing
path_err_answer t u (PathTear l e k) = nothing
path_err_answer t u (PathErr l e at gone code) =
    err_here t u (record { lsp = l; msg = PathErr l e at gone code; removed = gone; code = code })
path_err_answer t u (Notify l e at k code) = nothing
