-- What an alarm, a clear and a Notify do at a node of these tables (RFC 3473, section 4.3). What becomes of the call at
-- the ingress isn't told here: it's as at a node without calls.
use Rattle.std.specs.Prelude.{◌&&◌, Bool, false, not, [], ◌∷◌, Option, Some, None, is_some, if◌then◌else◌}
use Rattle.ason_base.specs.{declared.codes.ErrCode.ErrCode, declared.ids.Fibre.Fibre, declared.ids.NodeId.NodeId, declared.messages.Msg.Msg, declared.messages.Msg.TheVariants.{Path, Resv, PathTear, PathErr, Notify}, declared.tables.Leg.Leg}
use Rattle.mesh_rules.specs.{declared.neighbours.Neighbour.Neighbour, Alarms.{on_alarm, on_clear}, Changes.{Answer, nothing, sends, to_node}, Legs.{find_leg, following, is_closing, is_node, previous}, Notifies.on_notify, Reports.reported}
use Rattle.leg_table.specs.{States.{legs_state, local_of}, Tables.{LegTable, begins_here}}

-- Alarms and clears

abbrev pub alarm_answer : LegTable → Fibre → Answer
alarm_answer t f = on_alarm (local_of t) (legs_state t) f

abbrev pub clear_answer : LegTable → Fibre → Answer
clear_answer t f = on_clear (local_of t) (legs_state t) f

-- Notifies

-- it comes from the next node of a leg that isn't torn, and tells that a fibre went down or came up
abbrev pub takes_notify : NodeId → ErrCode → Leg → Bool
takes_notify u code g = not (is_closing g.phase) && (is_node (following g) u && is_some (reported code))

-- to this previous node, unchanged
abbrev pub passed_to : Msg → Option Neighbour → Answer
passed_to m None = nothing
passed_to m (Some h) = sends (to_node h.node m ∷ [])

abbrev pub notify_passed_back : Leg → Msg → Answer
notify_passed_back g m = passed_to m (previous g)

abbrev pub notify_passed_here : NodeId → ErrCode → Msg → Option Leg → Answer
notify_passed_here u code m None = nothing
notify_passed_here u code m (Some g) = if takes_notify u code g then notify_passed_back g m else nothing

-- the leg takes the Notify, and its LSP begins here
abbrev pub reports_leg : NodeId → ErrCode → Option Leg → Bool
reports_leg u code None = false
reports_leg u code (Some g) = takes_notify u code g && begins_here g

-- Where the call follows

-- a message of another kind reports nothing
abbrev pub reports : LegTable → NodeId → Msg → Bool
reports t u (Path l e k route set up r) = false
reports t u (Resv l e k x) = false
reports t u (PathTear l e k) = false
reports t u (PathErr l e at gone code) = false
reports t u (Notify l e at k code) = reports_leg u code (find_leg l t.legs)

-- What is answered

-- a message of another kind does nothing
abbrev pub pass_answer : LegTable → NodeId → Msg → Answer
pass_answer t u (Path l e k route set up r) = nothing
pass_answer t u (Resv l e k x) = nothing
pass_answer t u (PathTear l e k) = nothing
pass_answer t u (PathErr l e at gone code) = nothing
pass_answer t u (Notify l e at k code) =
    on_notify (local_of t) (legs_state t) u (record {
      lsp = l;
      msg = Notify l e at k code;
      at = at;
      link = k;
      code = code;
    })
