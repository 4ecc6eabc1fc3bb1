-- What becomes of a leg by a message, and at the ingress what becomes of its call then.
use Rattle.std.specs.Prelude.{ℕ, Bool, Option, Some, None, if◌then◌else◌}
use Rattle.ason_base.specs.{declared.calls.Phase.TheVariants.{Held, Live}, declared.codes.ErrCode.ErrCode, declared.ids.Lsp.Lsp, declared.ids.NodeId.NodeId, declared.messages.Msg.Msg, declared.messages.PathRole.PathRole, declared.tables.Leg.Leg}
use Rattle.mesh_rules.specs.{Changes.{Answer, followed_by, nothing}, Legs.{connected, find_leg, is_armed, with_phase}, Paths.is_active}
use Rattle.leg_table.specs.Tables.{CallTable, LegTable}
use Rattle.activation.specs.Answers.{activate_answer, busy_answer, carries, connect_answer, contends, take_back_answer}
use Rattle.notify.specs.Answers.{pass_answer, reports}
use Rattle.path_state.specs.Answers.{path_answer}
use Rattle.resv_state.specs.Answers.{connects, path_err_answer, refuses, resv_answer}
use Rattle.call_control.specs.Rules.{answered_here, contended_here, call_refused_here, reported_here, turned_here}

abbrev pub followed_if : Bool → Answer → Answer → Answer
followed_if b a after = if b then followed_by a after else a

-- Paths

abbrev pub path_at : LegTable → NodeId → PathRole → Msg → Option Leg → Answer
path_at t u r m None = path_answer t u m
path_at t u r m (Some g) = if is_active r then activate_answer t u m else take_back_answer t u m

-- a Path makes a leg where none of its LSP stands, and may activate the one that does, or take its activation back
abbrev pub path_followed : LegTable → NodeId → Lsp → PathRole → Msg → Answer
path_followed t u l r m = path_at t u r m (find_leg l t.legs)

-- Resvs

-- where the Resv gives an LSP that begins here its labels, its call follows
abbrev pub connection_followed : LegTable → CallTable → NodeId → ℕ → Msg → Leg → Answer
connection_followed t c u x m g =
    followed_if (connects t u m) (resv_answer t u m) (answered_here t c (connected g None x))

-- where the Resv tells that a backup which begins here is activated, its call follows
abbrev pub activation_followed : LegTable → CallTable → NodeId → Msg → Leg → Answer
activation_followed t c u m g =
    followed_if (carries t u m) (connect_answer t u m) (turned_here t c (with_phase Live g))

abbrev pub resv_at : LegTable → CallTable → NodeId → ℕ → Msg → Option Leg → Answer
resv_at t c u x m None = nothing
resv_at t c u x m (Some g) =
    if is_armed g.phase then activation_followed t c u m g else connection_followed t c u x m g

abbrev pub resv_followed : LegTable → CallTable → NodeId → Lsp → ℕ → Msg → Answer
resv_followed t c u l x m = resv_at t c u x m (find_leg l t.legs)

-- PathErrs

-- where the PathErr takes the leg of an LSP that begins here away, its call follows
abbrev pub removal_followed : LegTable → CallTable → NodeId → Lsp → ErrCode → Msg → Answer
removal_followed t c u l code m = followed_if (refuses t u m) (path_err_answer t u m) (call_refused_here t c l code)

abbrev pub busy_at : LegTable → CallTable → NodeId → Msg → Option Leg → Answer
busy_at t c u m None = busy_answer t u m
busy_at t c u m (Some g) =
    followed_if (contends t u m) (busy_answer t u m) (contended_here t c (with_phase Held g))

-- where the PathErr refuses to activate a backup that begins here, its call follows
abbrev pub busy_followed : LegTable → CallTable → NodeId → Lsp → Msg → Answer
busy_followed t c u l m = busy_at t c u m (find_leg l t.legs)

-- Notifies

-- where the LSP begins here its call is told, elsewhere the Notify goes on
abbrev pub notice_followed : LegTable → CallTable → NodeId → Msg → Answer
notice_followed t c u m = if reports t u m then reported_here t c m else pass_answer t u m
