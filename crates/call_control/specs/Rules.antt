-- The rules of calls at an ingress of these tables.
use Rattle.std.specs.Prelude.{[], ◌∷◌, ℕ, Bool, true, false, List, Option, Some, None, if◌then◌else◌}
use Rattle.ason_base.specs.{Codes.label_code, Labels.{least, up_to}, declared.calls.Cause.TheVariants.Code, declared.calls.Role.Role, declared.codes.ErrCode.ErrCode, declared.commands.Command.Command, declared.commands.Command.TheVariants.{Setup, Release, Protect, Retry, Revert, Fail, Repair}, declared.ids.CallNo.CallNo, declared.ids.LinkId.LinkId, declared.ids.Lsp.Lsp, declared.ids.NodeId.NodeId, declared.messages.Msg.Msg, declared.messages.Msg.TheVariants.{Path, Resv, PathTear, PathErr, Notify}, declared.network.LinkSpec.LinkSpec, declared.risks.Risk.Risk, declared.steps.Step.Step, declared.tables.CallRec.CallRec, declared.tables.Leg.Leg}
use Rattle.ason_base.specs.declared.messages.PathRole.TheVariants as path
use Rattle.mesh_rules.specs.{Calls.call_with, CallSteps.{backup_refused, call_answered, call_contended, call_refused, call_turned, work_refused}, Changes.{Answer, nothing, puts}, FirstLegs.{NewLsp, first_leg, first_link, first_path_out, lacks_first_back}, Legs.{find_leg, is_work, reverse, usable}, LocalNodes.fibre_out, Protects.on_protect, Releases.on_release, Reports.{report_here, reported}, Retries.on_retry, Setups.{SetupRequest, admitted_setup, begins, new_call, on_setup, over_first, refused_setup}}
use Rattle.leg_table.specs.{LegClaims.is_fibre_in, States.{local_of, state_of}, Tables.{CallTable, LegTable}}

-- First legs

-- the Path that asks for an LSP
abbrev pub path_for : NewLsp → Msg
path_for n = Path n.lsp n.egress n.out.id n.route (up_to n.out.labels) n.back n.role

-- the fibre that comes back over this link comes in here
abbrev pub comes_back : LegTable → LinkSpec → Bool
comes_back t out = is_fibre_in (local_of t) (reverse (fibre_out out (local_of t).id))

-- the least label of the fibre that comes back over this link which a two-way LSP of this role may take, whose primary
-- has these risks
abbrev pub back_here : LegTable → Bool → Role → List Risk → LinkSpec → Option ℕ
back_here t false role risks out = None
back_here t true role risks out =
    least (usable (local_of t) t.legs role risks (reverse (fibre_out out (local_of t).id)))

-- its leg is put in its place, and the Path is sent
abbrev pub asked_here : LegTable → NewLsp → Answer
asked_here t n = puts (first_leg (local_of t) t.rows n) (first_path_out (local_of t) n ∷ [])

-- Setups

-- what a setup asks for
abbrev pub request_of : Command → Option SetupRequest
request_of (Setup n from to protected both via backup) =
    Some
    (record { call = n; from = from; egress = to; protected = protected; both = both; via = via; backup = backup })
request_of (Release n from) = None
request_of (Protect n from) = None
request_of (Retry n from) = None
request_of (Revert n from) = None
request_of (Fail g) = None
request_of (Repair g) = None

abbrev pub setup_here : LegTable → CallTable → SetupRequest → Answer
setup_here t c w = on_setup (local_of t) (state_of t c) w

-- the call without a given route
abbrev pub searched_here : LegTable → CallTable → SetupRequest → Answer
searched_here t c w = new_call (local_of t) (state_of t c) w None

abbrev pub over_here : LegTable → CallTable → SetupRequest → List Step → Answer
over_here t c w route = over_first (local_of t) (state_of t c) w route (first_link (local_of t) route)

-- where numbers and room for a leg are left
abbrev pub labelled_here : LegTable → CallTable → SetupRequest → LinkSpec → List Step → Answer
labelled_here t c w out route =
    if lacks_first_back (local_of t) (state_of t c) w.both (path.Work w.protected) out
    then refused_setup w (Code label_code) else begins (local_of t) (state_of t c) w out route

abbrev pub admitted_here : LegTable → CallTable → SetupRequest → LinkSpec → List Step → Answer
admitted_here t c w out route = admitted_setup (local_of t) (state_of t c) w out route

abbrev pub begun_here : LegTable → CallTable → SetupRequest → LinkSpec → List Step → Answer
begun_here t c w out route = begins (local_of t) (state_of t c) w out route

-- Protect

abbrev pub protect_here : LegTable → CallTable → CallNo → NodeId → Answer
protect_here t c n from = on_protect (local_of t) (state_of t c) n from

-- Retry

abbrev pub retry_here : LegTable → CallTable → CallNo → NodeId → Answer
retry_here t c n from = on_retry (local_of t) (state_of t c) n from

-- After a Resv and a PathErr

-- the call of a leg that has its labels now
abbrev pub answered_here : LegTable → CallTable → Leg → Answer
answered_here t c g = call_answered (local_of t) (state_of t c) g (call_with g.lsp c.calls)

-- the call of a backup that is Live now, from end to end
abbrev pub turned_here : LegTable → CallTable → Leg → Answer
turned_here t c b = call_turned (state_of t c) b (call_with b.lsp c.calls)

-- the call of a backup that is Held again, since a label of it is in use
abbrev pub contended_here : LegTable → CallTable → Leg → Answer
contended_here t c b = call_contended (state_of t c) b (call_with b.lsp c.calls)

-- a call whose LSP of this role is refused
abbrev pub refused_as : ErrCode → Role → CallRec → Answer
refused_as code role c = if is_work role then work_refused code c else backup_refused code c

abbrev pub refused_for : ErrCode → Option CallRec → Option Leg → Answer
refused_for code call None = nothing
refused_for code call (Some g) = call_refused code g call

-- the call of an LSP that is refused
abbrev pub call_refused_here : LegTable → CallTable → Lsp → ErrCode → Answer
call_refused_here t c l code = refused_for code (call_with l c.calls) (find_leg l t.legs)

-- After a Notify

abbrev pub told_here : LegTable → CallTable → NodeId → LinkId → Option Leg → Option Bool → Answer
told_here t c n k None down = nothing
told_here t c n k (Some g) None = nothing
told_here t c n k (Some g) (Some down) = report_here (local_of t) (state_of t c) g n k down

-- what the Notify tells the call of its LSP; a message of another kind does nothing
abbrev pub reported_here : LegTable → CallTable → Msg → Answer
reported_here t c (Path l e k route set up r) = nothing
reported_here t c (Resv l e k x) = nothing
reported_here t c (PathTear l e k) = nothing
reported_here t c (PathErr l e at gone code) = nothing
reported_here t c (Notify l e at k code) = told_here t c at k (find_leg l t.legs) (reported code)

-- Release

abbrev pub release_here : LegTable → CallTable → CallNo → NodeId → Answer
release_here t c n from = on_release (local_of t) (state_of t c) n from
