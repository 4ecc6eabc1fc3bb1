-- A report of a fibre at the ingress of its LSP: what the call knows to be down of its two routes, and what follows (ITU-T
-- G.8080, call control). p is the node; s is what it keeps; g is the leg, which begins here.
use Rattle.std.specs.Prelude.{◌==◌, ◌&&◌, nat_lt, Bool, true, false, List, [], ◌∷◌, ◌++◌, Option, Some, None, if◌then◌else◌}
use Rattle.ason_base.specs.{Codes.{fibre_down_code, fibre_up_code}, Lsps.{has_fibre, is_lsp, without_fibre}, declared.codes.ErrCode.ErrCode, declared.ids.Fibre.Fibre, declared.ids.LinkId.LinkId, declared.ids.Lsp.Lsp, declared.ids.NodeId.NodeId, declared.steps.Step.Step, declared.tables.CallRec.CallRec, declared.tables.Leg.Leg}
use Rattle.mesh_rules.specs.{State.NodeState, Calls.call_with, Changes.{Answer, nothing}, Legs.leg_of, LocalNodes.LocalNode, Pairs.route_from, Turns.{decide, has_any}}

-- What is reported

abbrev pub same_code : ErrCode → ErrCode → Bool
same_code a b = a.code == b.code && a.value == b.value

-- a fibre went down, or came up; another code reports nothing
abbrev pub reported : ErrCode → Option Bool
reported code =
    if same_code code fibre_down_code then Some true else (if same_code code fibre_up_code then Some false else None)

-- the node to which a route goes on
abbrev pub first_node : List Step → NodeId → NodeId
first_node [] e = e
first_node (hop ∷ route) e = hop.node

-- the fibre of a route to e that comes in at the node n over the link k: each step names the node that it leaves, and a
-- link's low end has the lesser number
abbrev pub fibre_into : List Step → NodeId → NodeId → LinkId → Option Fibre
fibre_into [] e n k = None
fibre_into (hop ∷ route) e n k =
    if hop.link.0 == k.0 && (first_node route e).0 == n.0
    then Some (record { link = hop.link; forward = nat_lt hop.node.0 n.0 }) else fibre_into route e n k

-- The report sets

-- with this fibre, once
abbrev pub with_fibre : Fibre → List Fibre → List Fibre
with_fibre f fibres = if has_fibre fibres f then fibres else fibres ++ f ∷ []

abbrev pub fibres_after : Bool → Fibre → List Fibre → List Fibre
fibres_after true f fibres = with_fibre f fibres
fibres_after false f fibres = without_fibre f fibres

-- reports of the working route; a call doesn't wait while it has any
abbrev pub with_work_reports : CallRec → List Fibre → CallRec
with_work_reports c fibres = record c { work_reports = fibres; ticks = if has_any fibres then 0 else c.ticks }

abbrev pub with_back_reports : CallRec → List Fibre → CallRec
with_back_reports c fibres = record c { back_reports = fibres }

-- the fibre is of this LSP, and it went down or came up
abbrev pub with_report : CallRec → Lsp → Bool → Fibre → CallRec
with_report c l down f =
    if is_lsp c.work l then with_work_reports c (fibres_after down f c.work_reports)
    else with_back_reports c (fibres_after down f c.back_reports)

-- What follows

abbrev pub call_reported : NodeState → Lsp → Bool → Fibre → Option CallRec → Answer
call_reported s l down f None = nothing
call_reported s l down f (Some c) = decide s.legs (with_report c l down f) (leg_of c.back s.legs)

-- a report of no fibre of the route changes nothing
abbrev pub reported_on : NodeState → Leg → Bool → Option Fibre → Answer
reported_on s g down None = nothing
reported_on s g down (Some f) = call_reported s g.lsp down f (call_with g.lsp s.calls)

abbrev pub report_here : LocalNode → NodeState → Leg → NodeId → LinkId → Bool → Answer
report_here p s g n k down = reported_on s g down (fibre_into (route_from p g) g.egress n k)
