-- A setup at its ingress (ITU-T G.8080, call control). p is the node; s is what it keeps.
use Rattle.std.specs.Prelude.{◌+◌, ◌==◌, ◌&&◌, ◌||◌, nat_lt, Bool, true, not, List, [], ◌∷◌, drop, Option, Some, None, if◌then◌else◌}
use Rattle.ason_base.specs.{declared.ids.NodeId.NodeId, declared.ids.CallNo.CallNo, declared.ids.Lsp.Lsp, declared.steps.Step.Step, declared.network.LinkSpec.LinkSpec, declared.messages.PathRole.TheVariants.Work, declared.calls.CallState.CallState, declared.calls.CallState.TheVariants.{Asking, Blocked}, declared.calls.Cause.Cause, Codes.label_code, declared.calls.Cause.TheVariants.{Unset, NoRoute, Spent, Full, Code}, declared.tables.CallRec.CallRec}
use Rattle.mesh_rules.specs.{declared.limits.TheConstants.LAST_NUMBER, State.NodeState, Changes.{Answer, nothing, changes_calls}, Calls.find_call, FirstLegs.{NewLsp, asks_for, first_back, first_link, is_full, lacks_first_back}, KnownRows.known_rows, LeastRoutes.{Trip, least_trip}, LocalNodes.{LocalNode, is_link_there}}
use Rattle.mesh_rules.specs.declared.changes.CallChange.TheVariants as call

-- what a setup asks for
pub record SetupRequest : Type 0 where
  pub call : CallNo
  pub from : NodeId
  pub egress : NodeId
  pub protected : Bool
  pub both : Bool
  pub via : Option (List Step)
  pub backup : Option (List Step)

abbrev pub call_record : SetupRequest → CallState → Option Lsp → Cause → CallRec
call_record w state work cause = record {
  call = w.call;
  egress = w.egress;
  protected = w.protected;
  backup = w.backup;
  state = state;
  work = work;
  back = None;
  work_reports = [];
  back_reports = [];
  cause = cause;
  ticks = 0;
}

-- the call stands and is refused
abbrev pub refused_setup : SetupRequest → Cause → Answer
refused_setup w cause = changes_calls (call.Put (call_record w Blocked None cause) ∷ [])

abbrev pub next_lsp : LocalNode → NodeState → Lsp
next_lsp p s = record { ingress = p.id; tunnel = s.tunnel; lsp = s.lsp }

-- the working LSP that a setup asks for
abbrev pub working_lsp : LocalNode → NodeState → SetupRequest → LinkSpec → List Step → NewLsp
working_lsp p s w out route =
    record {
      lsp = next_lsp p s;
      egress = w.egress;
      out = out;
      route = route;
      role = Work w.protected;
      back = first_back p s w.both (Work w.protected) out;
    }

-- it is asked for, in a tunnel of its own, and the call waits
abbrev pub begins : LocalNode → NodeState → SetupRequest → LinkSpec → List Step → Answer
begins p s w out route =
    asks_for p s (working_lsp p s w out route) (call_record w Asking (Some (next_lsp p s)) Unset)
    (record { tunnel = s.tunnel + 1; lsp = s.lsp + 1 })

-- no number is left: a tunnel's number is never above the LSP's
abbrev pub is_spent : NodeState → Bool
is_spent s = nat_lt LAST_NUMBER s.lsp || nat_lt LAST_NUMBER s.tunnel

abbrev pub admitted_setup : LocalNode → NodeState → SetupRequest → LinkSpec → List Step → Answer
admitted_setup p s w out route =
    if is_spent s then refused_setup w Spent
    else (if is_full s then refused_setup w Full
    else (if lacks_first_back p s w.both (Work w.protected) out then refused_setup w (Code label_code)
    else begins p s w out route))

-- a route that is given may be followed from here
abbrev pub is_followable : LocalNode → Option (List Step) → Bool
is_followable p None = true
is_followable p (Some route) = is_link_there (first_link p route)

abbrev pub over_first : LocalNode → NodeState → SetupRequest → List Step → Option LinkSpec → Answer
over_first p s w route None = nothing
over_first p s w route (Some out) = admitted_setup p s w out (drop 1 route)

abbrev pub over_found : LocalNode → NodeState → SetupRequest → Option Trip → Answer
over_found p s w None = refused_setup w NoRoute
over_found p s w (Some r) = over_first p s w r.steps (first_link p r.steps)

-- without a given route it goes over the least one that the node finds over the links that it knows
abbrev pub new_call : LocalNode → NodeState → SetupRequest → Option (List Step) → Answer
new_call p s w None = over_found p s w (least_trip (known_rows p s) p.id w.egress)
new_call p s w (Some route) = over_first p s w route (first_link p route)

-- it comes from this ingress to another node, and its backup route can be followed from here
abbrev pub is_order_here : LocalNode → SetupRequest → Bool
is_order_here p w = w.from.0 == p.id.0 && (not (w.egress.0 == p.id.0) && is_followable p w.backup)

-- a setup whose call number is known changes nothing, nor does one that isn't an order for this node
abbrev pub setup_with : LocalNode → NodeState → SetupRequest → Option CallRec → Answer
setup_with p s w (Some c) = nothing
setup_with p s w None = if is_order_here p w then new_call p s w w.via else nothing

abbrev pub on_setup : LocalNode → NodeState → SetupRequest → Answer
on_setup p s w = setup_with p s w (find_call w.call s.calls)
