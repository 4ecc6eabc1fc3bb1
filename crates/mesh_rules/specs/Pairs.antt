-- A backup LSP is asked for beside a call's working LSP, which stands (RFC 4872, section 8). p is the node; s is what it
-- keeps; w is the leg of the working LSP, which begins here.
use Rattle.std.specs.Prelude.{ℕ, ◌+◌, nat_lt, Bool, false, List, [], ◌∷◌, drop, Option, Some, None, is_some, if◌then◌else◌}
use Rattle.ason_base.specs.{Risks.unknown_link, declared.ids.Fibre.Fibre, declared.ids.Lsp.Lsp, declared.ids.NodeId.NodeId, declared.steps.Step.Step, declared.network.LinkSpec.LinkSpec, declared.messages.PathRole.PathRole, declared.messages.PathRole.TheVariants.Back, declared.calls.Cause.Cause, Codes.label_code, declared.calls.Cause.TheVariants.{Code, Full, NoBackup, Spent}, declared.tables.CallRec.CallRec, declared.tables.Leg.Leg}
use Rattle.mesh_rules.specs.{declared.limits.TheConstants.LAST_NUMBER, State.NodeState, Changes.{Answer, changes_calls}, Calls.{pairing, unbacked}, FirstLegs.{NewLsp, asks_for, first_back, first_link, is_full, lacks_first_back}, KnownRows.known_rows, LeastRoutes.{Trip, least_backup}, LocalNodes.LocalNode}
use Rattle.mesh_rules.specs.declared.changes.CallChange.TheVariants as call

-- Routes

abbrev pub over_fibre : NodeId → Option Fibre → List Step → List Step
over_fibre n None route = route
over_fibre n (Some f) route = record { node = n; link = f.link } ∷ route

-- the whole route of an LSP whose leg begins here
abbrev pub route_from : LocalNode → Leg → List Step
route_from p w = over_fibre p.id w.out_fibre w.route

abbrev pub given_or_found : Option (List Step) → Option Trip → Option (List Step)
given_or_found (Some route) found = Some route
given_or_found None None = None
given_or_found None (Some r) = Some r.steps

-- the backup route that the call was given, else the least one beside the working route over the links that are known
abbrev pub backup_route : LocalNode → NodeState → CallRec → Leg → Option (List Step)
backup_route p s c w = given_or_found c.backup (least_backup (known_rows p s) (route_from p w) p.id w.egress)

-- Pairing

-- the call stands without a backup, for this cause
abbrev pub leaves_bare : CallRec → Cause → Answer
leaves_bare c cause = changes_calls (call.Put (unbacked c cause) ∷ [])

-- a backup of this number, in the tunnel of the working LSP
abbrev pub beside_lsp : Lsp → ℕ → Lsp
beside_lsp w n = record { ingress = w.ingress; tunnel = w.tunnel; lsp = n }

-- a leg that begins here is two-way where it has a back label in
abbrev pub is_two_way : Leg → Bool
is_two_way w = is_some w.back_in

-- the role of a backup's Path: it names the working LSP and bears that one's route
abbrev pub guarding : LocalNode → Leg → PathRole
guarding p w = Back false w.lsp.lsp (route_from p w)

-- the backup LSP, two-way where the working LSP is
abbrev pub backup_lsp : LocalNode → NodeState → Leg → LinkSpec → List Step → NewLsp
backup_lsp p s w out route = record {
  lsp = beside_lsp w.lsp s.lsp;
  egress = w.egress;
  out = out;
  route = route;
  role = guarding p w;
  back = first_back p s (is_two_way w) (guarding p w) out;
}

abbrev pub begins_backup : LocalNode → NodeState → CallRec → Leg → LinkSpec → List Step → Answer
begins_backup p s c w out route =
    asks_for p s (backup_lsp p s w out route) (pairing c (beside_lsp w.lsp s.lsp))
    (record { tunnel = s.tunnel; lsp = s.lsp + 1 })

abbrev pub admitted_backup : LocalNode → NodeState → CallRec → Leg → LinkSpec → List Step → Answer
admitted_backup p s c w out route =
    if nat_lt LAST_NUMBER s.lsp then leaves_bare c Spent
    else (if is_full s then leaves_bare c Full
    else (if lacks_first_back p s (is_two_way w) (guarding p w) out then leaves_bare c (Code label_code)
    else begins_backup p s c w out route))

abbrev pub over_backup : LocalNode → NodeState → CallRec → Leg → List Step → Option LinkSpec → Answer
over_backup p s c w route None = leaves_bare c NoBackup
over_backup p s c w route (Some out) = admitted_backup p s c w out (drop 1 route)

abbrev pub pair_over : LocalNode → NodeState → CallRec → Leg → Option (List Step) → Answer
pair_over p s c w None = leaves_bare c NoBackup
pair_over p s c w (Some route) = over_backup p s c w route (first_link p route)

-- without a route for it, or where a link of the working route isn't known, there is no backup; else it is asked for
abbrev pub pair : LocalNode → NodeState → CallRec → Leg → Answer
pair p s c w =
    if is_some (unknown_link (known_rows p s) (route_from p w)) then leaves_bare c NoBackup
    else pair_over p s c w (backup_route p s c w)
