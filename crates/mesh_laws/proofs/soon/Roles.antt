-- A call with its two LSPs, and what holds of it in a state of the run since the failure.
use Rattle.std.proofs.Common.{◌≡◌, ◌≤◌, ◌<◌, ℕ, suc, true, false, []}
use Rattle.std.specs.Prelude.{Some, map}
use Rattle.ason_base.specs.{Network.Network, declared.calls.CallState.TheVariants.{Guarded, Turned, Turning}, declared.calls.Phase.TheVariants.Armed, declared.ids.CallNo.CallNo, declared.ids.Lsp.Lsp, declared.ids.NodeId.NodeId, declared.network.LinkSpec.LinkSpec, declared.tables.CallRec.CallRec, declared.tables.Leg.Leg}
use Rattle.mesh_rules.specs.{Calls.{call_with, find_call}, Legs.{is_beyond_asked, is_closing}, Machine.Mesh, Turns.has_any}
use Rattle.lsp_laws.specs.{HopLaw.{leg_at, mail_between}, HopShapes.{ArmedLeg, Contention, leg_kind, msg_kind}, ReportLaw.PlaceTells}
use Rattle.lsp_laws.proofs.{hops.Chain.Chain, hops.Plans.{IsPlanRoute, Plan, hops, link_at, node_at}, hops.Purposes.Purpose}
use Rattle.mesh_laws.proofs.soon.Armed.{HasKind}

-- the state of the call
pub data CallIs (c : CallRec) (armed : Type 0) : Type 0 where
  Waits : c.state ≡ Guarded → has_any c.work_reports ≡ false → CallIs c armed
  IsTurning : c.state ≡ Turning → armed → CallIs c armed
  IsTurned : c.state ≡ Turned → CallIs c armed

-- A call with its ingress, its working LSP and its backup; the link is the one after a place of the working route.
pub record Roles : Type 0 where
  pub call : CallNo
  pub ingress : NodeId
  pub work : Lsp
  pub work_plan : Plan
  pub back : Lsp
  pub back_plan : Plan
  pub place : ℕ
  pub link : LinkSpec

-- what stays the same
pub record Fixed (t : Network) (r : Roles) : Type 0 where
  pub work_route : IsPlanRoute t r.work.ingress r.work_plan
  pub back_route : IsPlanRoute t r.back.ingress r.back_plan
  pub work_first : node_at r.work_plan 0 ≡ r.ingress
  pub back_first : node_at r.back_plan 0 ≡ r.ingress
  pub work_here : r.work.ingress ≡ r.ingress
  pub within : r.place < hops r.work_plan
  pub over : r.link.id ≡ link_at r.work_plan r.place

-- what holds of a state
pub record Scene (t : Network) (r : Roles) (s : Mesh) : Type 0 where
  pub work_for : Purpose
  pub back_for : Purpose
  pub work_chain : Chain t work_for r.work r.work_plan (leg_at s r.work) (mail_between s r.work)
  pub back_chain : Chain t back_for r.back r.back_plan (leg_at s r.back) (mail_between s r.back)
  pub stands : (i : ℕ) → i ≤ hops r.work_plan → (g : Leg) × (leg_at s r.work (node_at r.work_plan i) ≡ Some g) ×
      (is_closing g.phase ≡ false)
  pub reserved : (i : ℕ) → i ≤ hops r.back_plan → (g : Leg) × (leg_at s r.back (node_at r.back_plan i) ≡ Some g) ×
      (is_beyond_asked g.phase ≡ true)
  pub uncontended : (u d : NodeId) → HasKind Contention (map msg_kind (mail_between s r.back u d)) → ⊥
  pub call : CallRec
  pub found : find_call r.call (s.nodes r.ingress.0).calls ≡ Some call
  pub named_work : call_with r.work (s.nodes r.ingress.0).calls ≡ Some call
  pub named_back : call_with r.back (s.nodes r.ingress.0).calls ≡ Some call
  pub is_work : call.work ≡ Some r.work
  pub unhit : call.back_reports ≡ []
  pub is : CallIs call (leg_kind (leg_at s r.back (node_at r.back_plan 0)) ≡ ArmedLeg)
  pub turning : (g : Leg) → leg_at s r.back (node_at r.back_plan 0) ≡ Some g → g.phase ≡ Armed → call.state ≡ Turning
  pub tells : PlaceTells s r.work r.work_plan.route r.work_plan.egress r.place r.link
      (node_at r.work_plan (suc r.place))
