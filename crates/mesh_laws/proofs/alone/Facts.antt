-- What the laws of every run tell of a state, as far as an activation needs it. o is the whole route that each LSP's
-- ingress sent it on first.
use Rattle.std.proofs.Common.{◌≡◌, true, false, List, ◌∷◌}
use Rattle.std.specs.{Prelude.{Option, Some, None}, List.AllByRecursion}
use Rattle.ason_base.specs.{Network.Network, Risks.route_risks, Routes.routes_share_risk, declared.ids.Lsp.Lsp, declared.ids.NodeId.NodeId, declared.calls.CallState.TheVariants.Stuck, declared.messages.Msg.Msg, declared.messages.Msg.TheVariants.{Path, Resv, PathTear, PathErr, Notify}, declared.messages.PathRole.PathRole, declared.messages.PathRole.TheVariants.{Work, Back}, declared.steps.Step.Step, declared.tables.CallRec.CallRec, declared.tables.Leg.Leg}
use Rattle.ason_base.specs.declared.calls.Role.TheVariants as role
use Rattle.mesh_rules.specs.{Legs.{connected, find_leg, following, is_over, previous}, LocalNodes.{LocalNode, local_node}, Machine.Mesh, Pairs.{beside_lsp, route_from}, State.NodeState, Turns.has_any}
use Rattle.mesh_nodes.specs.Order.{LegsRise}
use Rattle.lsp_laws.specs.{CallLaw.GuardsWork, RiskLaw.rows_of}
use Rattle.lsp_laws.proofs.nodes.Facts.{SharesAll}

abbrev pub LspRoutes : Type 0
LspRoutes = Lsp → Option (List Step)

-- One node

-- the leg's Path bears the route of the working LSP that it names, and the leg records the risks of it
abbrev pub RecordsRoute : Network → LspRoutes → Leg → PathRole → Type 0
RecordsRoute t o b (Work guard) = ⊥
RecordsRoute t o b (Back active work primary) =
    (o (beside_lsp b.lsp work) ≡ Some primary) × (b.risks ≡ route_risks (rows_of t) primary)

-- a call whose legs begin at a node with these legs
pub record CallKnows (t : Network) (o : LspRoutes) (legs : List Leg) (c : CallRec) : Type 0 where
  pub work_role : (w : Lsp) (b : Leg) → c.work ≡ Some w → find_leg w legs ≡ Some b → b.role ≡ role.Work
  pub back_role : (l : Lsp) (b : Leg) → c.back ≡ Some l → find_leg l legs ≡ Some b → b.role ≡ role.Back
  pub guards : (w l : Lsp) (b : Leg) → c.work ≡ Some w → c.back ≡ Some l → find_leg l legs ≡ Some b →
      GuardsWork w l b.path_role
  pub apart : (w l : Lsp) (primary backup : List Step) → c.work ≡ Some w → c.back ≡ Some l → o w ≡ Some primary →
      o l ≡ Some backup → routes_share_risk t primary backup ≡ false
  pub stuck : c.state ≡ Stuck → has_any c.work_reports ≡ true

pub record NodeKnows (t : Network) (o : LspRoutes) (p : LocalNode) (s : NodeState) : Type 0 where
  pub rise : LegsRise s.legs
  pub shares : (l : Lsp) (b : Leg) → find_leg l s.legs ≡ Some b → SharesAll s.legs b
  pub records : (l : Lsp) (b : Leg) → find_leg l s.legs ≡ Some b → b.role ≡ role.Back → RecordsRoute t o b b.path_role
  -- an LSP that begins here was sent on the route that its leg has
  pub begins : (l : Lsp) (b : Leg) → find_leg l s.legs ≡ Some b → previous b ≡ None → o b.lsp ≡ Some (route_from p b)
  pub calls : AllByRecursion (CallKnows t o s.legs) s.calls

-- The first message on a way

-- a Path that activates bears the route whose risks the backup's leg records; u is the node that it comes from
abbrev pub RoleKnows : Network → NodeState → Lsp → PathRole → Type 0
RoleKnows t s l (Work guard) = Unit {0}
RoleKnows t s l (Back true work primary) =
    (b : Leg) → find_leg l s.legs ≡ Some b → b.role ≡ role.Back → b.risks ≡ route_risks (rows_of t) primary
RoleKnows t s l (Back false work primary) = Unit {0}

-- and the leg with the label of a Resv shares that, where the Resv comes over its link
abbrev pub MsgKnows : Network → NodeState → NodeId → Msg → Type 0
MsgKnows t s u (Path l e k route set up r) = RoleKnows t s l r
MsgKnows t s u (Resv l e k x) =
    (b : Leg) → find_leg l s.legs ≡ Some b → is_over (following b) u k ≡ true → SharesAll s.legs (connected b None x)
MsgKnows t s u (PathTear l e k) = Unit {0}
MsgKnows t s u (PathErr l e at gone code) = Unit {0}
MsgKnows t s u (Notify l e at k code) = Unit {0}

-- The mesh

pub record MeshKnows (t : Network) (o : LspRoutes) (s : Mesh) : Type 0 where
  pub nodes : (n : NodeId) → NodeKnows t o (local_node t n) (s.nodes n.0)
  pub firsts : (u d : NodeId) (m : Msg) (ms : List Msg) → s.mail u.0 d.0 ≡ m ∷ ms →
      MsgKnows t (s.nodes d.0) u m
