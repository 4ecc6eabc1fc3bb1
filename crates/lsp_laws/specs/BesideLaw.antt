-- In every state of every run the route of a backup stands beside that of the working LSP that it guards (RFC 4872,
-- section 8): no link and no SRLG is on both.
use Rattle.std.specs.Prelude.{◌≡◌, ℕ, List, Some, IsTrue, All}
use Rattle.ason_base.specs.{declared.ids.Lsp.Lsp, declared.ids.NodeId.NodeId, declared.steps.Step.Step, declared.messages.PathRole.PathRole, declared.messages.PathRole.TheVariants.{Work, Back}, declared.tables.CallRec.CallRec, declared.tables.Leg.Leg, Network.Network, Routes.is_beside}
use Rattle.ason_base.specs.declared.calls.Role.TheVariants as role
use Rattle.mesh_rules.specs.{declared.events.MeshEvent.MeshEvent, Machine.start, Events.{IsRun, after, route_of}, Pairs.beside_lsp}

-- Of a working LSP and of its backup each was sent by its ingress over a route. The backup's leads to the node e, is
-- risk-disjoint from the other, and shares no node with it between the ends.
pub record GoBeside (t : Network) (events : List MeshEvent) (e : NodeId) (work back : Lsp) : Type 0 where
  pub primary : List Step
  pub backup : List Step
  pub work_sent : route_of t start events work ≡ Some primary
  pub back_sent : route_of t start events back ≡ Some backup
  pub beside : IsTrue (is_beside t back.ingress e (Some primary) backup)

-- with the working LSP that the leg's Path names
abbrev pub LegGoesBeside : Network → List MeshEvent → Leg → PathRole → Type 0
LegGoesBeside t events g (Work guard) = ⊥
LegGoesBeside t events g (Back active work primary) = GoBeside t events g.egress (beside_lsp g.lsp work) g.lsp

-- with the working LSP of the call
abbrev pub CallGoesBeside : Network → List MeshEvent → CallRec → Type 0
CallGoesBeside t events c = (w b : Lsp) → c.work ≡ Some w → c.back ≡ Some b → GoBeside t events c.egress w b

-- at each node, each leg of a backup, also where its working LSP is gone, and each call that has a backup
pub record BackupsGoBeside (t : Network) (events : List MeshEvent) : Type 0 where
  pub legs : (n : ℕ) → All (λ g. g.role ≡ role.Back → LegGoesBeside t events g g.path_role)
      ((after t start events).nodes n).legs
  pub calls : (n : ℕ) → All (CallGoesBeside t events) ((after t start events).nodes n).calls

-- over every network and every run
abbrev pub EveryBackupGoesBeside : Type 0
EveryBackupGoesBeside =
    (t : Network) (events : List MeshEvent) → IsRun t start events → BackupsGoBeside t events
