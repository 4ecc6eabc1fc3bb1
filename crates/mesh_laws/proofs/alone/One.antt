-- One group as a list of groups: what concerns one of the list concerns it.
use Rattle.std.proofs.Common.{◌≡◌, Bool, true, false, List, [], ◌∷◌, refl, sym, subst, Contains}
use Rattle.std.specs.Prelude.{◌||◌, None}
use Rattle.ason_base.specs.{Network.Network, Risks.has_risk, declared.commands.Command.TheVariants.Fail, declared.commands.DeskItem.DeskItem, declared.commands.DeskItem.TheVariants.{Order, Alarm, Clear}, declared.commands.Group.Group, declared.ids.Fibre.Fibre, declared.ids.NodeId.NodeId, declared.messages.Msg.Msg, declared.messages.Msg.TheVariants.{Path, Resv, PathErr, Notify}, declared.messages.PathRole.TheVariants.Back, declared.steps.Step.Step, declared.tables.CallRec.CallRec, declared.tables.Leg.Leg}
use Rattle.ason_base.proofs.{RiskOrder.has_risk-contains, Bools.or-first, Members.{contains-head, all-then}}
use Rattle.mesh_rules.specs.{declared.events.MeshEvent.MeshEvent, declared.events.MeshEvent.TheVariants.Post, Legs.connected, Machine.Mesh, State.NodeState}
use Rattle.lsp_laws.proofs.nodes.Facts.{SharesAll}
use Rattle.mesh_laws.specs.AloneLaw.{AllConcern, is_on_link, is_on_route, risk_of, CallConcerns as OneCall, FailsOnly as OneFails, FibreConcerns as OneFibre, ItemConcerns as OneItem, LegConcerns as OneLeg, MsgConcerns as OneMsg}
use Rattle.mesh_laws.proofs.{alone.Facts.{MsgKnows, LspRoutes}, alone.Fine.{CallHolds, MeshHolds}, alone.Groups.{CallConcernsGroups, FailsOnlyGroups, FibreConcernsGroups, ItemConcernsGroups, LegConcernsGroups, MsgConcernsGroups, any_on_route as is_some_on_route}, alone.Legs.{IsLegAlone, MsgApart}, alone.RouteRisks.only-one}

-- and that list has it
pub is-only : (g h : Group) → h ≡ g → Contains (g ∷ []) h
is-only g h is = subst (Contains (g ∷ [])) (sym is) (contains-head g [])

route-one : (t : Network) (g : Group) (route : List Step) → is_some_on_route t (g ∷ []) route ≡ true →
    is_on_route t g route ≡ true
route-one t g [] e = e
route-one t g (hop ∷ route) e = go (is_on_link t g hop.link) (is_some_on_route t (g ∷ []) route) e (route-one t g route)
  where
    go : (a b : Bool) → ((a || false) || b) ≡ true → (b ≡ true → is_on_route t g route ≡ true) →
        (a || is_on_route t g route) ≡ true
    go true b e later = refl
    go false b e later = later e

module _ (t : Network) (g : Group) where
  leg-one : (b : Leg) → LegConcernsGroups (g ∷ []) b → OneLeg g b
  leg-one b holds mark = or-first (has_risk b.risks (risk_of g)) (holds mark)

  fibre-one : (f : Fibre) → FibreConcernsGroups t (g ∷ []) f → OneFibre t g f
  fibre-one f holds = or-first (is_on_link t g f.link) holds

  -- no call is stuck
  call-one : (c : CallRec) → CallConcernsGroups t (g ∷ []) c → OneCall t g c
  call-one c holds = record {
    work_reports = all-then (FibreConcernsGroups t (g ∷ [])) (OneFibre t g) c.work_reports fibre-one holds.work_reports;
    back_reports = all-then (FibreConcernsGroups t (g ∷ [])) (OneFibre t g) c.back_reports fibre-one holds.back_reports;
    free = λ e. (let many = holds.free e in cc many);
  }

  msg-one : (m : Msg) → MsgConcernsGroups t (g ∷ []) m → OneMsg t g m
  msg-one (Path l e k route set up (Back true work primary)) holds = route-one t g primary holds
  msg-one (Path l e k route set up (Back false work primary)) holds = tt
  msg-one (PathErr l e at false code) holds = absurd holds
  msg-one (Notify l e at k code) holds = or-first (is_on_link t g k) holds
  msg-one _ holds = tt

  item-one : (i : DeskItem) → ItemConcernsGroups t (g ∷ []) i → OneItem t g i
  item-one (Order c) holds = tt
  item-one (Alarm f) holds = fibre-one f holds
  item-one (Clear f) holds = fibre-one f holds

  -- in the words of the law
  pub mesh-one : (o : LspRoutes) (s : Mesh) → MeshHolds t (g ∷ []) o s → AllConcern t g s
  mesh-one o s holds = record {
    nodes = λ n. record {
      legs = all-then (LegConcernsGroups (g ∷ [])) (OneLeg g) (s.nodes n).legs leg-one (holds.nodes n).legs;
      calls = all-then (CallHolds t (g ∷ []) o) (OneCall t g) (s.nodes n).calls (λ c h. call-one c h.concerns)
          (holds.nodes n).calls;
      down = all-then (FibreConcernsGroups t (g ∷ [])) (OneFibre t g) (s.nodes n).down fibre-one (holds.nodes n).down;
    };
    desks = λ n. all-then (ItemConcernsGroups t (g ∷ [])) (OneItem t g) (s.desks n) item-one (holds.desks n);
    mail = λ u d. all-then (MsgConcernsGroups t (g ∷ [])) (OneMsg t g) (s.mail u d) msg-one (holds.mail u d);
    failed = all-then (Contains (g ∷ [])) (λ h. h ≡ g) s.failed (only-one g) holds.failed;
  }

-- the one group alone fails
pub fails-one : (g : Group) (e : MeshEvent) → OneFails g e → FailsOnlyGroups (g ∷ []) e
fails-one g (Post (Fail h)) only = is-only g h only
fails-one g _ only = tt

-- backups that share a label record risks apart, so at most one of them records the group
pub shares-alone : (g : Group) (legs : List Leg) (b : Leg) → SharesAll legs b → IsLegAlone (g ∷ []) legs b
shares-alone g legs b shares f x m h apart at_m this that back_b back_h has_b has_h =
    (shares f x m h apart at_m this that).apart (risk_of g)
    (has_risk-contains b.risks (risk_of g) (or-first (has_risk b.risks (risk_of g)) has_b))
    (has_risk-contains h.risks (risk_of g) (or-first (has_risk h.risks (risk_of g)) has_h))

pub msg-alone : (t : Network) (g : Group) (s : NodeState) (u : NodeId) (m : Msg) → MsgKnows t s u m →
    MsgApart (g ∷ []) s.legs u m
msg-alone t g s u (Resv l e k x) its =
    λ b found asked over. shares-alone g s.legs (connected b None x) (its b found over)
msg-alone t g s u _ its = tt
