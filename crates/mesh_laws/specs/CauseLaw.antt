-- No refusal without a cause.
use Rattle.std.specs.{Prelude.{◌≡◌, ◌≢◌, ◌≤◌, ◌<◌, ◌⊎◌, ℕ, Bool, true, false, List, [], ◌∷◌, ◌++◌, length, Option, Some, None, IsTrue}, List.Contains}
use Rattle.mesh_rules.specs.{declared.limits.TheConstants.{LAST_NUMBER, MOST_LEGS}, declared.events.MeshEvent.MeshEvent, declared.events.MeshEvent.TheVariants.Take, Calls.find_call, Events.{IsRun, after, route_of, step}, KnownRows.known_rows, Legs.find_leg, LocalNodes.{fibre_in, fibre_out, local_node}, Machine.start, State.NodeState}
use Rattle.ason_base.specs.{Codes.{busy_code, down_code, full_code, label_code, primary_code, set_code}, Labels.has, Network.{IsTopology, Network, touches}, Risks.{have_common, route_risks}, Walks.{IsBackup, IsLeast, IsWalk, NoLink, NoNode}, declared.calls.CallState.TheVariants.{Asking, Bare, Blocked, Pairing}, declared.calls.Cause.Cause, declared.calls.Cause.TheVariants.{Code, Full, NoBackup, NoRoute, Spent}, declared.calls.Phase.TheVariants.{Armed, Falling, Live}, declared.calls.Role.Role, declared.codes.ErrCode.ErrCode, declared.ids.CallNo.CallNo, declared.ids.Fibre.Fibre, declared.ids.LinkId.LinkId, declared.ids.Lsp.Lsp, declared.ids.NodeId.NodeId, declared.messages.Msg.Msg, declared.messages.Msg.TheVariants.{Path, PathErr, Resv}, declared.messages.PathRole.PathRole, declared.messages.PathRole.TheVariants.{Work, Back}, declared.network.LinkSpec.LinkSpec, declared.network.TeRow.TeRow, declared.risks.Risk.Risk, declared.steps.Step.Step, declared.tables.CallRec.CallRec, declared.tables.Leg.Leg}
use Rattle.ason_base.specs.declared.calls.Role.TheVariants as role
use Rattle.lsp_laws.specs.HopLaw.{leg_at}
use Rattle.mesh_laws.specs.RestedLaw.{AreOpposite, Arrives, Leaves}

-- Labels

-- A leg of the node keeps an LSP of this role off the label x of the fibre f: light of x on f arrives at it, and one of
-- the two is a working LSP, or both are backups whose primaries have a risk in common. risks: those of the LSP's
-- primary.
pub record KeepsOff (legs : List Leg) (r : Role) (risks : List Risk) (f : Fibre) (x : ℕ) : Type 0 where
  pub leg : Leg
  pub there : Contains legs leg
  pub arrives : Arrives f x leg
  pub bars : (r ≡ role.Work) ⊎ ((leg.role ≡ role.Work) ⊎ IsTrue (have_common risks leg.risks))

-- for what a Path asks, and the risks of its primary's route over the rows that a node knows

abbrev pub asks_as : PathRole → Role
asks_as (Work guard) = role.Work
asks_as (Back active work primary) = role.Back

abbrev pub risks_of_primary : List TeRow → PathRole → List Risk
risks_of_primary rows (Work guard) = []
risks_of_primary rows (Back active work primary) = route_risks rows primary

abbrev pub PrimaryIsUnknown : List TeRow → PathRole → Type 0
PrimaryIsUnknown rows (Work guard) = ⊥
PrimaryIsUnknown rows (Back active work primary) =
    (hop : Step) × Contains primary hop × ((row : TeRow) → Contains rows row → row.link ≢ hop.link)

-- the link has this number and ends at d
pub record IsLinkAt (t : Network) (d : NodeId) (k : LinkId) (link : LinkSpec) : Type 0 where
  pub there : Contains t.links link
  pub id : link.id ≡ k
  pub ends : IsTrue (touches d link)

-- The refusal of a Path

-- what a first Path asks d for, which came over the link
pub record Asked : Type 0 where
  pub lsp : Lsp
  pub egress : NodeId
  pub link : LinkSpec
  pub route : List Step
  pub set : List ℕ
  pub upstream : Option ℕ
  pub role : PathRole

-- why d refuses it with this code; x: what d keeps
pub data HasCause (t : Network) (x : NodeState) (d : NodeId) (m : Asked) (code : ErrCode) : Type 0 where
  -- d keeps all the legs that it can
  IsFull : code ≡ full_code → MOST_LEGS ≤ length x.legs → HasCause t x d m code
  -- d doesn't know a link of the primary's route, so neither its risks
  IsUnknown : code ≡ primary_code → PrimaryIsUnknown (known_rows (local_node t d) x) m.role → HasCause t x d m code
  -- d knows the fibre that the Path came by to be down
  ComesDown : code ≡ down_code → Contains x.down (fibre_in m.link d) → HasCause t x d m code
  -- each label that is asked for and that the link has is kept off by a leg of d
  HasNoLabel : code ≡ set_code → ((y : ℕ) → IsTrue (has m.set y) → 1 ≤ y → y ≤ m.link.labels →
      KeepsOff x.legs (asks_as m.role) (risks_of_primary (known_rows (local_node t d) x) m.role) (fibre_in m.link d) y) →
      HasCause t x d m code
  -- and so is each label for the way back, on the next link's fibre to d: where d doesn't convert, the one that came
  HasNoWayBack : (hop : Step) (rest : List Step) (out : LinkSpec) (up : ℕ) (f : Fibre) → code ≡ label_code →
      m.route ≡ hop ∷ rest → IsLinkAt t d hop.link out → m.upstream ≡ Some up →
      AreOpposite (fibre_out out d) f → ((y : ℕ) → ((local_node t d).convert ≡ true) ⊎ (y ≡ up) → 1 ≤ y →
      y ≤ out.labels →
      KeepsOff x.legs (asks_as m.role) (risks_of_primary (known_rows (local_node t d) x) m.role) f y) →
      HasCause t x d m code

-- A Path of an LSP that has no leg at d comes from another node, and what d sends back is a PathErr of its own: it has
-- a cause. None is that its route doesn't lead on, which never comes.
abbrev pub RefusalsHaveCauses : Network → List MeshEvent → Type 0
RefusalsHaveCauses t events =
    (u d e : NodeId) (l : Lsp) (k : LinkId)
    (route : List Step) (set : List ℕ) (up : Option ℕ) (r : PathRole) (ms : List Msg) (code : ErrCode) → u.0 ≢ d.0 →
    (after t start events).mail u.0 d.0 ≡ Path l e k route set up r ∷ ms →
    leg_at (after t start events) l d ≡ None →
    (step t (after t start events) (Take d u)).mail d.0 u.0 ≡
    (after t start events).mail d.0 u.0 ++ PathErr l e d true code ∷ [] → (link : LinkSpec) ×
    IsLinkAt t d k link × HasCause t ((after t start events).nodes d.0) d
    (record { lsp = l; egress = e; link = link; route = route; set = set; upstream = up; role = r }) code

-- over every network and every run
abbrev pub EveryRefusalHasCause : Type 0
EveryRefusalHasCause =
    (t : Network) (events : List MeshEvent) → IsRun t start events → RefusalsHaveCauses t events

-- The refusal of a call by its ingress

-- the route is the one that was given, or else the least that is allowed
abbrev pub GoesOver : Option (List Step) → (List Step → ℕ → Type 0) → List Step → Type 0
GoesOver via IsAllowed route = (via ≡ Some route) ⊎ ((via ≡ None) × ((cost : ℕ) × IsLeast IsAllowed route cost))

-- why the ingress n, which keeps x, blocks a call that is set up to this node; via: the route that was given
pub data SetupCause (t : Network) (x : NodeState) (n to : NodeId) (via : Option (List Step)) (both : Bool) (cause : Cause) :
    Type 0 where
  -- no route was given, and over the rows that n knows there is none
  HasNoRoute : cause ≡ NoRoute → via ≡ None → ((route : List Step) (cost : ℕ) →
      ¬ IsWalk (known_rows (local_node t n) x) NoLink NoNode n to route cost) → SetupCause t x n to via both cause
  -- a number that n would give out next has more than 16 bits
  HasNoNumber : cause ≡ Spent → (LAST_NUMBER < x.lsp) ⊎ (LAST_NUMBER < x.tunnel) → SetupCause t x n to via both cause
  HasNoRoom : cause ≡ Full → MOST_LEGS ≤ length x.legs → SetupCause t x n to via both cause
  -- the call is two-way, and each label of the fibre to n of the first link of its route is kept off by a leg of n
  HasNoReturn : (hop : Step) (rest : List Step) (out : LinkSpec) (f : Fibre) → cause ≡ Code label_code → both ≡ true →
      GoesOver via (IsWalk (known_rows (local_node t n) x) NoLink NoNode n to) (hop ∷ rest) → IsLinkAt t n hop.link out → AreOpposite (fibre_out out n) f →
      ((y : ℕ) → 1 ≤ y → y ≤ out.labels → KeepsOff x.legs role.Work [] f y) → SetupCause t x n to via both cause

-- why the ingress n, which keeps x, doesn't get a backup for the call c beside the working LSP, whose route was the
-- primary; o: the route on which each LSP was sent
pub data BackupCause (t : Network) (o : Lsp → Option (List Step)) (x : NodeState) (n : NodeId) (c : CallRec)
    (cause : Cause) : Type 0 where
  -- n doesn't know a link of the primary
  RiskIsUnknown : (l : Lsp) (primary : List Step) (hop : Step) → cause ≡ NoBackup → c.work ≡ Some l →
      o l ≡ Some primary → Contains primary hop →
      ((row : TeRow) → Contains (known_rows (local_node t n) x) row → row.link ≢ hop.link) →
      BackupCause t o x n c cause
  -- no backup route was given, and over the rows that n knows there is none
  HasNoBackup : (l : Lsp) (primary : List Step) → cause ≡ NoBackup → c.backup ≡ None → c.work ≡ Some l →
      o l ≡ Some primary → ((route : List Step) (cost : ℕ) →
      ¬ IsBackup (known_rows (local_node t n) x) primary n c.egress route cost) → BackupCause t o x n c cause
  -- no number or no room is left
  BackHasNoNumber : cause ≡ Spent → LAST_NUMBER < x.lsp → BackupCause t o x n c cause
  BackHasNoRoom : cause ≡ Full → MOST_LEGS ≤ length x.legs → BackupCause t o x n c cause
  -- the call is two-way, and each label of the fibre to n of the first link of the backup's route is kept off by a leg
  -- of n
  BackHasNoReturn : (l : Lsp) (g : Leg) (z : ℕ) (primary : List Step) (hop : Step) (rest : List Step) (out : LinkSpec)
      (f : Fibre) →
      cause ≡ Code label_code → c.work ≡ Some l → find_leg l x.legs ≡ Some g → g.back_in ≡ Some z →
      o l ≡ Some primary →
      GoesOver c.backup (IsBackup (known_rows (local_node t n) x) primary n c.egress) (hop ∷ rest) →
      IsLinkAt t n hop.link out → AreOpposite (fibre_out out n) f → ((y : ℕ) → 1 ≤ y →
      y ≤ out.labels →
      KeepsOff x.legs role.Back (route_risks (known_rows (local_node t n) x) primary) f y) →
      BackupCause t o x n c cause

-- The refusal of an activation

-- light of this label is on this fibre, there or back, at the leg
abbrev pub Uses : Fibre → ℕ → Leg → Type 0
Uses f x g = Arrives f x g ⊎ Leaves f x g

-- the leg of another backup that is being activated, is activated, or waits after that to be let go uses a label that
-- this leg uses
pub record IsBusy (legs : List Leg) (own : Leg) : Type 0 where
  pub other : Leg
  pub fibre : Fibre
  pub label : ℕ
  pub there : Contains legs other
  pub apart : other.lsp ≢ own.lsp
  pub role : other.role ≡ role.Back
  pub phase : (other.phase ≡ Armed) ⊎ ((other.phase ≡ Live) ⊎ (other.phase ≡ Falling))
  pub own_uses : Uses fibre label own
  pub other_uses : Uses fibre label other

-- A Path of an LSP whose leg stands at d comes from another node, and what d sends back is a PathErr that removes
-- nothing: it says busy, and the leg is.
abbrev pub BusyLegsAreBusy : Network → List MeshEvent → Type 0
BusyLegsAreBusy t events =
    (u d e : NodeId) (l : Lsp) (k : LinkId)
    (route : List Step) (set : List ℕ) (up : Option ℕ) (r : PathRole) (ms : List Msg) (g : Leg) (e' : NodeId)
    (code : ErrCode) → u.0 ≢ d.0 →
    (after t start events).mail u.0 d.0 ≡ Path l e k route set up r ∷ ms →
    leg_at (after t start events) l d ≡ Some g →
    (step t (after t start events) (Take d u)).mail d.0 u.0 ≡
    (after t start events).mail d.0 u.0 ++ PathErr l e' d false code ∷ [] →
    (code ≡ busy_code) × IsBusy ((after t start events).nodes d.0).legs g

-- over every network and every run
abbrev pub EveryBusyIsBusy : Type 0
EveryBusyIsBusy =
    (t : Network) (events : List MeshEvent) → IsRun t start events → BusyLegsAreBusy t events

-- A Resv comes to d from another node than the previous one of the leg, and what d sends to that one is a PathErr of
-- its own: each label that was offered and may go on from the one that came is kept off.
abbrev pub LacksHaveCauses : Network → List MeshEvent → Type 0
LacksHaveCauses t events =
    (u d v e : NodeId) (l : Lsp) (k : LinkId) (x : ℕ)
    (ms : List Msg) (g : Leg) (f : Fibre) (in_link : LinkSpec) (e' : NodeId) (code : ErrCode) → u.0 ≢ d.0 → v.0 ≢ d.0 →
    (after t start events).mail u.0 d.0 ≡ Resv l e k x ∷ ms →
    leg_at (after t start events) l d ≡ Some g → g.prev ≡ Some v → g.in_fibre ≡ Some f →
    IsLinkAt t d f.link in_link →
    (step t (after t start events) (Take d u)).mail d.0 v.0 ≡
    (after t start events).mail d.0 v.0 ++ PathErr l e' d true code ∷ [] → (y : ℕ) → IsTrue (has g.offered y) →
    ((local_node t d).convert ≡ true) ⊎ (y ≡ x) → 1 ≤ y → y ≤ in_link.labels →
    KeepsOff ((after t start events).nodes d.0).legs g.role g.risks f y

-- over every topology and every run
abbrev pub EveryLackHasCause : Type 0
EveryLackHasCause =
    (t : Network) (events : List MeshEvent) → IsTopology t → IsRun t start events → LacksHaveCauses t events

-- A Resv comes to the ingress n of a protected call, of the working LSP that the call waits for. The call stays as it
-- is, or a backup is asked for, or it stands without one for a cause.
abbrev pub LoneCallsHaveCauses : Network → List MeshEvent → Type 0
LoneCallsHaveCauses t events =
    (u n e : NodeId) (l : Lsp)
    (k : LinkId) (x : ℕ) (ms : List Msg) (m : CallNo) (c : CallRec) →
    (after t start events).mail u.0 n.0 ≡ Resv l e k x ∷ ms →
    find_call m ((after t start events).nodes n.0).calls ≡ Some c → c.state ≡ Asking → c.work ≡ Some l →
    c.protected ≡ true → (d : CallRec) ×
    (find_call m ((step t (after t start events) (Take n u)).nodes n.0).calls ≡ Some d) × ((d ≡ c) ⊎
    ((d.state ≡ Pairing) ⊎ ((d.state ≡ Bare)
    × BackupCause t (route_of t start events) ((after t start events).nodes n.0) n c d.cause)))

-- over every topology and every run
abbrev pub EveryLoneCallHasCause : Type 0
EveryLoneCallHasCause =
    (t : Network) (events : List MeshEvent) → IsTopology t → IsRun t start events → LoneCallsHaveCauses t events

-- The refusal of an LSP, as its call is told

-- the call asks for this LSP
abbrev pub AsksFor : Lsp → CallRec → Type 0
AsksFor l c = ((c.state ≡ Asking) × (c.work ≡ Some l)) ⊎ ((c.state ≡ Pairing) × (c.back ≡ Some l))

-- d is the call c after its LSP was refused with this code
pub record IsToldOf (code : ErrCode) (c d : CallRec) : Type 0 where
  pub cause : d.cause ≡ Code code
  pub work : c.state ≡ Asking → (d.state ≡ Blocked) × (d.work ≡ None)
  pub back : c.state ≡ Pairing → (d.state ≡ Bare) × (d.back ≡ None)

-- A PathErr that gives up an LSP comes to its ingress, where a call asks for the LSP: the call is told of the refusal
-- with the code that came.
abbrev pub RefusalsAreTold : Network → List MeshEvent → Type 0
RefusalsAreTold t events =
    (u n e at_node : NodeId) (l : Lsp) (code : ErrCode)
    (ms : List Msg) (m : CallNo) (c : CallRec) →
    (after t start events).mail u.0 n.0 ≡ PathErr l e at_node true code ∷ ms →
    find_call m ((after t start events).nodes n.0).calls ≡ Some c → AsksFor l c → (d : CallRec) ×
    (find_call m ((step t (after t start events) (Take n u)).nodes n.0).calls ≡ Some d) × IsToldOf code c d

-- over every network and every run
abbrev pub EveryRefusalIsTold : Type 0
EveryRefusalIsTold =
    (t : Network) (events : List MeshEvent) → IsRun t start events → RefusalsAreTold t events
