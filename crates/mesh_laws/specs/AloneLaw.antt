-- While one group alone fails after a calm state, no activation of a backup is refused, at its ingress or on its way: a
-- label is shared by backups whose primaries have no risk in common, and all that is activated concerns the one group
-- (RFC 4872, section 8).
use Rattle.std.specs.{Prelude.{◌≡◌, ◌≢◌, ◌&&◌, ℕ, Bool, true, false, not, List, [], ◌∷◌, ◌++◌, Option, Some, None, IsTrue}, List.{AllByRecursion, list_any}}
use Rattle.ason_base.specs.{Codes.busy_code, Network.{IsTopology, Network, find_link}, Risks.has_risk, declared.ids.Fibre.Fibre, declared.ids.LinkId.LinkId, declared.network.LinkSpec.LinkSpec, declared.calls.CallState.TheVariants.Stuck, declared.calls.Cause.Cause, declared.calls.Cause.TheVariants.Code, declared.calls.Phase.Phase, declared.calls.Phase.TheVariants.{Asked, Held, Armed, Live, Closing, Falling}, declared.commands.Command.TheVariants.{Setup, Release, Protect, Retry, Revert, Fail, Repair}, declared.commands.DeskItem.DeskItem, declared.commands.DeskItem.TheVariants.{Order, Alarm, Clear}, declared.commands.Group.Group, declared.messages.Msg.Msg, declared.messages.Msg.TheVariants.{Path, Resv, PathTear, PathErr, Notify}, declared.messages.PathRole.PathRole, declared.messages.PathRole.TheVariants.{Work, Back}, declared.risks.Risk.Risk, declared.steps.Step.Step, declared.tables.CallRec.CallRec, declared.tables.Leg.Leg, declared.tables.Out.Out}
use Rattle.ason_base.specs.declared.calls.Role.TheVariants as role
use Rattle.ason_base.specs.declared.commands.Group.TheVariants as group
use Rattle.ason_base.specs.declared.risks.Risk.TheVariants as risk
use Rattle.mesh_rules.specs.{declared.events.MeshEvent.MeshEvent, declared.events.MeshEvent.TheVariants.{Take, Desk, Tick, Learn, Post}, Calls.is_stuck, Events.{IsRun, after, on_first, on_first_item, step}, Failures.is_risk_of, Learnt.on_link, Legs.is_marked, LocalNodes.local_node, Machine.{Mesh, start}, Waits.on_tick, Paths.is_active, Reports.same_code, State.NodeState}

-- A group

abbrev pub risk_of : Group → Risk
risk_of (group.Srlg s) = risk.Srlg s
risk_of (group.Link k) = risk.Link k

abbrev pub is_risk_there : Option LinkSpec → Group → Bool
is_risk_there None g = false
is_risk_there (Some l) g = is_risk_of l g

-- the group is one of the risks of the network's link
abbrev pub is_on_link : Network → Group → LinkId → Bool
is_on_link t g k = is_risk_there (find_link t k) g

-- or of a link of the route
abbrev pub is_on_route : Network → Group → List Step → Bool
is_on_route t g route = list_any (λ hop. is_on_link t g hop.link) route

-- What concerns the group

-- the recorded risks of a backup that is Armed, Live or Falling have it
abbrev pub LegConcerns : Group → Leg → Type 0
LegConcerns g b = IsTrue (is_marked b) → IsTrue (has_risk b.risks (risk_of g))

abbrev pub FibreConcerns : Network → Group → Fibre → Type 0
FibreConcerns t g f = IsTrue (is_on_link t g f.link)

-- the fibres that are reported down are on its links, and the call isn't stuck
pub record CallConcerns (t : Network) (g : Group) (c : CallRec) : Type 0 where
  pub work_reports : AllByRecursion (FibreConcerns t g) c.work_reports
  pub back_reports : AllByRecursion (FibreConcerns t g) c.back_reports
  pub free : c.state ≢ Stuck

-- of a Path that activates a backup, the primary's route
abbrev pub RoleConcerns : Network → Group → PathRole → Type 0
RoleConcerns t g (Work guard) = Unit {0}
RoleConcerns t g (Back true work primary) = IsTrue (is_on_route t g primary)
RoleConcerns t g (Back false work primary) = Unit {0}

-- and of a Notify its link; and no PathErr without Path_State_Removed is under way
abbrev pub MsgConcerns : Network → Group → Msg → Type 0
MsgConcerns t g (Path l e k route set up r) = RoleConcerns t g r
MsgConcerns t g (Resv l e k x) = Unit {0}
MsgConcerns t g (PathTear l e k) = Unit {0}
MsgConcerns t g (PathErr l e at true code) = Unit {0}
MsgConcerns t g (PathErr l e at false code) = ⊥
MsgConcerns t g (Notify l e at k code) = IsTrue (is_on_link t g k)

abbrev pub ItemConcerns : Network → Group → DeskItem → Type 0
ItemConcerns t g (Order c) = Unit {0}
ItemConcerns t g (Alarm f) = FibreConcerns t g f
ItemConcerns t g (Clear f) = FibreConcerns t g f

pub record NodeConcerns (t : Network) (g : Group) (s : NodeState) : Type 0 where
  pub legs : AllByRecursion (LegConcerns g) s.legs
  pub calls : AllByRecursion (CallConcerns t g) s.calls
  -- the fibres in that are known to be down
  pub down : AllByRecursion (FibreConcerns t g) s.down

-- everywhere in the mesh; and no other group has failed
pub record AllConcern (t : Network) (g : Group) (s : Mesh) : Type 0 where
  pub nodes : (n : ℕ) → NodeConcerns t g (s.nodes n)
  pub desks : (n : ℕ) → AllByRecursion (ItemConcerns t g) (s.desks n)
  pub mail : (u d : ℕ) → AllByRecursion (MsgConcerns t g) (s.mail u d)
  pub failed : AllByRecursion (λ h. h ≡ g) s.failed

-- Calm

-- no activation has passed a backup's leg
abbrev pub is_idle : Phase → Bool
is_idle Asked = true
is_idle Held = true
is_idle Armed = false
is_idle Live = false
is_idle Closing = true
is_idle Falling = false

abbrev pub LegIsCalm : Leg → Type 0
LegIsCalm g = g.role ≡ role.Back → IsTrue (is_idle g.phase)

-- no fibre is reported down
abbrev pub CallIsCalm : CallRec → Type 0
CallIsCalm c = (c.work_reports ≡ []) × (c.back_reports ≡ [])

-- no Path that activates, no PathErr without Path_State_Removed, and no Notify
abbrev pub is_calm_msg : Msg → Bool
is_calm_msg (Path l e k route set up r) = not (is_active r)
is_calm_msg (Resv l e k x) = true
is_calm_msg (PathTear l e k) = true
is_calm_msg (PathErr l e at gone code) = gone
is_calm_msg (Notify l e at k code) = false

-- no alarm and no clear
abbrev pub is_calm_item : DeskItem → Bool
is_calm_item (Order c) = true
is_calm_item (Alarm f) = false
is_calm_item (Clear f) = false

-- no group has failed, and nothing of an earlier failure is left
pub record Calm (s : Mesh) : Type 0 where
  pub failed : s.failed ≡ []
  pub desks : (n : ℕ) → AllByRecursion (λ i. IsTrue (is_calm_item i)) (s.desks n)
  pub down : (n : ℕ) → (s.nodes n).down ≡ []
  pub reports : (n : ℕ) → AllByRecursion CallIsCalm (s.nodes n).calls
  pub legs : (n : ℕ) → AllByRecursion LegIsCalm (s.nodes n).legs
  pub mail : (u d : ℕ) → AllByRecursion (λ m. IsTrue (is_calm_msg m)) (s.mail u d)

-- Alone

-- no other group fails in this event
abbrev pub FailsOnly : Group → MeshEvent → Type 0
FailsOnly g (Take d u) = Unit {0}
FailsOnly g (Desk n) = Unit {0}
FailsOnly g (Tick n) = Unit {0}
FailsOnly g (Learn n k) = Unit {0}
FailsOnly g (Post (Setup n from to protected both via backup)) = Unit {0}
FailsOnly g (Post (Release n from)) = Unit {0}
FailsOnly g (Post (Protect n from)) = Unit {0}
FailsOnly g (Post (Retry n from)) = Unit {0}
FailsOnly g (Post (Revert n from)) = Unit {0}
FailsOnly g (Post (Fail h)) = h ≡ g
FailsOnly g (Post (Repair h)) = Unit {0}

-- since a calm state of the run only this group failed
pub record Alone (t : Network) (events : List MeshEvent) (g : Group) : Type 0 where
  pub before : List MeshEvent
  pub since : List MeshEvent
  pub parts : before ++ since ≡ events
  pub calm : Calm (after t start before)
  pub only : AllByRecursion (FailsOnly g) since

-- Refusals

-- a PathErr without Path_State_Removed: a label of the backup is in use
abbrev pub is_refusal : Msg → Bool
is_refusal (Path l e k route set up r) = false
is_refusal (Resv l e k x) = false
is_refusal (PathTear l e k) = false
is_refusal (PathErr l e at gone code) = not gone && same_code code busy_code
is_refusal (Notify l e at k code) = false

-- such a label was found
abbrev pub is_of_busy : Cause → Bool
is_of_busy (Code code) = same_code code busy_code
is_of_busy cause = false

-- the call couldn't turn, at its ingress or further on, since a label of its backup is in use
abbrev pub finds_busy : CallRec → Bool
finds_busy c = is_stuck c.state && is_of_busy c.cause

abbrev pub NoneFindsBusy : Mesh → Type 0
NoneFindsBusy s = (n : ℕ) → AllByRecursion (λ c. finds_busy c ≡ false) (s.nodes n).calls

-- what a step sends
abbrev pub sent_in : Network → Mesh → MeshEvent → List Out
sent_in t s (Take d u) = (on_first (local_node t d) (s.nodes d.0) u (s.mail u.0 d.0)).sent
sent_in t s (Desk n) = (on_first_item (local_node t n) (s.nodes n.0) (s.desks n.0)).sent
sent_in t s (Tick n) = (on_tick (local_node t n) (s.nodes n.0)).sent
sent_in t s (Learn n k) = (on_link (local_node t n) (s.nodes n.0) (find_link t k)).sent
sent_in t s (Post c) = []

-- in no step from here on an activation is refused, no refusal is passed back, and no call is left that couldn't turn
abbrev pub NoneRefused : Network → Mesh → List MeshEvent → Type 0
NoneRefused t s [] = Unit {0}
NoneRefused t s (e ∷ es) =
    AllByRecursion (λ o. is_refusal o.msg ≡ false) (sent_in t s e) × NoneFindsBusy (step t s e)
    × NoneRefused t (step t s e) es

-- While one group alone has failed no activation is refused; and all that is activated, reported, under way or waiting
-- for a failure concerns the group.
abbrev pub ActivationsAreAdmitted : Network → List MeshEvent → Type 0
ActivationsAreAdmitted t events =
    (g : Group) (alone : Alone t events g) →
    NoneRefused t (after t start alone.before) alone.since × AllConcern t g (after t start events)

-- over every topology and every run
abbrev pub EveryActivationIsAdmitted : Type 0
EveryActivationIsAdmitted =
    (t : Network) (events : List MeshEvent) → IsTopology t → IsRun t start events → ActivationsAreAdmitted t events

-- every run begins with a calm state
abbrev pub EveryRunStartsCalm : Type 0
EveryRunStartsCalm = Calm start
