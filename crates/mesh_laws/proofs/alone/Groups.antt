-- What concerns one of these groups: all that is activated, reported, under way or waiting for a failure, where they
-- alone fail. Each word is the one of AloneLaw, over a list of groups.
use Rattle.std.specs.{Prelude.{◌≡◌, Bool, true, false, List, [], ◌∷◌, IsTrue, Contains}, List.{AllByRecursion, list_any}}
use Rattle.ason_base.specs.{Network.{Network, find_link}, Risks.has_risk, declared.ids.Fibre.Fibre, declared.ids.LinkId.LinkId, declared.calls.CallState.TheVariants.Stuck, declared.commands.Command.TheVariants.{Setup, Release, Protect, Retry, Revert, Fail, Repair}, declared.commands.DeskItem.DeskItem, declared.commands.DeskItem.TheVariants.{Order, Alarm, Clear}, declared.commands.Group.Group, declared.messages.Msg.Msg, declared.messages.Msg.TheVariants.{Path, Resv, PathTear, PathErr, Notify}, declared.messages.PathRole.PathRole, declared.messages.PathRole.TheVariants.{Work, Back}, declared.risks.Risk.Risk, declared.steps.Step.Step, declared.tables.CallRec.CallRec, declared.tables.Leg.Leg}
use Rattle.mesh_rules.specs.{declared.events.MeshEvent.MeshEvent, declared.events.MeshEvent.TheVariants.{Take, Desk, Tick, Learn, Post}, Legs.is_marked}
use Rattle.mesh_laws.specs.AloneLaw.{finds_busy, is_risk_there, risk_of}

-- two groups or more
abbrev pub are_many : List Group → Bool
are_many [] = false
are_many (g ∷ []) = false
are_many (g ∷ h ∷ gs) = true

-- one of the groups is a risk of the link
abbrev pub any_on_link : Network → List Group → LinkId → Bool
any_on_link t gs k = list_any (is_risk_there (find_link t k)) gs

-- or of a link of the route
abbrev pub any_on_route : Network → List Group → List Step → Bool
any_on_route t gs route = list_any (λ hop. any_on_link t gs hop.link) route

-- or is one of these risks
abbrev pub has_one : List Risk → List Group → Bool
has_one risks gs = list_any (λ g. has_risk risks (risk_of g)) gs

abbrev pub LegConcernsGroups : List Group → Leg → Type 0
LegConcernsGroups gs b = IsTrue (is_marked b) → IsTrue (has_one b.risks gs)

abbrev pub FibreConcernsGroups : Network → List Group → Fibre → Type 0
FibreConcernsGroups t gs f = IsTrue (any_on_link t gs f.link)

-- a call is stuck only where two groups may have failed, and never since a label of its backup is in use
pub record CallConcernsGroups (t : Network) (gs : List Group) (c : CallRec) : Type 0 where
  pub work_reports : AllByRecursion (FibreConcernsGroups t gs) c.work_reports
  pub back_reports : AllByRecursion (FibreConcernsGroups t gs) c.back_reports
  pub free : c.state ≡ Stuck → IsTrue (are_many gs)
  pub admitted : finds_busy c ≡ false

abbrev pub RoleConcerns : Network → List Group → PathRole → Type 0
RoleConcerns t gs (Work guard) = Unit {0}
RoleConcerns t gs (Back true work primary) = IsTrue (any_on_route t gs primary)
RoleConcerns t gs (Back false work primary) = Unit {0}

abbrev pub MsgConcernsGroups : Network → List Group → Msg → Type 0
MsgConcernsGroups t gs (Path l e k route set up r) = RoleConcerns t gs r
MsgConcernsGroups t gs (Resv l e k x) = Unit {0}
MsgConcernsGroups t gs (PathTear l e k) = Unit {0}
MsgConcernsGroups t gs (PathErr l e at true code) = Unit {0}
MsgConcernsGroups t gs (PathErr l e at false code) = ⊥
MsgConcernsGroups t gs (Notify l e at k code) = IsTrue (any_on_link t gs k)

abbrev pub ItemConcernsGroups : Network → List Group → DeskItem → Type 0
ItemConcernsGroups t gs (Order c) = Unit {0}
ItemConcernsGroups t gs (Alarm f) = FibreConcernsGroups t gs f
ItemConcernsGroups t gs (Clear f) = FibreConcernsGroups t gs f

-- no group but these fails in this event
abbrev pub FailsOnlyGroups : List Group → MeshEvent → Type 0
FailsOnlyGroups gs (Take d u) = Unit {0}
FailsOnlyGroups gs (Desk n) = Unit {0}
FailsOnlyGroups gs (Tick n) = Unit {0}
FailsOnlyGroups gs (Learn n k) = Unit {0}
FailsOnlyGroups gs (Post (Setup n from to protected both via backup)) = Unit {0}
FailsOnlyGroups gs (Post (Release n from)) = Unit {0}
FailsOnlyGroups gs (Post (Protect n from)) = Unit {0}
FailsOnlyGroups gs (Post (Retry n from)) = Unit {0}
FailsOnlyGroups gs (Post (Revert n from)) = Unit {0}
FailsOnlyGroups gs (Post (Fail h)) = Contains gs h
FailsOnlyGroups gs (Post (Repair h)) = Unit {0}
