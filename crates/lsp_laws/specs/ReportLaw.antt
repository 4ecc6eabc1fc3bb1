-- What nodes and ingresses are told of failures: alarms, clears and Notifies (RFC 4872, section 8; RFC 3473, section
-- 4.3).
use Rattle.std.specs.{Prelude.{◌≡◌, ◌≤◌, ◌==◌, ◌||◌, ◌&&◌, ℕ, zero, suc, Bool, true, false, not, List, [], ◌∷◌, ◌++◌, Contains, Option, Some, None, IsTrue, All, drop, flat_map, slice_get, if◌then◌else◌}, List.AllByRecursion}
use Rattle.ason_base.specs.{Routes.makes_route, Lsps.{has_fibre, is_lsp, same_fibre}, Network.{IsTopology, Network, find_link, touches}, declared.commands.DeskItem.DeskItem, declared.commands.DeskItem.TheVariants.{Order, Alarm, Clear}, declared.ids.Fibre.Fibre, declared.ids.LinkId.LinkId, declared.ids.Lsp.Lsp, declared.ids.NodeId.NodeId, declared.messages.Msg.Msg, declared.messages.Msg.TheVariants.{Path, Resv, PathTear, PathErr, Notify}, declared.network.LinkSpec.LinkSpec, declared.steps.Step.Step, declared.tables.CallRec.CallRec, declared.tables.Leg.Leg}
use Rattle.mesh_rules.specs.{declared.events.MeshEvent.MeshEvent, Calls.call_with, Events.{IsRun, after, route_of}, Failures.is_cut, Legs.is_closing, LocalNodes.fibre_in, Machine.{Mesh, start}, Reports.{fibre_into, first_node, reported}}
use Rattle.lsp_laws.specs.HopLaw.{leg_at, notices_between}

-- What desks tell

-- whether the fibre is known to be down after an item, where it was or wasn't before it
abbrev pub after_item : Fibre → Bool → DeskItem → Bool
after_item f known (Order c) = known
after_item f known (Alarm g) = same_fibre f g || known
after_item f known (Clear g) = not (same_fibre f g) && known

-- .. after these items, one after the other
abbrev pub after_items : Fibre → Bool → List DeskItem → Bool
after_items f known [] = known
after_items f known (i ∷ items) = after_items f (after_item f known i) items

-- At each end of each link, of the fibre that comes in there: the items of the node's desk, one after the other on what
-- the node knows to be down, tell whether the fibre is physically down.
abbrev pub DesksTell : Network → Mesh → Type 0
DesksTell t s =
    (n : NodeId) (l : LinkSpec) → Contains t.links l → touches n l ≡ true →
    after_items (fibre_in l n) (has_fibre (s.nodes n.0).down (fibre_in l n)) (s.desks n.0) ≡ is_cut s.failed l

-- over every topology and every run
abbrev pub EveryDeskTellsFailures : Type 0
EveryDeskTellsFailures =
    (t : Network) (events : List MeshEvent) → IsTopology t → IsRun t start events → DesksTell t (after t start events)

-- What Notifies tell

-- what a Notify tells of the fibre that comes in at the node n over the link k
abbrev pub told_list : Option Bool → List Bool
told_list None = []
told_list (Some down) = down ∷ []

abbrev pub told_by : NodeId → LinkId → Msg → List Bool
told_by n k (Path l e link route set up r) = []
told_by n k (Resv l e link x) = []
told_by n k (PathTear l e link) = []
told_by n k (PathErr l e at gone code) = []
told_by n k (Notify l e at link code) = if at.0 == n.0 && link.0 == k.0 then told_list (reported code) else []

abbrev pub told_by_all : NodeId → LinkId → List Msg → List Bool
told_by_all n k ms = flat_map (told_by n k) ms

-- whether a fibre is known to be down, where it was or wasn't before all of these were told, one after the other
abbrev pub told : Bool → List Bool → Bool
told known [] = known
told known (down ∷ more) = told down more

-- Of which fibres

-- the fibre is one of the route that the LSP's ingress sent it on, o of each LSP: it comes in at a node of the route
pub record IsOfRoute (t : Network) (o : Lsp → Option (List Step)) (l : Lsp) (f : Fibre) : Type 0 where
  pub route : List Step
  pub sent : o l ≡ Some route
  -- the route leads from the ingress to this node
  pub to : NodeId
  pub made : IsTrue (makes_route t l.ingress to route)
  pub at : NodeId
  pub link : LinkId
  pub into : fibre_into route to at link ≡ Some f

-- R holds of each of these fibres, which are reported of an LSP
abbrev pub AreOf : (Lsp → Fibre → Type 0) → Option Lsp → List Fibre → Type 0
AreOf R None fibres = Unit {0}
AreOf R (Some l) fibres = AllByRecursion (R l) fibres

pub record ReportsAreOf (R : Lsp → Fibre → Type 0) (c : CallRec) : Type 0 where
  pub work : AreOf R c.work c.work_reports
  pub back : AreOf R c.back c.back_reports

-- each fibre that is reported of an LSP of a call is of the LSP's route
abbrev pub ReportsAreOfRoutes : Network → List MeshEvent → CallRec → Type 0
ReportsAreOfRoutes t events c = ReportsAreOf (IsOfRoute t (route_of t start events)) c

-- over every network and every run, at each node
abbrev pub EveryReportIsOfItsRoute : Type 0
EveryReportIsOfItsRoute =
    (t : Network) (events : List MeshEvent) → IsRun t start events → (n : ℕ) →
    All (ReportsAreOfRoutes t events) ((after t start events).nodes n).calls

-- Along a route

-- the node at a place of a route to e, from 0 on
abbrev pub place_at : List Step → NodeId → ℕ → NodeId
place_at route e i = first_node (drop i route) e

-- what the LSP's Notifies from the node after a place to the node at it tell of that fibre
abbrev pub told_over : Mesh → Lsp → List Step → NodeId → NodeId → LinkId → ℕ → List Bool
told_over s l route e n k j =
    told_by_all n k (notices_between s l (place_at route e (suc j)) (place_at route e j))

-- what is told on the way to the ingress from a place on, the nearest to the ingress first
abbrev pub on_the_way : (ℕ → List Bool) → ℕ → List Bool
on_the_way line zero = []
on_the_way line (suc i) = on_the_way line i ++ line i

-- a leg that isn't torn
abbrev pub is_standing : Option Leg → Bool
is_standing None = false
is_standing (Some g) = not (is_closing g.phase)

-- at each node of the route up to this place
abbrev pub StandsTo : Mesh → Lsp → List Step → NodeId → ℕ → Type 0
StandsTo s l route e i = (j : ℕ) → j ≤ i → IsTrue (is_standing (leg_at s l (place_at route e j)))

-- the fibres of the LSP's route that the call knows to be down
abbrev pub reports_of : Lsp → CallRec → List Fibre
reports_of l c = if is_lsp c.work l then c.work_reports else c.back_reports

abbrev pub is_reported : Lsp → Fibre → Option CallRec → Bool
is_reported l f None = false
is_reported l f (Some c) = has_fibre (reports_of l c) f

-- The node after this place, which the link leads to: what its Notifies on the way tell, on what the call at the
-- ingress knows, is what the node knows.
abbrev pub PlaceTells : Mesh → Lsp → List Step → NodeId → ℕ → LinkSpec → NodeId → Type 0
PlaceTells s l route e i link n =
    told (is_reported l (fibre_in link n) (call_with l (s.nodes l.ingress.0).calls))
    (on_the_way (told_over s l route e n link.id) (suc i))
    ≡ has_fibre (s.nodes n.0).down (fibre_in link n)

-- each place up to which the LSP stands
abbrev pub RouteTells : Network → Mesh → Lsp → List Step → NodeId → Type 0
RouteTells t s l route e =
    (i : ℕ) (hop : Step) (link : LinkSpec) → slice_get route i ≡ Some hop → find_link t hop.link ≡ Some link →
    StandsTo s l route e (suc i) → PlaceTells s l route e i link (place_at route e (suc i))

-- each LSP that stands at its ingress
abbrev pub ReportsTell : Network → List MeshEvent → Type 0
ReportsTell t events =
    (l : Lsp) (route : List Step) (g : Leg) → route_of t start events l ≡ Some route →
    leg_at (after t start events) l l.ingress ≡ Some g → RouteTells t (after t start events) l route g.egress

-- over every topology and every run
abbrev pub EveryReportTellsFailures : Type 0
EveryReportTellsFailures =
    (t : Network) (events : List MeshEvent) → IsTopology t → IsRun t start events → ReportsTell t events
