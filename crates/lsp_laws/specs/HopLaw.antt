-- What holds of each LSP, and of each hop of its route, in every state of every run.
use Rattle.std.specs.{Prelude.{◌≡◌, ◌≢◌, ◌<◌, ◌&&◌, ℕ, Bool, true, false, not, ◌⊎◌, List, [], ◌∷◌, map, filter, length, slice_get, Option, Some, None, IsTrue}, List.{AllByRecursion, Contains}}
use Rattle.ason_base.specs.{declared.ids.NodeId.NodeId, declared.ids.Lsp.Lsp, declared.steps.Step.Step, declared.network.LinkSpec.LinkSpec, declared.calls.Phase.TheVariants.Live, declared.calls.Role.Role, declared.messages.Msg.Msg, declared.messages.Msg.TheVariants.{Path, Resv, PathTear, PathErr, Notify}, declared.tables.Leg.Leg, Labels.has, Lsps.same_lsp, Network.{Network, find_link, other_end}, Routes.makes_route}
use Rattle.mesh_rules.specs.{declared.events.MeshEvent.MeshEvent, LocalNodes.{fibre_in, fibre_out}, Legs.{find_leg, is_beyond_asked, is_closing, reserved}, Machine.{Mesh, start}, Events.{IsRun, after, route_of}}
use Rattle.lsp_laws.specs.HopShapes.{HasLetGo, IsTorn, Removal, Shape, leg_kind, msg_kind, phase_kind}

-- The legs and messages of one LSP

abbrev pub lsp_of : Msg → Lsp
lsp_of (Path l e k route set up r) = l
lsp_of (Resv l e k x) = l
lsp_of (PathTear l e k) = l
lsp_of (PathErr l e at gone code) = l
lsp_of (Notify l e at k code) = l

abbrev pub is_notice : Msg → Bool
is_notice (Path l e k route set up r) = false
is_notice (Resv l e k x) = false
is_notice (PathTear l e k) = false
is_notice (PathErr l e at gone code) = false
is_notice (Notify l e at k code) = true

-- a message of this LSP, Notifies aside
abbrev pub is_message_of : Lsp → Msg → Bool
is_message_of l m = not (is_notice m) && same_lsp (lsp_of m) l

abbrev pub is_notice_of : Lsp → Msg → Bool
is_notice_of l m = is_notice m && same_lsp (lsp_of m) l

abbrev pub messages_of : Lsp → List Msg → List Msg
messages_of l ms = filter (is_message_of l) ms

abbrev pub notices_of : Lsp → List Msg → List Msg
notices_of l ms = filter (is_notice_of l) ms

abbrev pub leg_at : Mesh → Lsp → NodeId → Option Leg
leg_at s l n = find_leg l (s.nodes n.0).legs

-- from the first node to the second, the oldest first
abbrev pub mail_between : Mesh → Lsp → NodeId → NodeId → List Msg
mail_between s l u d = messages_of l (s.mail u.0 d.0)

abbrev pub notices_between : Mesh → Lsp → NodeId → NodeId → List Msg
notices_between s l u d = notices_of l (s.mail u.0 d.0)

-- the label of each Resv among these messages
abbrev pub EachLabel : (ℕ → Type 0) → List Msg → Type 0
EachLabel Q [] = Unit {0}
EachLabel Q (Path l e k route set up r ∷ ms) = EachLabel Q ms
EachLabel Q (Resv l e k x ∷ ms) = Q x × EachLabel Q ms
EachLabel Q (PathTear l e k ∷ ms) = EachLabel Q ms
EachLabel Q (PathErr l e at gone code ∷ ms) = EachLabel Q ms
EachLabel Q (Notify l e at k code ∷ ms) = EachLabel Q ms

-- the label for the way back of each Path among these messages
abbrev pub EachUpstream : (Option ℕ → Type 0) → List Msg → Type 0
EachUpstream Q [] = Unit {0}
EachUpstream Q (Path l e k route set up r ∷ ms) = Q up × EachUpstream Q ms
EachUpstream Q (Resv l e k x ∷ ms) = EachUpstream Q ms
EachUpstream Q (PathTear l e k ∷ ms) = EachUpstream Q ms
EachUpstream Q (PathErr l e at gone code ∷ ms) = EachUpstream Q ms
EachUpstream Q (Notify l e at k code ∷ ms) = EachUpstream Q ms

-- the legs of an LSP of this role at two neighbours, and its messages between them, have a shape of the table
abbrev pub HasShape : Mesh → Role → Lsp → NodeId → NodeId → Type 0
HasShape s r l u d =
    Shape r (leg_kind (leg_at s l u)) (leg_kind (leg_at s l d))
    (map msg_kind (mail_between s l u d)) (map msg_kind (mail_between s l d u))

-- One hop of an LSP of this role, over a link from u to d. Up are the messages from d to u.
pub record HopFits (s : Mesh) (r : Role) (l : Lsp) (link : LinkSpec) (u d : NodeId) : Type 0 where
  pub shape : HasShape s r l u d
  -- no message of an LSP comes down to its ingress
  pub onward : d.0 ≢ l.ingress.0
  -- the fibre out at u is the fibre in at d
  pub fibre : fibre_out link u ≡ fibre_in link d
  pub out_fibre : (g : Leg) → leg_at s l u ≡ Some g → g.out_fibre ≡ Some (fibre_out link u)
  pub in_fibre : (h : Leg) → leg_at s l d ≡ Some h → h.in_fibre ≡ Some (fibre_in link d)
  -- where u has a label out and d a label in, they are one
  pub labels : (g h : Leg) (x y : ℕ) → leg_at s l u ≡ Some g → leg_at s l d ≡ Some h →
      g.out_label ≡ Some x → h.in_label ≡ Some y → x ≡ y
  -- while d is beyond Asked, a Resv on its way up has d's label in, and u sent that label on
  pub answers : (g h : Leg) → leg_at s l u ≡ Some g → leg_at s l d ≡ Some h → IsTrue (is_beyond_asked h.phase) →
      EachLabel (λ x. (h.in_label ≡ Some x) × IsTrue (has g.sent x)) (mail_between s l d u)
  -- until d is torn, its back label out is u's back label in; both have none where the LSP is one-way
  pub back : (g h : Leg) → leg_at s l u ≡ Some g → leg_at s l d ≡ Some h → is_closing h.phase ≡ false →
      h.back_out ≡ g.back_in
  -- a Path on its way down has u's back label in as its label for the way back
  pub upstream : (g : Leg) → leg_at s l u ≡ Some g → EachUpstream (λ up. up ≡ g.back_in) (mail_between s l u d)
  -- where u is torn with a label out and d has let go, the message that says so is on its way up
  pub confirmed : (g : Leg) (x : ℕ) → leg_at s l u ≡ Some g → IsTorn r (phase_kind g.phase) → g.out_label ≡ Some x →
      HasLetGo r (leg_kind (leg_at s l d)) → Contains (map msg_kind (mail_between s l d u)) Removal

-- The hop of one step of a route: its link is there, and the LSP's legs and messages at its ends fit.
pub record StepFits (t : Network) (s : Mesh) (r : Role) (l : Lsp) (hop : Step) : Type 0 where
  pub link : LinkSpec
  pub found : find_link t hop.link ≡ Some link
  pub fits : HopFits s r l link hop.node (other_end link hop.node)

-- the two nodes are the ends of a step of the route, in one order or the other
pub record IsHopOfRoute (t : Network) (route : List Step) (a b : NodeId) : Type 0 where
  pub place : ℕ
  pub hop : Step
  pub link : LinkSpec
  pub there : slice_get route place ≡ Some hop
  pub found : find_link t hop.link ≡ Some link
  pub ends : ((a ≡ hop.node) × (b ≡ other_end link hop.node)) ⊎ ((a ≡ other_end link hop.node) × (b ≡ hop.node))

-- a step of the route begins at this node
abbrev pub IsNodeOnRoute : List Step → NodeId → Type 0
IsNodeOnRoute route n = (i : ℕ) × (hop : Step) × (slice_get route i ≡ Some hop) × (n ≡ hop.node)

-- the node is the end e of the route, or that of a step after the one at this place
abbrev pub IsBeyond : List Step → NodeId → ℕ → NodeId → Type 0
IsBeyond route e i n = (n ≡ e) ⊎ ((j : ℕ) × (hop : Step) × (i < j) × (slice_get route j ≡ Some hop) × (n ≡ hop.node))

abbrev pub NamesBeyond : List Step → NodeId → ℕ → Msg → Type 0
NamesBeyond route e i (Path l k link steps set up r) = ⊥
NamesBeyond route e i (Resv l k link x) = ⊥
NamesBeyond route e i (PathTear l k link) = ⊥
NamesBeyond route e i (PathErr l k at gone code) = ⊥
NamesBeyond route e i (Notify l k at link code) = IsBeyond route e i at

-- A Notify from a to b, of an LSP whose route ends at e: it goes up a step of the route, from the node at the far end
-- of its link to the one that the step leaves. It names the node that it comes from, or one beyond it.
pub record GoesUp (t : Network) (route : List Step) (e a b : NodeId) (m : Msg) : Type 0 where
  pub place : ℕ
  pub hop : Step
  pub link : LinkSpec
  pub there : slice_get route place ≡ Some hop
  pub found : find_link t hop.link ≡ Some link
  pub from : a ≡ other_end link hop.node
  pub to : b ≡ hop.node
  pub names : NamesBeyond route e place m

-- An LSP of this role with this route, which ends at e
pub record RouteFits (t : Network) (s : Mesh) (r : Role) (l : Lsp) (route : List Step) (e : NodeId) : Type 0 where
  pub long : 0 < length route
  pub leads : IsTrue (makes_route t l.ingress e route)
  pub hops : (i : ℕ) (hop : Step) → slice_get route i ≡ Some hop → StepFits t s r l hop
  -- its leg at the egress has from the first the phase that a leg gets with its label; that of a backup which is
  -- activated is Live
  pub egress : (g : Leg) → leg_at s l e ≡ Some g → (g.phase ≡ reserved r) ⊎ (g.phase ≡ Live)
  -- legs stand at the nodes of the route alone, and messages are on its hops alone
  pub legs : (n : NodeId) (g : Leg) → leg_at s l n ≡ Some g → (n ≡ e) ⊎ IsNodeOnRoute route n
  pub mail : (a b : NodeId) → (mail_between s l a b ≡ []) ⊎ IsHopOfRoute t route a b
  -- each leg has the LSP's role, and names the end of the route as its egress
  pub roles : (n : NodeId) (g : Leg) → leg_at s l n ≡ Some g → g.role ≡ r
  pub ends : (n : NodeId) (g : Leg) → leg_at s l n ≡ Some g → g.egress ≡ e
  -- Notifies go up the route alone
  pub notices : (a b : NodeId) → AllByRecursion (GoesUp t route e a b) (notices_between s l a b)

-- nothing of the LSP is anywhere
pub record IsBlank (s : Mesh) (l : Lsp) : Type 0 where
  pub legs : (n : NodeId) → leg_at s l n ≡ None
  pub mail : (a b : NodeId) → mail_between s l a b ≡ []
  pub notices : (a b : NodeId) → notices_between s l a b ≡ []

-- each LSP that was asked for is a working one or a backup
abbrev pub LspFits : Network → Mesh → Lsp → Option (List Step) → Type 0
LspFits t s l None = IsBlank s l
LspFits t s l (Some route) = (r : Role) × (e : NodeId) × RouteFits t s r l route e

-- a node has at most one leg of an LSP: each of its legs is the one that is found
abbrev pub HasOneLegEach : Mesh → Type 0
HasOneLegEach s = (n : NodeId) (g : Leg) → Contains (s.nodes n.0).legs g → leg_at s g.lsp n ≡ Some g

-- each hop of each LSP has a shape of the table, and what was never sent from its ingress is nowhere
abbrev pub EveryHopHasAShape : Type 0
EveryHopHasAShape =
    (t : Network) (events : List MeshEvent) → IsRun t start events →
    HasOneLegEach (after t start events) × ((l : Lsp) → LspFits t (after t start events) l (route_of t start events l))
